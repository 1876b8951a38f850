-- A record is packed field by field and element by element: what is still to be packed stays the same.
use Rattle.std.proofs.Common.{◌≡◌, ℕ, suc, ◌+◌, ◌*◌, ◌≤◌, List, length, sym, ap, ◌∙◌, subst, arith}
use Rattle.evp_format.specs.declared.field.Field.{Field}
use Rattle.evp_format.specs.Datum.{Datum, Elements, empty_list, element, Entries, entry, count_of}
use Rattle.evp_format.specs.LaidTree.{AreLaidBranches, IsLaidPart}
use Rattle.evp_format.specs.Layout.{Layout}
use Rattle.evp_format.specs.Packing.{Pieces, machine_of, pack_branches}
use Rattle.evp_format.specs.Tree.{Branches, no_fields, branch, fields_of}
use Rattle.evp_format.specs.Typed.{EachElement, IsOfBranches}
use Rattle.evp_format.specs.WellLaid.{extent}
use Rattle.evp_record.proofs.Onto.{length-onto, onto-then, onto-none}
use Rattle.evp_record.proofs.Pieces.{Within, IsPlaced, IsBelow}
use Rattle.evp_record.proofs.Placed.{PlacesEach, placed_part, placed_elements, placed_shaped, placed_branches, AreInPlace, InFields}
use Rattle.evp_record.specs.Onto.{onto, part_in, element_pieces, list_pieces, field_pieces, IsElementOf, AreSmall}

-- each element of a field is placed in its extent
pub places_element : (layout : Layout) (field : Field) → IsLaidPart layout.pointer field.size (part_in layout field)
    → PlacesEach (IsElementOf layout field) field.size (element_pieces layout field)
places_element layout field laid offset value size typed fits = placed_part (machine_of layout) (part_in layout field) field.size offset
    value size laid typed fits

pub within_below : (at extent size : ℕ) → at + extent ≤ size → IsBelow (Within at extent) size
within_below at extent size fits piece here = omega (arith, here.to, fits)

-- elements k, k + 1 and so on are still to be packed; `whole` is to be packed onto `start` in all
pub record IsPackingList (layout : Layout) (field : Field) (at : ℕ) (start : List ℕ) (whole : Pieces) (out : List ℕ) (k : ℕ)
    (elements : Elements) : Type 0 where
  pub same : onto start whole ≡ onto out (list_pieces layout field at elements k (length out))
  pub small : AreSmall (list_pieces layout field at elements k (length out))
  pub each : EachElement (IsElementOf layout field) elements
  pub inside : at + (k + count_of elements) * field.size ≤ length out

-- the first of the elements that are still to be packed
pub first_is_small : (layout : Layout) (field : Field) (at : ℕ) (start : List ℕ) (whole : Pieces) (out : List ℕ) (k : ℕ) (datum : Datum)
    (rest : Elements)
    → IsLaidPart layout.pointer field.size (part_in layout field) → IsPackingList layout field at start whole out k (element datum rest)
    → AreSmall (element_pieces layout field (at + k * field.size) datum (length out)) × (at + k * field.size + field.size ≤ length out)
first_is_small layout field at start whole out k datum rest laid packing =
    let first = element_pieces layout field (at + k * field.size) datum (length out) in
    let inside : at + k * field.size + field.size ≤ length out = omega (arith, packing.inside) in
    let placed : IsPlaced (Within (at + k * field.size) field.size) (length out) first = places_element layout field laid
    (at + k * field.size) datum (length out) packing.each.0 inside in
    let others = placed_elements (IsElementOf layout field) field.size (element_pieces layout field) (places_element layout field laid) rest
    at (suc k) first.size packing.each.1
    (omega (arith, packing.inside, placed.grows)) in
    (omega (arith, packing.small, others.grows), inside)

-- the others, once the first is packed
pub packing_next : (layout : Layout) (field : Field) (at : ℕ) (start : List ℕ) (whole : Pieces) (out next : List ℕ) (k : ℕ) (datum : Datum)
    (rest : Elements)
    → IsLaidPart layout.pointer field.size (part_in layout field) → IsPackingList layout field at start whole out k (element datum rest)
    → next ≡ onto out (element_pieces layout field (at + k * field.size) datum (length out))
    → IsPackingList layout field at start whole next (suc k) rest
packing_next layout field at start whole out next k datum rest laid packing is =
    let place = at + k * field.size in
    let first = element_pieces layout field place datum (length out) in
    let inside : place + field.size ≤ length out = omega (arith, packing.inside) in
    let placed : IsPlaced (Within place field.size) (length out) first = places_element layout field laid place datum (length out)
    packing.each.0 inside in
    let others = placed_elements (IsElementOf layout field) field.size (element_pieces layout field) (places_element layout field laid) rest
    at (suc k) first.size packing.each.1
    (omega (arith, packing.inside, placed.grows)) in
    let low = within_below place field.size (length out) inside in
    let long : length next ≡ first.size = ap length is ∙ length-onto (Within place field.size) out first low placed in
    let Small : ℕ → Type 0 = λ n. AreSmall (list_pieces layout field at rest (suc k) n) in
    record {
      same =
          packing.same ∙ onto-then (Within place field.size) out first (list_pieces layout field at rest (suc k) first.size) low placed
          others.grows
          ∙ ap (λ (b : List ℕ). onto b (list_pieces layout field at rest (suc k) first.size)) (sym is)
          ∙ ap (λ (n : ℕ). onto next (list_pieces layout field at rest (suc k) n)) (sym long);
      small = subst Small (sym long) packing.small;
      each = packing.each.1;
      inside = omega (arith, packing.inside, long, placed.grows);
    }

-- nothing is left
pub packed_list : (layout : Layout) (field : Field) (at : ℕ) (start : List ℕ) (whole : Pieces) (out : List ℕ) (k : ℕ)
    → IsPackingList layout field at start whole out k empty_list → out ≡ onto start whole
packed_list layout field at start whole out k packing = sym (packing.same ∙ onto-none out)

-- these fields of the record at `at` are still to be packed
pub record IsPackingRecord (layout : Layout) (at fixed : ℕ) (all : Entries) (start : List ℕ) (whole : Pieces) (out : List ℕ)
    (branches : Branches) (entries : Entries) : Type 0 where
  pub same : onto start whole ≡ onto out (pack_branches (machine_of layout) branches at entries (length out))
  pub small : AreSmall (pack_branches (machine_of layout) branches at entries (length out))
  pub typed : IsOfBranches all branches entries
  pub laid : AreLaidBranches layout.pointer branches
  pub places : AreInPlace layout.pointer fixed (fields_of branches)
  pub inside : at + fixed ≤ length out

-- the pieces of the first field, where the record is packed so far
placed_field : (layout : Layout) (at fixed : ℕ) (all : Entries) (start : List ℕ) (whole : Pieces) (out : List ℕ) (field : Field)
    (rest : Branches) (name : List ℕ) (datum : Datum) (others : Entries)
    → IsPackingRecord layout at fixed all start whole out (branch field (part_in layout field) rest) (entry name datum others)
    → IsPlaced (Within (at + field.offset) (extent layout.pointer field)) (length out) (field_pieces layout field at datum (length out))
placed_field layout at fixed all start whole out field rest name datum others packing =
    placed_shaped (machine_of layout) all field field.shape (IsElementOf layout field) (element_pieces layout field)
    (places_element layout field packing.laid.1) at datum (length out) packing.typed.1
    (omega (arith, packing.places.0, packing.inside))

-- the pieces of the fields behind it
placed_others : (layout : Layout) (at fixed : ℕ) (all : Entries) (start : List ℕ) (whole : Pieces) (out : List ℕ) (field : Field)
    (rest : Branches) (name : List ℕ) (datum : Datum) (others : Entries)
    → IsPackingRecord layout at fixed all start whole out (branch field (part_in layout field) rest) (entry name datum others)
    → IsPlaced (InFields layout.pointer at (fields_of rest)) (field_pieces layout field at datum (length out)).size
    (pack_branches (machine_of layout) rest at others (field_pieces layout field at datum (length out)).size)
placed_others layout at fixed all start whole out field rest name datum others packing =
    let placed = placed_field layout at fixed all start whole out field rest name datum others packing in
    placed_branches (machine_of layout) rest fixed at all others (field_pieces layout field at datum (length out)).size packing.laid.2
    packing.places.2 packing.typed.2
    (omega (arith, packing.inside, placed.grows))

-- the first of the fields that are still to be packed
pub first_field_is_small : (layout : Layout) (at fixed : ℕ) (all : Entries) (start : List ℕ) (whole : Pieces) (out : List ℕ) (field : Field)
    (rest : Branches) (name : List ℕ) (datum : Datum)
    (others : Entries) → IsPackingRecord layout at fixed all start whole out (branch field (part_in layout field) rest)
    (entry name datum others)
    → AreSmall (field_pieces layout field at datum (length out)) × (at + field.offset + extent layout.pointer field ≤ length out)
first_field_is_small layout at fixed all start whole out field rest name datum others packing =
    let behind = placed_others layout at fixed all start whole out field rest name datum others packing in
    (omega (arith, packing.small, behind.grows), omega (arith, packing.places.0, packing.inside))

-- the others, once the first is packed
pub packing_next_field : (layout : Layout) (at fixed : ℕ) (all : Entries) (start : List ℕ) (whole : Pieces) (out next : List ℕ)
    (field : Field) (rest : Branches) (name : List ℕ) (datum : Datum)
    (others : Entries) → IsPackingRecord layout at fixed all start whole out (branch field (part_in layout field) rest)
    (entry name datum others)
    → next ≡ onto out (field_pieces layout field at datum (length out)) → IsPackingRecord layout at fixed all start whole next rest others
packing_next_field layout at fixed all start whole out next field rest name datum others packing is =
    let machine = machine_of layout in
    let R = Within (at + field.offset) (extent layout.pointer field) in
    let first = field_pieces layout field at datum (length out) in
    let placed = placed_field layout at fixed all start whole out field rest name datum others packing in
    let behind = placed_others layout at fixed all start whole out field rest name datum others packing in
    let low : IsBelow R (length out) = within_below (at + field.offset) (extent layout.pointer field) (length out)
    (omega (arith, packing.places.0, packing.inside)) in
    let long : length next ≡ first.size = ap length is ∙ length-onto R out first low placed in
    let Small : ℕ → Type 0 = λ n. AreSmall (pack_branches machine rest at others n) in
    record {
      same =
          packing.same ∙ onto-then R out first (pack_branches machine rest at others first.size) low placed behind.grows
          ∙ ap (λ (b : List ℕ). onto b (pack_branches machine rest at others first.size)) (sym is)
          ∙ ap (λ (n : ℕ). onto next (pack_branches machine rest at others n)) (sym long);
      small = subst Small (sym long) packing.small;
      typed = packing.typed.2;
      laid = packing.laid.2;
      places = packing.places.2;
      inside = omega (arith, packing.inside, long, placed.grows);
    }

-- no field is left
pub packed_record : (layout : Layout) (at fixed : ℕ) (all : Entries) (start : List ℕ) (whole : Pieces) (out : List ℕ) (entries : Entries)
    → IsPackingRecord layout at fixed all start whole out no_fields entries → out ≡ onto start whole
packed_record layout at fixed all start whole out entries packing = sym (packing.same ∙ onto-none out)
