-- The pieces of a packed value lie in their record and in blocks behind it, apart from one another.
use Rattle.std.proofs.Common.{◌≡◌, ℕ, zero, suc, ◌+◌, ◌*◌, ◌≤◌, ◌<◌, List, [], ◌∷◌, ◌++◌, length, Some, inl, inr, refl, sym, ap, subst}
use Rattle.std.proofs.Common.{arith, length-append, pos}
use Rattle.std.specs.Prelude.{slice_get}
use Rattle.evp_base.proofs.Numbers.{length-digits}
use Rattle.evp_base.specs.Numbers.{digits}
use Rattle.evp_format.specs.declared.field.Field.{Field}
use Rattle.evp_format.specs.declared.field.Shape.{Shape}
use Rattle.evp_format.specs.declared.field.Shape.TheVariants.{One, Fixed, Counted}
use Rattle.evp_format.specs.Bytes.{next_block}
use Rattle.evp_format.specs.Converting.{as_number}
use Rattle.evp_format.specs.Datum.{Datum, num, null, text, list, rec, Elements, empty_list, element, Entries, empty_record, entry, count_of}
use Rattle.evp_format.specs.LaidTree.{IsLaidRecord, IsLaidTree, AreLaidBranches, IsLaidPart}
use Rattle.evp_format.specs.Packing.{Piece, Pieces, Machine, one_piece, pointer_piece, pack_text, pack_elements, pack_counted, pack_shaped}
use Rattle.evp_format.specs.Packing.{pack_tree, pack_branches, pack_part}
use Rattle.evp_format.specs.Tree.{Tree, tree, Branches, no_fields, branch, Part, number_part, text_part, tree_part, fields_of, length_of}
use Rattle.evp_format.specs.Typed.{EachElement, IsShaped, IsOfTree, IsOfBranches, IsOfPart}
use Rattle.evp_format.specs.WellLaid.{extent, shape_extent}
use Rattle.evp_format.specs.WellLaid.{AreApart as AreFieldsApart}
use Rattle.evp_record.proofs.Pieces.{Within, ApartFrom, IsPlaced, IsBelow, Nowhere, placed_in, placed_in_block, placed_then}

-- a block begins behind what stood there
pub next_block-behind : (size : ℕ) → size ≤ next_block size
next_block-behind size = omega arith

-- nothing at all
placed_none : (R : Piece → Type 0) (size : ℕ) → IsPlaced R size (record { all = []; size = size })
placed_none R size = record { grows = omega arith; each = tt; apart = tt }

placed_one : (at extent size : ℕ) (bytes : List ℕ) → length bytes ≤ extent → IsPlaced (Within at extent) size (one_piece at bytes size)
placed_one at extent size bytes fits =
    record { grows = omega arith; each = (inl (record { from = omega arith; to = omega (arith, fits) }), tt); apart = (tt, tt) }

-- a pointer, whatever it points to
placed_pointer : (machine : Machine) (at q size : ℕ) → IsPlaced (Within at machine.pointer) size (pointer_piece machine at q size)
placed_pointer machine at q size =
    let count = length-digits machine.order machine.pointer (pos q) in
    placed_one at machine.pointer size (digits machine.order machine.pointer (pos q)) (omega (arith, count))

-- a pointer, followed by what it points to
placed_pointer_then : (machine : Machine) (at q size : ℕ) (block : Pieces) → at + machine.pointer ≤ size → IsPlaced Nowhere size block
    → IsPlaced (Within at machine.pointer) size (record { all = (pointer_piece machine at q size).all ++ block.all; size = block.size })
placed_pointer_then machine at q size block fits placed =
    placed_then (Within at machine.pointer) Nowhere (Within at machine.pointer) size (pointer_piece machine at q size) block
    (placed_pointer machine at q size) placed
    (λ piece here. here) (λ piece here. absurd here) (λ piece here. omega (arith, here.to)) (λ piece here. absurd here)
    (λ piece other here there. absurd there)

placed_text : (machine : Machine) (at size : ℕ) (datum : Datum) → at + machine.pointer ≤ size
    → IsPlaced (Within at machine.pointer) size (pack_text machine at datum size)
placed_text machine at size (text bytes) fits =
    let q = next_block size in
    let behind = next_block-behind size in
    let count = length-append bytes (0 ∷ []) in
    let block : IsPlaced Nowhere size (one_piece q (bytes ++ 0 ∷ []) (q + length bytes + 1)) =
    placed_in_block q (length bytes + 1) size (q + length bytes + 1) (one_piece q (bytes ++ 0 ∷ []) (q + length bytes + 1)) behind
    (omega arith)
    (placed_one q (length bytes + 1) (q + length bytes + 1) (bytes ++ 0 ∷ []) (omega (arith, count))) in
    placed_pointer_then machine at q size (one_piece q (bytes ++ 0 ∷ []) (q + length bytes + 1)) fits block
placed_text machine at size null fits = placed_pointer machine at 0 size
placed_text machine at size (num n) fits = placed_pointer machine at 0 size
placed_text machine at size (list elements) fits = placed_pointer machine at 0 size
placed_text machine at size (rec entries) fits = placed_pointer machine at 0 size

-- how a part that is packed at an offset lies
abbrev pub PlacesEach : (Datum → Type 0) → ℕ → (ℕ → Datum → ℕ → Pieces) → Type 0
PlacesEach P element_size one = (offset : ℕ) (value : Datum) (size : ℕ) → P value → offset + element_size ≤ size
    → IsPlaced (Within offset element_size) size (one offset value size)

-- elements k, k + 1 and so on, the first at `at`
pub placed_elements : (P : Datum → Type 0) (element_size : ℕ) (one : ℕ → Datum → ℕ → Pieces) → PlacesEach P element_size one
    → (elements : Elements) (base k size : ℕ) → EachElement P elements
    → base + (k + count_of elements) * element_size ≤ size
    → IsPlaced (Within (base + k * element_size) (count_of elements * element_size)) size
    (pack_elements (λ i. one (base + i * element_size)) elements k size)
placed_elements P element_size one places empty_list base k size each fits = placed_none
    (Within (base + k * element_size) (0 * element_size)) size
placed_elements P element_size one places (element datum rest) base k size each fits =
    let n = count_of rest in
    let first = one (base + k * element_size) datum size in
    let placed : IsPlaced (Within (base + k * element_size) element_size) size first = places (base + k * element_size) datum size each.0
    (omega arith) in
    let others : IsPlaced (Within (base + suc k * element_size) (n * element_size)) first.size
    (pack_elements (λ i. one (base + i * element_size)) rest (suc k) first.size) =
    placed_elements P element_size one places rest base (suc k) first.size each.1 (omega (arith, placed.grows)) in
    placed_then (Within (base + k * element_size) element_size) (Within (base + suc k * element_size) (n * element_size))
    (Within (base + k * element_size) (suc n * element_size)) size first
    (pack_elements (λ i. one (base + i * element_size)) rest (suc k) first.size) placed others
    (λ piece here. record { from = here.from; to = omega (arith, here.to) })
    (λ piece here. record { from = omega (arith, here.from); to = omega (arith, here.to) }) (λ piece here. omega (arith, here.to))
    (λ piece here. omega (arith, here.to))
    (λ piece other here there. inl (omega (arith, here.to, there.from)))

-- the block of a list, and its elements' blocks
pub placed_counted : (machine : Machine) (P : Datum → Type 0) (element_size : ℕ) (one : ℕ → Datum → ℕ → Pieces)
    → PlacesEach P element_size one → (elements : Elements) (at size : ℕ)
    → EachElement P elements → at + machine.pointer ≤ size → IsPlaced (Within at machine.pointer) size
    (pack_counted machine at element_size elements one size)
placed_counted machine P element_size one places empty_list at size each fits = placed_pointer machine at 0 size
placed_counted machine P element_size one places (element datum rest) at size each fits =
    let elements = element datum rest in
    let q = next_block size in
    let behind = next_block-behind size in
    let after = q + count_of elements * element_size in
    let block = pack_elements (λ k. one (q + k * element_size)) elements 0 after in
    let placed : IsPlaced (Within (q + 0 * element_size) (count_of elements * element_size)) after block =
    placed_elements P element_size one places elements q 0 after each (omega arith) in
    placed_pointer_then machine at q size block fits
    (placed_in_block (q + 0 * element_size) (count_of elements * element_size) size after block (omega arith) (omega arith) placed)

-- a static array, of as many elements as it has
placed_fixed : (P : Datum → Type 0) (element_size : ℕ) (one : ℕ → Datum → ℕ → Pieces) → PlacesEach P element_size one
    → (n : ℕ) (elements : Elements) (base size : ℕ) → n ≡ count_of elements
    → EachElement P elements → base + n * element_size ≤ size
    → IsPlaced (Within base (n * element_size)) size (pack_elements (λ k. one (base + k * element_size)) elements 0 size)
placed_fixed P element_size one places n elements base size count each fits =
    let same : n * element_size ≡ count_of elements * element_size = ap (λ (m : ℕ). m * element_size) count in
    placed_in (Within (base + 0 * element_size) (count_of elements * element_size)) (Within base (n * element_size)) size
    (pack_elements (λ k. one (base + k * element_size)) elements 0 size)
    (λ piece here. record { from = omega (arith, here.from); to = omega (arith, here.to, same) })
    (placed_elements P element_size one places elements base 0 size each (omega (arith, same, fits)))

pub placed_shaped : (machine : Machine) (all : Entries) (field : Field) (shape : Shape) (P : Datum → Type 0) (one : ℕ → Datum → ℕ → Pieces)
    → PlacesEach P field.size one → (at : ℕ) (datum : Datum) (size : ℕ)
    → IsShaped all shape P datum → at + field.offset + shape_extent machine.pointer shape field.size ≤ size
    → IsPlaced (Within (at + field.offset) (shape_extent machine.pointer shape field.size)) size
    (pack_shaped machine field shape at datum one size)
placed_shaped machine all field One P one places at datum size typed fits = places (at + field.offset) datum size typed fits
placed_shaped machine all field (Fixed n) P one places at (list elements) size typed fits =
    let count : n ≡ count_of elements = cc (typed.0) in
    placed_fixed P field.size one places n elements (at + field.offset) size count typed.1 fits
placed_shaped machine all field (Fixed n) P one places at (num z) size typed fits = absurd typed
placed_shaped machine all field (Fixed n) P one places at null size typed fits = absurd typed
placed_shaped machine all field (Fixed n) P one places at (text bytes) size typed fits = absurd typed
placed_shaped machine all field (Fixed n) P one places at (rec members) size typed fits = absurd typed
placed_shaped machine all field (Counted c) P one places at (list elements) size typed fits = placed_counted machine P field.size one places
    elements (at + field.offset) size typed.1 fits
placed_shaped machine all field (Counted c) P one places at (num z) size typed fits = absurd typed
placed_shaped machine all field (Counted c) P one places at null size typed fits = absurd typed
placed_shaped machine all field (Counted c) P one places at (text bytes) size typed fits = absurd typed
placed_shaped machine all field (Counted c) P one places at (rec members) size typed fits = absurd typed

-- the fields lie inside a record of this length, each apart from those after it
abbrev pub AreInPlace : ℕ → ℕ → List Field → Type 0
AreInPlace pointer length [] = Unit {0}
AreInPlace pointer length (field ∷ fields) =
    (field.offset + extent pointer field ≤ length) × ((j : ℕ) (other : Field) → slice_get fields j ≡ Some other
    → AreFieldsApart pointer field other) × AreInPlace pointer length fields

in_place : (pointer length : ℕ) (fields : List Field) → ((k : ℕ) (field : Field) → slice_get fields k ≡ Some field
    → field.offset + extent pointer field ≤ length)
    → ((i j : ℕ) (field other : Field) → i < j → slice_get fields i ≡ Some field → slice_get fields j ≡ Some other
    → AreFieldsApart pointer field other)
    → AreInPlace pointer length fields
in_place pointer length [] inside apart = tt
in_place pointer length (field ∷ fields) inside apart = (
  inside 0 field refl,
  (λ j other found. apart 0 (suc j) field other (omega arith) refl found),
  in_place pointer length fields (λ k other found. inside (suc k) other found)
      (λ i j one other before found found'. apart (suc i) (suc j) one other (omega (arith, before)) found found'),
)

-- the fields of a well laid record
pub in_place-laid : (pointer length : ℕ) (branches : Branches) → IsLaidRecord pointer length branches
    → AreInPlace pointer length (fields_of branches)
in_place-laid pointer length branches laid =
    let Placed : List Field → Type 0 = λ fields. AreInPlace pointer length fields in
    let type = laid.type in
    subst Placed laid.has_fields
    (in_place pointer length type.fields
    (λ k field found. let inside = (laid.laid.each_field k field found).inside in let same = laid.has_length in omega (arith, inside, same))
    (λ i j field other before found found'. laid.laid.apart i j field other before found found'))

-- inside one of the fields of the record at `at`
abbrev pub InFields : ℕ → ℕ → List Field → Piece → Type 0
InFields pointer at fields piece = (k : ℕ) × (field : Field) × (slice_get fields k ≡ Some field)
    × Within (at + field.offset) (extent pointer field) piece

inside_of : (pointer length : ℕ) (fields : List Field) (k : ℕ) (field : Field) → AreInPlace pointer length fields
    → slice_get fields k ≡ Some field → field.offset + extent pointer field ≤ length
inside_of pointer length [] k field placed found = cc
inside_of pointer length (first ∷ fields) zero field placed found =
    let same : first ≡ field = cc in
    let Inside : Field → Type 0 = λ f. f.offset + extent pointer f ≤ length in
    subst Inside same placed.0
inside_of pointer length (first ∷ fields) (suc k) field placed found = inside_of pointer length fields k field placed.2 found

fields_below : (pointer length at size : ℕ) (fields : List Field) → AreInPlace pointer length fields → at + length ≤ size
    → IsBelow (InFields pointer at fields) size
fields_below pointer length at size fields placed fits piece here =
    let inside = inside_of pointer length fields here.0 here.1 placed here.2 in
    let within = here.3 in
    omega (arith, inside, within.to)

apart_by : (pointer at : ℕ) (field other : Field) (piece another : Piece) → AreFieldsApart pointer field other
    → Within (at + field.offset) (extent pointer field) piece
    → Within (at + other.offset) (extent pointer other) another → ApartFrom piece another
apart_by pointer at field other piece another (inl before) here there = inl (omega (arith, before, here.to, there.from))
apart_by pointer at field other piece another (inr behind) here there = inr (omega (arith, behind, there.to, here.from))

-- a field's pieces, and those of the fields after it
placed_branch : (pointer length at size : ℕ) (field : Field) (fields : List Field) (first rest : Pieces)
    → AreInPlace pointer length (field ∷ fields) → at + length ≤ size
    → IsPlaced (Within (at + field.offset) (extent pointer field)) size first → IsPlaced (InFields pointer at fields) first.size rest
    → IsPlaced (InFields pointer at (field ∷ fields)) size (record { all = first.all ++ rest.all; size = rest.size })
placed_branch pointer length at size field fields first rest places fits placed placed' =
    placed_then (Within (at + field.offset) (extent pointer field)) (InFields pointer at fields) (InFields pointer at (field ∷ fields)) size
    first rest placed placed'
    (λ piece here. (0, field, refl, here)) (λ piece here. (suc here.0, here.1, here.2, here.3))
    (λ piece here. omega (arith, places.0, here.to))
    (fields_below pointer length at size fields places.2 fits) (λ piece other here there. apart_by pointer at field there.1 piece other
    (places.1 there.0 there.1 there.2) here there.3)

mutual
  -- the record at `at`
  pub placed_tree : (machine : Machine) (nested : Tree) (at : ℕ) (entries : Entries) (size : ℕ) → IsLaidTree machine.pointer nested
      → IsOfTree nested entries → at + length_of nested ≤ size
      → IsPlaced (Within at (length_of nested)) size (pack_tree machine nested at entries size)
  placed_tree machine (tree length branches) at entries size laid typed fits =
      let places = in_place-laid machine.pointer length branches laid.0 in
      let pieces = pack_branches machine branches at entries size in
      placed_in (InFields machine.pointer at (fields_of branches)) (Within at length) size pieces
      (λ piece here.
      let inside = inside_of machine.pointer length (fields_of branches) here.0 here.1 places here.2 in
      let within = here.3 in
      record { from = omega (arith, within.from); to = omega (arith, inside, within.to) })
      (placed_branches machine branches length at entries entries size laid.1 places typed fits)

  -- these fields of the record at `at`, which has this length and the fields `all`
  pub placed_branches : (machine : Machine) (branches : Branches) (length at : ℕ) (all entries : Entries) (size : ℕ)
      → AreLaidBranches machine.pointer branches
      → AreInPlace machine.pointer length (fields_of branches) → IsOfBranches all branches entries → at + length ≤ size
      → IsPlaced (InFields machine.pointer at (fields_of branches)) size (pack_branches machine branches at entries size)
  placed_branches machine no_fields length at all empty_record size laid places typed fits = placed_none (InFields machine.pointer at [])
      size
  placed_branches machine no_fields length at all (entry name datum others) size laid places typed fits = absurd typed
  placed_branches machine (branch field part rest) length at all empty_record size laid places typed fits = absurd typed
  placed_branches machine (branch field part rest) length at all (entry name datum others) size laid places typed fits =
      let one = λ (offset : ℕ) (value : Datum) (after : ℕ). pack_part machine part field.size offset value after in
      let first = pack_shaped machine field field.shape at datum one size in
      let placed : IsPlaced (Within (at + field.offset) (extent machine.pointer field)) size first =
      placed_shaped machine all field field.shape (IsOfPart part field.size) one
      (λ offset value after is inside. placed_part machine part field.size offset value after laid.1 is inside) at datum size
      typed.1 (omega (arith, places.0)) in
      placed_branch machine.pointer length at size field (fields_of rest) first (pack_branches machine rest at others first.size) places
      fits placed
      (placed_branches machine rest length at all others first.size laid.2 places.2 typed.2 (omega (arith, placed.grows)))

  -- the number, text or record at `at`
  pub placed_part : (machine : Machine) (part : Part) (element_size at : ℕ) (datum : Datum) (size : ℕ)
      → IsLaidPart machine.pointer element_size part → IsOfPart part element_size datum
      → at + element_size ≤ size → IsPlaced (Within at element_size) size (pack_part machine part element_size at datum size)
  placed_part machine (number_part kind) element_size at datum size laid typed fits =
      let count = length-digits machine.order element_size (as_number datum) in
      placed_one at element_size size (digits machine.order element_size (as_number datum)) (omega (arith, count))
  placed_part machine text_part element_size at datum size laid typed fits =
      let Placed : ℕ → Type 0 = λ s. IsPlaced (Within at s) size (pack_text machine at datum size) in
      subst Placed (sym laid) (placed_text machine at size datum (omega (arith, laid)))
  placed_part machine (tree_part nested) element_size at (rec members) size laid typed fits =
      let Placed : ℕ → Type 0 = λ s. IsPlaced (Within at s) size (pack_tree machine nested at members size) in
      subst Placed (sym laid.0) (placed_tree machine nested at members size laid.1 typed (omega (arith, laid.0)))
  placed_part machine (tree_part nested) element_size at (num z) size laid typed fits = absurd typed
  placed_part machine (tree_part nested) element_size at null size laid typed fits = absurd typed
  placed_part machine (tree_part nested) element_size at (text bytes) size laid typed fits = absurd typed
  placed_part machine (tree_part nested) element_size at (list elements) size laid typed fits = absurd typed
