-- Steps of the walk that packs: from lists of values and fields to what is still to be packed.
use Rattle.std.proofs.Common.{◌≡◌, ℕ, zero, suc, ◌+◌, ◌*◌, ◌^◌, ◌≤◌, ◌<◌, List, [], ◌∷◌, length, drop, get_or, Some, inl, refl, sym, ap}
use Rattle.std.proofs.Common.{◌∙◌, subst, arith, add-one, pos, false, true≢false, nat_eq, Result, Ok, Err, OnOk}
use Rattle.std.proofs.Math.Seq.{drop-cons}
use Rattle.std.proofs.lemmas.List.{drop_all}
use Rattle.evp_base.proofs.Numbers.{length-digits}
use Rattle.evp_base.specs.Numbers.{digits}
use Rattle.evp_format.specs.declared.field.Field.{Field}
use Rattle.evp_format.specs.declared.field.Shape.{Shape}
use Rattle.evp_format.specs.declared.field.Shape.TheVariants.{Fixed}
use Rattle.evp_format.specs.declared.value.Value.{Value}
use Rattle.evp_format.specs.Bytes.{next_block, put_at}
use Rattle.evp_format.specs.Converting.{elements_of}
use Rattle.evp_format.specs.Datum.{Datum, num, null, text, list, rec, Elements, empty_list, element, Entries, entry, count_of}
use Rattle.evp_format.specs.LaidTree.{IsLaidTree, IsLaidPart}
use Rattle.evp_format.specs.Layout.{Layout}
use Rattle.evp_format.specs.Packing.{Pieces, machine_of, listed, pointer_piece, pack_tree}
use Rattle.evp_format.specs.Tree.{Tree, tree, Branches, no_fields, branch, length_of, tree_of, trees, branches_of}
use Rattle.evp_format.specs.Typed.{EachElement, IsListOf, IsShaped, IsOfTree, IsOfBranches}
use Rattle.evp_format.specs.ValueView.{datum_of, elements_of_values, entries_of_pairs}
use Rattle.evp_record.proofs.Onto.{length-onto, onto-then}
use Rattle.evp_record.proofs.Pieces.{Within, IsPlaced}
use Rattle.evp_record.proofs.Placed.{placed_elements, in_place-laid, next_block-behind}
use Rattle.evp_record.proofs.Remaining.{places_element, within_below, IsPackingList, IsPackingRecord}
use Rattle.evp_record.specs.Onto.{onto, grown, part_in, element_pieces, list_pieces, counted_pieces, IsElementOf, AreSmall}

pub count_of-elements_of_values : (values : List Value) → count_of (elements_of_values values) ≡ length values
count_of-elements_of_values [] = refl
count_of-elements_of_values (value ∷ values) = ap suc (count_of-elements_of_values values)

-- a list is begun
pub start_list : (layout : Layout) (field : Field) (at : ℕ) (out : List ℕ) (values : List Value)
    → EachElement (IsElementOf layout field) (elements_of_values values)
    → at + length values * field.size ≤ length out → AreSmall (list_pieces layout field at (elements_of_values values) 0 (length out))
    → IsPackingList layout field at out (list_pieces layout field at (elements_of_values values) 0 (length out)) out 0
    (elements_of_values values)
start_list layout field at out values each inside small =
    let count = ap (λ (n : ℕ). n * field.size) (count_of-elements_of_values values) in
    record { same = refl; small = small; each = each; inside = omega (arith, inside, count) }

-- the next element
pub next_element : (layout : Layout) (field : Field) (at : ℕ) (start : List ℕ) (whole : Pieces) (out : List ℕ) (k : ℕ) (values : List Value)
    (value : Value) → k < length values
    → value ≡ get_or values k value → IsPackingList layout field at start whole out k (elements_of_values (drop k values))
    → IsPackingList layout field at start whole out k (element (datum_of value) (elements_of_values (drop (k + 1) values)))
next_element layout field at start whole out k values value below is packing =
    let Packing : Elements → Type 0 = λ elements. IsPackingList layout field at start whole out k elements in
    let split : drop k values ≡ value ∷ drop (k + 1) values =
    drop-cons values k value below ∙ ap (λ (v : Value). v ∷ drop (suc k) values) (sym is)
    ∙ ap (λ (n : ℕ). value ∷ drop n values) (sym (add-one k)) in
    subst Packing (ap elements_of_values split) packing

-- no element is left
pub end_list : (layout : Layout) (field : Field) (at : ℕ) (start : List ℕ) (whole : Pieces) (out : List ℕ) (k : ℕ) (values : List Value)
    → length values ≤ k
    → IsPackingList layout field at start whole out k (elements_of_values (drop k values))
    → IsPackingList layout field at start whole out k empty_list
end_list layout field at start whole out k values past packing =
    let Packing : Elements → Type 0 = λ elements. IsPackingList layout field at start whole out k elements in
    subst Packing (ap elements_of_values (drop_all k values past)) packing

-- the elements of a static array
pub fixed_elements : (all : Entries) (shape : Shape) (n : ℕ) (P : Datum → Type 0) (datum : Datum) → shape ≡ Fixed n
    → IsShaped all shape P datum
    → (n ≡ count_of (listed (elements_of (Some datum)))) × EachElement P (listed (elements_of (Some datum)))
fixed_elements all shape n P datum is typed =
    let Typed : Shape → Type 0 = λ s. IsShaped all s P datum in
    of_list n P datum (subst Typed is typed)
  where
    of_list : (n : ℕ) (P : Datum → Type 0) (datum : Datum) → IsListOf P (Some (pos n)) datum
        → (n ≡ count_of (listed (elements_of (Some datum)))) × EachElement P (listed (elements_of (Some datum)))
    of_list n P (list elements) typed = (cc (typed.0), typed.1)
    of_list n P (num z) typed = absurd typed
    of_list n P null typed = absurd typed
    of_list n P (text bytes) typed = absurd typed
    of_list n P (rec members) typed = absurd typed

-- where the elements of a counted array go
abbrev pub counted_end : Field → Elements → ℕ → ℕ
counted_end field elements size = next_block size + count_of elements * field.size

placed_list : (layout : Layout) (field : Field) (elements : Elements) (q : ℕ) → IsLaidPart layout.pointer field.size (part_in layout field)
    → EachElement (IsElementOf layout field) elements
    → q + count_of elements * field.size ≤ (list_pieces layout field q elements 0 (q + count_of elements * field.size)).size
placed_list layout field elements q laid each =
    let placed =
    placed_elements (IsElementOf layout field) field.size (element_pieces layout field) (places_element layout field laid) elements q 0
    (q + count_of elements * field.size) each (omega arith) in
    placed.grows

-- a counted array that isn't empty ends below 2^32, and so do its elements
pub counted_is_small : (layout : Layout) (field : Field) (at : ℕ) (elements : Elements) (size : ℕ)
    → IsLaidPart layout.pointer field.size (part_in layout field)
    → EachElement (IsElementOf layout field) elements → 0 < count_of elements → AreSmall (counted_pieces layout field at elements size)
    → (counted_end field elements size < 2 ^ 32)
    × AreSmall (list_pieces layout field (next_block size) elements 0 (counted_end field elements size))
counted_is_small layout field at empty_list size laid each some small = absurd (omega arith)
counted_is_small layout field at (element datum rest) size laid each some small =
    let grows = placed_list layout field (element datum rest) (next_block size) laid each in
    (omega (arith, grows, small), small)

-- the pointer and the zeros of the block, and then its elements
pub counted_packs : (layout : Layout) (field : Field) (at : ℕ) (elements : Elements) (out pointed next : List ℕ)
    → IsLaidPart layout.pointer field.size (part_in layout field)
    → EachElement (IsElementOf layout field) elements → 0 < count_of elements → at + layout.pointer ≤ length out
    → pointed ≡ put_at at (digits layout.order layout.pointer (pos (next_block (length out))))
    (grown out (counted_end field elements (length out)))
    → next ≡ onto pointed (list_pieces layout field (next_block (length out)) elements 0 (length pointed))
    → (length pointed ≡ counted_end field elements (length out)) × (next ≡ onto out (counted_pieces layout field at elements (length out)))
counted_packs layout field at empty_list out pointed next laid each some fits is is' = absurd (omega arith)
counted_packs layout field at (element datum rest) out pointed next laid each some fits is is' =
    let elements = element datum rest in
    let size = length out in
    let q = next_block size in
    let behind = next_block-behind size in
    let after = counted_end field elements size in
    let width = length-digits layout.order layout.pointer (pos q) in
    let first = pointer_piece (machine_of layout) at q after in
    let low = within_below at layout.pointer size fits in
    let placed : IsPlaced (Within at layout.pointer) size first =
    record { grows = omega (arith, behind); each = (inl (record { from = omega arith; to = omega (arith, width) }), tt); apart = (tt, tt) }
    in
    let long : length pointed ≡ after = ap length is ∙ length-onto (Within at layout.pointer) out first low placed in
    let grows = placed_list layout field elements q laid each in
    let block = list_pieces layout field q elements 0 after in (
      long,
      is' ∙ ap (λ (n : ℕ). onto pointed (list_pieces layout field q elements 0 n)) long ∙ ap (λ (b : List ℕ). onto b block) is
          ∙ sym (onto-then (Within at layout.pointer) out first block low placed grows),
    )

-- a record is begun
start_tree : (layout : Layout) (at : ℕ) (nested : Tree) (fixed : ℕ) (branches : Branches) (entries : Entries) (out : List ℕ)
    → nested ≡ tree fixed branches → IsLaidTree layout.pointer nested
    → IsOfTree nested entries → at + length_of nested ≤ length out → AreSmall (pack_tree (machine_of layout) nested at entries (length out))
    → IsPackingRecord layout at (length_of nested) entries out (pack_tree (machine_of layout) nested at entries (length out)) out branches
    entries
start_tree layout at nested fixed branches entries out is =
    let Starts : Tree → Type 0 =
    λ t. IsLaidTree layout.pointer t → IsOfTree t entries → at + length_of t ≤ length out
    → AreSmall (pack_tree (machine_of layout) t at entries (length out))
    → IsPackingRecord layout at (length_of t) entries out (pack_tree (machine_of layout) t at entries (length out)) out branches entries in
    subst Starts (sym is)
    (λ laid typed inside small. record {
      same = refl;
      small = small;
      typed = typed;
      laid = laid.1;
      places = in_place-laid layout.pointer fixed branches laid.0;
      inside = inside;
    })

pub start_record : (layout : Layout) (type_number at fixed : ℕ) (fields : List Field) (pairs : List (List ℕ × Value)) (out : List ℕ)
    → tree_of layout type_number ≡ tree fixed (branches_of (trees layout.types) fields)
    → IsLaidTree layout.pointer (tree_of layout type_number)
    → IsOfTree (tree_of layout type_number) (entries_of_pairs pairs) → at + length_of (tree_of layout type_number) ≤ length out
    → AreSmall (pack_tree (machine_of layout) (tree_of layout type_number) at (entries_of_pairs pairs) (length out))
    → IsPackingRecord layout at (length_of (tree_of layout type_number)) (entries_of_pairs pairs) out
    (pack_tree (machine_of layout) (tree_of layout type_number) at (entries_of_pairs pairs) (length out)) out
    (branches_of (trees layout.types) fields) (entries_of_pairs pairs)
start_record layout type_number at fixed fields pairs out is laid typed inside small =
    start_tree layout at (tree_of layout type_number) fixed (branches_of (trees layout.types) fields) (entries_of_pairs pairs) out is laid
    typed inside small

-- there is a value for each field
pub pair_below : (trees : List Tree) (all : Entries) (fields : List Field) (pairs : List (List ℕ × Value)) (k : ℕ) → k < length fields
    → IsOfBranches all (branches_of trees (drop k fields)) (entries_of_pairs (drop k pairs)) → k < length pairs
pair_below trees all [] pairs k below typed = absurd (omega arith)
pair_below trees all (field ∷ fields) [] zero below typed = absurd typed
pair_below trees all (field ∷ fields) (pair ∷ pairs) zero below typed = omega arith
pair_below trees all (field ∷ fields) [] (suc k) below typed = let none = pair_below trees all fields [] k (omega arith)
    (subst (λ (ps : List (List ℕ × Value)). IsOfBranches all (branches_of trees (drop k fields)) (entries_of_pairs ps))
    (sym (drop_all k [] (omega arith))) typed) in omega (arith, none)
pair_below trees all (field ∷ fields) (pair ∷ pairs) (suc k) below typed = let rest = pair_below trees all fields pairs k (omega arith)
    typed in omega (arith, rest)

-- the next field
pub next_field : (layout : Layout) (at fixed : ℕ) (all : Entries) (start : List ℕ) (whole : Pieces) (out : List ℕ) (k : ℕ)
    (fields : List Field) (pairs : List (List ℕ × Value)) (field : Field)
    (d : List ℕ × Value) → k < length fields → k < length pairs → field ≡ get_or fields k field
    → IsPackingRecord layout at fixed all start whole out (branches_of (trees layout.types) (drop k fields))
    (entries_of_pairs (drop k pairs))
    → IsPackingRecord layout at fixed all start whole out
    (branch field (part_in layout field) (branches_of (trees layout.types) (drop (k + 1) fields)))
    (entry (get_or pairs k d).0 (datum_of (get_or pairs k d).1) (entries_of_pairs (drop (k + 1) pairs)))
next_field layout at fixed all start whole out k fields pairs field d below below' is packing =
    let split : drop k fields ≡ field ∷ drop (k + 1) fields =
    drop-cons fields k field below ∙ ap (λ (f : Field). f ∷ drop (suc k) fields) (sym is)
    ∙ ap (λ (n : ℕ). field ∷ drop n fields) (sym (add-one k)) in
    let split' : drop k pairs ≡ get_or pairs k d ∷ drop (k + 1) pairs = drop-cons pairs k d below'
    ∙ ap (λ (n : ℕ). get_or pairs k d ∷ drop n pairs) (sym (add-one k)) in
    let Packing : List Field → Type 0 = λ fs. IsPackingRecord layout at fixed all start whole out (branches_of (trees layout.types) fs)
    (entries_of_pairs (drop k pairs)) in
    let Packing' : List (List ℕ × Value) → Type 0 =
    λ ps. IsPackingRecord layout at fixed all start whole out (branches_of (trees layout.types) (field ∷ drop (k + 1) fields))
    (entries_of_pairs ps) in
    subst Packing' split' (subst Packing split packing)

-- no field is left
pub end_record : (layout : Layout) (at fixed : ℕ) (all : Entries) (start : List ℕ) (whole : Pieces) (out : List ℕ) (k : ℕ)
    (fields : List Field) (entries : Entries) → length fields ≤ k
    → IsPackingRecord layout at fixed all start whole out (branches_of (trees layout.types) (drop k fields)) entries
    → IsPackingRecord layout at fixed all start whole out no_fields entries
end_record layout at fixed all start whole out k fields entries past packing =
    let Packing : List Field → Type 0 = λ fs. IsPackingRecord layout at fixed all start whole out (branches_of (trees layout.types) fs)
    entries in
    subst Packing (drop_all k fields past) packing

-- a list that isn't empty
pub some_value : (values : List Value) → false ≡ nat_eq (length values) 0 → 0 < count_of (elements_of_values values)
some_value [] none = absurd (true≢false (sym none))
some_value (value ∷ values) some = omega arith

-- what follows from an answer
pub on_ok : {T E : Type 0} (answer : Result T E) (P Q : Type 0) → (P → Q) → OnOk answer P → OnOk answer Q
on_ok (Ok value) P Q follows holds = follows holds
on_ok (Err fault) P Q follows holds = tt
