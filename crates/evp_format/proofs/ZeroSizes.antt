-- The zero of a well laid part takes no block.
use Rattle.std.proofs.Common.{◌≡◌, ℕ, zero, suc, ◌+◌, ◌*◌, Some, refl, sym, ap, ◌∙◌, arith, add-zero}
use Rattle.std.specs.Prelude.{slice_get}
use Rattle.evp_format.specs.declared.field.Field.{Field}
use Rattle.evp_format.specs.declared.field.Shape.{Shape}
use Rattle.evp_format.specs.declared.field.Shape.TheVariants.{One, Fixed, Counted}
use Rattle.evp_format.specs.Datum.{Datum, list, copies}
use Rattle.evp_format.specs.LaidTree.{IsLaidRecord, IsLaidTree, AreLaidBranches, IsLaidPart}
use Rattle.evp_format.specs.Packing.{Machine, Pieces, pack_elements, pack_shaped, pack_branches, pack_part}
use Rattle.evp_format.specs.Tree.{Tree, tree, Branches, no_fields, branch, Part, number_part, text_part, tree_part, fields_of}
use Rattle.evp_format.specs.Zero.{zero_tree, zero_branches, zero_part, zero_single, zero_shaped}
use Rattle.evp_format.proofs.Zeros.{counted_by_none}

-- as many of what takes no block
pub copies_size : (one : ℕ → Datum → ℕ → Pieces) (datum : Datum) → ((k size : ℕ) → (one k datum size).size ≡ size) → (n k size : ℕ)
    → (pack_elements one (copies n datum) k size).size ≡ size
copies_size one datum each zero k size = refl
copies_size one datum each (suc n) k size =
    ap (λ (s : ℕ). (pack_elements one (copies n datum) (suc k) s).size) (each k size) ∙ copies_size one datum each n (suc k) size

-- a field of a well laid record, by its shape
shaped_size : (machine : Machine) (pointer length : ℕ) (all : Branches) (k : ℕ) (field : Field) (part : Part) (shape : Shape)
    → IsLaidRecord pointer length all → AreLaidBranches pointer all
    → slice_get (fields_of all) k ≡ Some field → field.shape ≡ shape
    → ((at size : ℕ) → (pack_part machine part field.size at (zero_part part) size).size ≡ size) → (at size : ℕ)
    → (pack_shaped machine field shape at (zero_shaped all field shape part (zero_part part))
    (λ offset value after. pack_part machine part field.size offset value after) size).size ≡ size
shaped_size machine pointer length all k field part One record_laid laid found is each at size = single part each
  where
    single : (part' : Part) → ((at' size' : ℕ) → (pack_part machine part' field.size at' (zero_part part') size').size ≡ size')
        → (pack_part machine part' field.size (at + field.offset) (zero_single field part' (zero_part part')) size).size ≡ size
    single (number_part kind) each' = refl
    single text_part each' = refl
    single (tree_part nested) each' = each' (at + field.offset) size
shaped_size machine pointer length all k field part (Fixed n) record_laid laid found is each at size =
    copies_size (λ i. pack_part machine part field.size (at + field.offset + i * field.size)) (zero_part part)
    (λ i s. each (at + field.offset + i * field.size) s) n 0 size
shaped_size machine pointer length all k field part (Counted c) record_laid laid found is each at size =
    let none = counted_by_none pointer length all k c field record_laid laid found is in
    let packs = λ (offset : ℕ) (value : Datum) (after : ℕ). pack_part machine part field.size offset value after in
    ap (λ (n : ℕ). (pack_shaped machine field (Counted c) at (list (copies n (zero_part part))) packs size).size) none.0

mutual
  zero_tree_size : (machine : Machine) (pointer : ℕ) (t : Tree) → IsLaidTree pointer t → (element_size at size : ℕ)
      → (pack_part machine (tree_part t) element_size at (zero_tree t) size).size ≡ size
  zero_tree_size machine pointer (tree length branches) laid element_size at size =
      zero_branches_size machine pointer length branches branches 0 laid.0 laid.1 laid.1
      (λ i. ap (slice_get (fields_of branches)) (omega arith)) at size

  zero_branches_size : (machine : Machine) (pointer length : ℕ) (all branches : Branches) (k : ℕ) → IsLaidRecord pointer length all
      → AreLaidBranches pointer all → AreLaidBranches pointer branches
      → ((i : ℕ) → slice_get (fields_of branches) i ≡ slice_get (fields_of all) (k + i)) → (at size : ℕ)
      → (pack_branches machine branches at (zero_branches all branches) size).size ≡ size
  zero_branches_size machine pointer length all no_fields k record_laid all_laid laid within at size = refl
  zero_branches_size machine pointer length all (branch field part rest) k record_laid all_laid laid within at size =
      let found : slice_get (fields_of all) k ≡ Some field = ap (slice_get (fields_of all)) (sym (add-zero k)) ∙ sym (within 0) in
      let here =
      shaped_size machine pointer length all k field part field.shape record_laid all_laid found refl
      (λ at' s. zero_part_size machine pointer field.size part laid.1 at' s) at size in
      ap (λ (s : ℕ). (pack_branches machine rest at (zero_branches all rest) s).size) here
      ∙ zero_branches_size machine pointer length all rest (k + 1) record_laid all_laid laid.2
      (λ i. within (suc i) ∙ ap (slice_get (fields_of all)) (omega arith)) at size

  pub zero_part_size : (machine : Machine) (pointer element_size : ℕ) (part : Part) → IsLaidPart pointer element_size part → (at size : ℕ)
      → (pack_part machine part element_size at (zero_part part) size).size ≡ size
  zero_part_size machine pointer element_size (number_part kind) laid at size = refl
  zero_part_size machine pointer element_size text_part laid at size = refl
  zero_part_size machine pointer element_size (tree_part nested) laid at size = zero_tree_size machine pointer nested laid.1 element_size at
      size
