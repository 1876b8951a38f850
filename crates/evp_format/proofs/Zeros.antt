-- The zero of a well laid type is of that type: a field that counts elements has no default but 0.
use Rattle.std.proofs.Common.{◌≡◌, ℕ, zero, suc, ◌+◌, ℤ, pos, List, length, Option, Some, refl, sym, ap, ◌∙◌, subst, arith, add-zero}
use Rattle.std.proofs.Common.{⊎_elim, ◌⊎◌, inl, inr}
use Rattle.std.proofs.lemmas.Int.{ints}
use Rattle.std.specs.Prelude.{slice_get}
use Rattle.evp_base.specs.declared.kind.Kind.{Kind}
use Rattle.evp_base.specs.declared.kind.Kind.TheVariants.{Int, Unsigned, Char, Boolean, Enumeration}
use Rattle.evp_base.specs.Numbers.{InRange}
use Rattle.evp_format.specs.declared.field.Base.{Base}
use Rattle.evp_format.specs.declared.field.Base.TheVariants.{Number, Text, Nested}
use Rattle.evp_format.specs.declared.field.Field.{Field}
use Rattle.evp_format.specs.declared.field.Shape.{Shape}
use Rattle.evp_format.specs.declared.field.Shape.TheVariants.{One, Fixed, Counted}
use Rattle.evp_format.specs.Datum.{Datum, num, list, entry_at, count_of, copies}
use Rattle.evp_format.specs.LaidTree.{Matches, IsLaidRecord, IsLaidTree, AreLaidBranches, IsLaidPart}
use Rattle.evp_format.specs.Tree.{Tree, tree, Branches, no_fields, branch, Part, number_part, text_part, tree_part, branch_at, fields_of}
use Rattle.evp_format.specs.Typed.{IsOfBranches, IsOfPart, IsShaped, IsListOf, EachElement, count_in}
use Rattle.evp_format.specs.WellLaid.{StatesDefault, CountsElements, HasShape}
use Rattle.evp_format.specs.Zero.{zero_tree, zero_branches, zero_part, zero_single, zero_shaped, default_of, as_count}

-- 0 is in every range
pub zero_in_range : (kind : Kind) (size : ℕ) → InRange kind size (pos 0)
zero_in_range Int size = (omega (arith, ints), omega (arith, ints))
zero_in_range Unsigned size = (omega (arith, ints), omega (arith, ints))
zero_in_range Char size = (omega (arith, ints), omega (arith, ints))
zero_in_range Boolean size = (omega (arith, ints), omega (arith, ints))
zero_in_range Enumeration size = (omega (arith, ints), omega (arith, ints))

pub count_of-copies : (n : ℕ) (datum : Datum) → count_of (copies n datum) ≡ n
count_of-copies zero datum = refl
count_of-copies (suc n) datum = ap suc (count_of-copies n datum)

each_copy : (P : Datum → Type 0) (n : ℕ) (datum : Datum) → P datum → EachElement P (copies n datum)
each_copy P zero datum holds = tt
each_copy P (suc n) datum holds = (holds, each_copy P n datum holds)

pub copies_typed : (P : Datum → Type 0) (n : ℕ) (datum : Datum) → P datum → IsListOf P (Some (pos n)) (list (copies n datum))
copies_typed P n datum holds = (ap (λ (m : ℕ). Some (pos m)) (sym (count_of-copies n datum)), each_copy P n datum holds)

-- the field of this number, with its part
pub branch_found : (pointer : ℕ) (branches : Branches) (k : ℕ) (field : Field) → AreLaidBranches pointer branches
    → slice_get (fields_of branches) k ≡ Some field
    → (part : Part) × (branch_at branches k ≡ Some (field, part)) × Matches field.base part × IsLaidPart pointer field.size part
branch_found pointer no_fields k field laid found = cc
branch_found pointer (branch other part rest) zero field laid found =
    let same : other ≡ field = cc in
    let Here : Field → Type 0 = λ f. Matches f.base part × IsLaidPart pointer f.size part in
    let here = subst Here same (laid.0, laid.1) in
    (part, ap (λ (f : Field). Some (f, part)) same, here.0, here.1)
branch_found pointer (branch other part rest) (suc k) field laid found = branch_found pointer rest k field laid.2 found

-- what stands at the place of a field
entry_at-zero_branches : (all branches : Branches) (k : ℕ) (field : Field) (part : Part) → branch_at branches k ≡ Some (field, part)
    → entry_at (zero_branches all branches) k ≡ Some (zero_shaped all field field.shape part (zero_part part))
entry_at-zero_branches all no_fields k field part found = cc
entry_at-zero_branches all (branch other part' rest) zero field part found =
    let same : (other, part') ≡ (field, part) = cc in ap (λ (b : Field × Part). Some (zero_shaped all b.0 b.0.shape b.1 (zero_part b.1)))
    same
entry_at-zero_branches all (branch other part' rest) (suc k) field part found = entry_at-zero_branches all rest k field part found

-- a field that counts elements is a single number
counting_part : (base : Base) (part : Part) → CountsElements base → Matches base part → (kind : Kind) × (part ≡ number_part kind)
counting_part (Number kind) (number_part kind') counts matches = (kind', refl)
counting_part (Number kind) text_part counts matches = absurd matches
counting_part (Number kind) (tree_part nested) counts matches = absurd matches
counting_part Text part counts matches = absurd counts
counting_part (Nested n) part counts matches = absurd counts

-- the count of an array is 0
zero_count : (all : Branches) (c : ℕ) (field : Field) (kind : Kind) → branch_at all c ≡ Some (field, number_part kind) → field.shape ≡ One
    → field.fallback ≡ pos 0
    → (as_count (default_of (branch_at all c)) ≡ 0) × (count_in (entry_at (zero_branches all all) c) ≡ Some (pos 0))
zero_count all c field kind found single none = (
  ap (λ b. as_count (default_of b)) found ∙ ap as_count none,
  ap count_in (entry_at-zero_branches all all c field (number_part kind) found)
      ∙ ap (λ (shape : Shape). count_in (Some (zero_shaped all field shape (number_part kind) (num (pos 0))))) single ∙ ap Some none,
)

-- a single number field's default is in its range
default_typed : (fields : List Field) (k : ℕ) (field : Field) (base : Base) (kind : Kind) → Matches base (number_part kind)
    → field.base ≡ base
    → (field.fallback ≡ pos 0) ⊎ StatesDefault fields k field → InRange kind field.size field.fallback
default_typed fields k field (Number kind') kind matches is (inl none) = rw none (zero_in_range kind field.size)
default_typed fields k field (Number kind') kind matches is (inr stated) = rw (← matches) (rw is at stated.in_range)
default_typed fields k field Text kind matches is stated = absurd matches
default_typed fields k field (Nested n) kind matches is stated = absurd matches

-- the field that counts an array of a well laid record: a single number
pub counter_found : (pointer length : ℕ) (all : Branches) (k c : ℕ) (field : Field) → IsLaidRecord pointer length all
    → AreLaidBranches pointer all → slice_get (fields_of all) k ≡ Some field
    → field.shape ≡ Counted c → (counter : Field) × (kind : Kind) × (branch_at all c ≡ Some (counter, number_part kind))
    × (counter.shape ≡ One) × (counter.fallback ≡ pos 0)
counter_found pointer length all k c field record_laid laid found is =
    let fields_are = record_laid.has_fields in
    let of_type : slice_get record_laid.type.fields k ≡ Some field = ap (λ (fields : List Field). slice_get fields k) fields_are ∙ found in
    let here = record_laid.laid.each_field k field of_type in
    let counted : HasShape record_laid.type.fields (Counted c) = subst (HasShape record_laid.type.fields) is here.shape_allowed in
    let counter = counted.0 in
    let at_c = counted.1 in
    let none : counter.fallback ≡ pos 0 =
    ⊎_elim (λ e. e) (λ stated. absurd (stated.counts_nothing k field of_type is))
    (record_laid.laid.each_field c counter at_c).default_allowed in
    let branch_is = branch_found pointer all c counter laid (ap (λ (fields : List Field). slice_get fields c) (sym fields_are) ∙ at_c) in
    let number = counting_part counter.base branch_is.0 counted.3 branch_is.2 in
    (counter, number.0, branch_is.1 ∙ ap (λ (p : Part). Some (counter, p)) number.1, counted.2, none)

-- its default is 0
pub counted_by_none : (pointer length : ℕ) (all : Branches) (k c : ℕ) (field : Field) → IsLaidRecord pointer length all
    → AreLaidBranches pointer all → slice_get (fields_of all) k ≡ Some field
    → field.shape ≡ Counted c → (as_count (default_of (branch_at all c)) ≡ 0)
    × (count_in (entry_at (zero_branches all all) c) ≡ Some (pos 0))
counted_by_none pointer length all k c field record_laid laid found is =
    let counter = counter_found pointer length all k c field record_laid laid found is in
    zero_count all c counter.0 counter.1 counter.2 counter.3 counter.4

-- a field by its shape, where it stands in a well laid record
zero_shaped_typed : (pointer : ℕ) (length : ℕ) (all : Branches) (k : ℕ) (field : Field) (part : Part) (shape : Shape)
    → IsLaidRecord pointer length all → AreLaidBranches pointer all
    → slice_get (fields_of all) k ≡ Some field → field.shape ≡ shape → Matches field.base part → IsOfPart part field.size (zero_part part)
    → IsShaped (zero_branches all all) shape (λ value. IsOfPart part field.size value) (zero_shaped all field shape part (zero_part part))
zero_shaped_typed pointer length all k field part One record_laid laid found is matches zero_typed = single part matches zero_typed
  where
    of_type : slice_get record_laid.type.fields k ≡ Some field
    of_type = ap (λ (fields : List Field). slice_get fields k) record_laid.has_fields ∙ found

    single : (part : Part) → Matches field.base part → IsOfPart part field.size (zero_part part)
        → IsOfPart part field.size (zero_single field part (zero_part part))
    single (number_part kind) matches typed =
        default_typed record_laid.type.fields k field field.base kind matches refl
        (record_laid.laid.each_field k field of_type).default_allowed
    single text_part matches typed = typed
    single (tree_part nested) matches typed = typed
zero_shaped_typed pointer length all k field part (Fixed n) record_laid laid found is matches zero_typed =
    copies_typed (λ value. IsOfPart part field.size value) n (zero_part part) zero_typed
zero_shaped_typed pointer length all k field part (Counted c) record_laid laid found is matches zero_typed =
    let zero_is = counted_by_none pointer length all k c field record_laid laid found is in
    let P : Datum → Type 0 = λ value. IsOfPart part field.size value in
    let Holds : Option ℤ → ℕ → Type 0 = λ o n. IsListOf P o (list (copies n (zero_part part))) in
    subst (λ (o : Option ℤ). Holds o (as_count (default_of (branch_at all c)))) (sym zero_is.1)
    (subst (Holds (Some (pos 0))) (sym zero_is.0) (copies_typed P 0 (zero_part part) zero_typed))

mutual
  -- the zero of a well laid type
  pub zero_tree_typed : (pointer size : ℕ) (t : Tree) → IsLaidTree pointer t → IsOfPart (tree_part t) size (zero_tree t)
  zero_tree_typed pointer size (tree length branches) laid = zero_branches_typed pointer length branches branches 0 laid.0 laid.1 laid.1
      (λ i. ap (slice_get (fields_of branches)) (omega arith))

  -- its fields from number k on
  zero_branches_typed : (pointer length : ℕ) (all branches : Branches) (k : ℕ) → IsLaidRecord pointer length all
      → AreLaidBranches pointer all → AreLaidBranches pointer branches
      → ((i : ℕ) → slice_get (fields_of branches) i ≡ slice_get (fields_of all) (k + i))
      → IsOfBranches (zero_branches all all) branches (zero_branches all branches)
  zero_branches_typed pointer length all no_fields k record_laid all_laid laid within = tt
  zero_branches_typed pointer length all (branch field part rest) k record_laid all_laid laid within =
      let found : slice_get (fields_of all) k ≡ Some field = ap (slice_get (fields_of all)) (sym (add-zero k)) ∙ sym (within 0) in
      let part_typed = zero_part_typed pointer field.size part laid.1 in (
        refl,
        zero_shaped_typed pointer length all k field part field.shape record_laid all_laid found refl laid.0 part_typed,
        zero_branches_typed pointer length all rest (k + 1) record_laid all_laid laid.2
            (λ i. within (suc i) ∙ ap (slice_get (fields_of all)) (omega arith)),
      )

  pub zero_part_typed : (pointer size : ℕ) (part : Part) → IsLaidPart pointer size part → IsOfPart part size (zero_part part)
  zero_part_typed pointer size (number_part kind) laid = zero_in_range kind size
  zero_part_typed pointer size text_part laid = tt
  zero_part_typed pointer size (tree_part nested) laid = zero_tree_typed pointer size nested laid.1
