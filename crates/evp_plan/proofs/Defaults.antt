-- A record without a partner is made of its defaults, and takes no block.
use Rattle.std.proofs.Common.{◌≡◌, ℕ, zero, suc, ◌+◌, ℤ, pos, Bool, true, false, not, List, [], ◌∷◌, ◌++◌, length, Option, Some, None}
use Rattle.std.proofs.Common.{refl, sym, ap, ◌∙◌, subst, arith, ⊎_elim, ◌⊎◌, inl, inr}
use Rattle.std.specs.Prelude.{slice_get, int_lt, ⊤}
use Rattle.std.proofs.lemmas.Int.{ints}
use Rattle.std.proofs.lemmas.Bool.Decides.{nat_tests}
use Rattle.evp_base.specs.declared.kind.Kind.{Kind}
use Rattle.evp_base.specs.Numbers.{is_in_range, InRange, least, greatest}
use Rattle.evp_format.specs.declared.field.Base.{Base}
use Rattle.evp_format.specs.declared.field.Base.TheVariants.{Number, Text, Nested}
use Rattle.evp_format.specs.declared.field.Field.{Field}
use Rattle.evp_format.specs.declared.field.Shape.{Shape}
use Rattle.evp_format.specs.declared.field.Shape.TheVariants.{One, Fixed, Counted}
use Rattle.evp_format.specs.declared.place.PlaceStep.{PlaceStep}
use Rattle.evp_format.specs.declared.place.PlaceStep.TheVariants.{At, Nth}
use Rattle.evp_format.specs.Clashing.{clash_branches}
use Rattle.evp_format.specs.Converting.{Made, made, then_make, unless_unfit, numbers_from, receiver_number, number_fits}
use Rattle.evp_format.specs.Converting.{number_at, make_tree, make_branches, make_shaped, make_part, make_list, list_block}
use Rattle.evp_format.specs.Datum.{Datum, num, list, rec, Entries, empty_record, entry, copies}
use Rattle.evp_format.specs.LaidTree.{Matches, IsLaidRecord, IsLaidTree, AreLaidBranches, IsLaidPart}
use Rattle.evp_format.specs.Tree.{Tree, tree, Branches, no_fields, branch, Part, number_part, text_part, tree_part, branch_at, fields_of}
use Rattle.evp_format.specs.WellLaid.{StatesDefault, CountsElements, HasShape}
use Rattle.evp_format.specs.Zero.{zero_tree, zero_branches, zero_part, zero_shaped, default_of, as_count}
use Rattle.evp_format.proofs.Zeros.{zero_in_range, branch_found}

-- a number in a range passes its test
pub range_test : (kind : Kind) (size : ℕ) (n : ℤ) → InRange kind size n → is_in_range kind size n ≡ true
range_test kind size n inside =
    let low = inside.0 in
    let high = inside.1 in
    let first : int_lt n (least kind size) ≡ false = grind (arith, ints, nat_tests, low) in
    let second : int_lt (greatest kind size) n ≡ false = grind (arith, ints, nat_tests, high) in
    rw (first, second) refl

-- these fields are those of a record from number k on
abbrev pub Continues : Branches → Branches → ℕ → Type 0
Continues all branches k = (i : ℕ) → branch_at branches i ≡ branch_at all (k + i)

pub continues_at_start : (all : Branches) → Continues all all 0
continues_at_start all i = ap (branch_at all) (omega arith)

pub continues_behind : (all : Branches) (field : Field) (part : Part) (rest : Branches) (k : ℕ) → Continues all (branch field part rest) k
    → Continues all rest (suc k)
continues_behind all field part rest k continues i = continues (suc i) ∙ ap (branch_at all) (omega arith)

pub continues_here : (all : Branches) (field : Field) (part : Part) (rest : Branches) (k : ℕ) → Continues all (branch field part rest) k
    → branch_at all k ≡ Some (field, part)
continues_here all field part rest k continues = sym (continues 0 ∙ ap (branch_at all) (omega arith))

-- the numbers of a record without a partner
abbrev default_numbers : Branches → List ℤ
default_numbers no_fields = []
default_numbers (branch field part rest) = receiver_number field field.shape part empty_record ∷ default_numbers rest

abbrev default_number : Option (Field × Part) → ℤ
default_number None = pos 0
default_number (Some (field, part)) = receiver_number field field.shape part empty_record

number_at-default : (branches : Branches) (k : ℕ) → number_at (default_numbers branches) k ≡ default_number (branch_at branches k)
number_at-default no_fields k = refl
number_at-default (branch field part rest) zero = refl
number_at-default (branch field part rest) (suc k) = number_at-default rest k

-- a field's default is in its range; a count's is 0
abbrev DefaultFits : Branches → Field → Shape → Part → Type 0
DefaultFits all field One (number_part kind) = is_in_range kind field.size field.fallback ≡ true
DefaultFits all field One text_part = ⊤
DefaultFits all field One (tree_part nested) = ⊤
DefaultFits all field (Fixed n) part = ⊤
DefaultFits all field (Counted c) part = (default_number (branch_at all c) ≡ pos 0) × (as_count (default_of (branch_at all c)) ≡ 0)

counting_part : (base : Base) (part : Part) → CountsElements base → Matches base part → (kind : Kind) × (part ≡ number_part kind)
counting_part (Number kind) (number_part kind') counts matches = (kind', refl)
counting_part (Number kind) text_part counts matches = absurd matches
counting_part (Number kind) (tree_part nested) counts matches = absurd matches
counting_part Text part counts matches = absurd counts
counting_part (Nested n) part counts matches = absurd counts

default_in_range : (fields : List Field) (k : ℕ) (field : Field) (base : Base) (kind : Kind) → Matches base (number_part kind)
    → field.base ≡ base
    → (field.fallback ≡ pos 0) ⊎ StatesDefault fields k field → InRange kind field.size field.fallback
default_in_range fields k field (Number kind') kind matches is (inl none) = rw none (zero_in_range kind field.size)
default_in_range fields k field (Number kind') kind matches is (inr stated) = rw (← matches) (rw is at stated.in_range)
default_in_range fields k field Text kind matches is stated = absurd matches
default_in_range fields k field (Nested n) kind matches is stated = absurd matches

default_of_count : (found : Option (Field × Part)) (field : Field) (kind : Kind) → found ≡ Some (field, number_part kind)
    → field.shape ≡ One → field.fallback ≡ pos 0
    → (default_number found ≡ pos 0) × (as_count (default_of found) ≡ 0)
default_of_count found field kind is single none = (
  ap default_number is ∙ ap (λ (shape : Shape). receiver_number field shape (number_part kind) empty_record) single ∙ none,
  ap (λ (f : Option (Field × Part)). as_count (default_of f)) is ∙ ap as_count none,
)

default_fits : (pointer length : ℕ) (all : Branches) (k : ℕ) (field : Field) (part : Part) (shape : Shape) → IsLaidRecord pointer length all
    → AreLaidBranches pointer all
    → slice_get (fields_of all) k ≡ Some field → field.shape ≡ shape → Matches field.base part → DefaultFits all field shape part
default_fits pointer length all k field (number_part kind) One record_laid laid found is matches =
    let of_type : slice_get record_laid.type.fields k ≡ Some field = ap (λ (fields : List Field). slice_get fields k) record_laid.has_fields
    ∙ found in
    range_test kind field.size field.fallback (default_in_range record_laid.type.fields k field field.base kind matches refl
    (record_laid.laid.each_field k field of_type).default_allowed)
default_fits pointer length all k field text_part One record_laid laid found is matches = tt
default_fits pointer length all k field (tree_part nested) One record_laid laid found is matches = tt
default_fits pointer length all k field part (Fixed n) record_laid laid found is matches = tt
default_fits pointer length all k field part (Counted c) record_laid laid found is matches =
    let fields_are = record_laid.has_fields in
    let of_type : slice_get record_laid.type.fields k ≡ Some field = ap (λ (fields : List Field). slice_get fields k) fields_are ∙ found in
    let here = record_laid.laid.each_field k field of_type in
    let counted : HasShape record_laid.type.fields (Counted c) = subst (HasShape record_laid.type.fields) is here.shape_allowed in
    let counter = counted.0 in
    let at_c = counted.1 in
    let none : counter.fallback ≡ pos 0 =
    ⊎_elim (λ e. e) (λ stated. absurd (stated.counts_nothing k field of_type is))
    (record_laid.laid.each_field c counter at_c).default_allowed in
    let branch_is = branch_found pointer all c counter laid (ap (λ (fields : List Field). slice_get fields c) (sym fields_are) ∙ at_c) in
    let number = counting_part counter.base branch_is.0 counted.3 branch_is.2 in
    let there : branch_at all c ≡ Some (counter, number_part number.0) = branch_is.1 ∙ ap (λ (p : Part). Some (counter, p)) number.1 in
    default_of_count (branch_at all c) counter number.0 there counted.2 none

abbrev DefaultsFit : Branches → Branches → Type 0
DefaultsFit all no_fields = ⊤
DefaultsFit all (branch field part rest) = DefaultFits all field field.shape part × DefaultsFit all rest

field_of_branch : (branches : Branches) (k : ℕ) (field : Field) (part : Part) → branch_at branches k ≡ Some (field, part)
    → slice_get (fields_of branches) k ≡ Some field
field_of_branch no_fields k field part found = cc
field_of_branch (branch other part' rest) zero field part found =
    let same : (other, part') ≡ (field, part) = cc in ap (λ (b : Field × Part). Some b.0) same
field_of_branch (branch other part' rest) (suc k) field part found = field_of_branch rest k field part found

defaults_fit : (pointer length : ℕ) (all branches : Branches) (k : ℕ) → IsLaidRecord pointer length all → AreLaidBranches pointer all
    → AreLaidBranches pointer branches → Continues all branches k
    → DefaultsFit all branches
defaults_fit pointer length all no_fields k record_laid all_laid laid continues = tt
defaults_fit pointer length all (branch field part rest) k record_laid all_laid laid continues = (
  default_fits pointer length all k field part field.shape record_laid all_laid
      (field_of_branch all k field part (continues_here all field part rest k continues)) refl laid.0,
  defaults_fit pointer length all rest (suc k) record_laid all_laid laid.2 (continues_behind all field part rest k continues),
)

-- the single numbers of a record without a partner
fitting : (field : Field) (shape : Shape) (part : Part) (all : Branches) → DefaultFits all field shape part
    → not (number_fits field shape part (receiver_number field shape part empty_record)) ≡ false
fitting field One (number_part kind) all fits = ap not fits
fitting field One text_part all fits = refl
fitting field One (tree_part nested) all fits = refl
fitting field (Fixed n) part all fits = refl
fitting field (Counted c) part all fits = refl

default_numbers_made : (all branches : Branches) (place : List PlaceStep) (k : ℕ) → DefaultsFit all branches
    → numbers_from place k branches empty_record ≡ made (default_numbers branches) 0
default_numbers_made all no_fields place k fit = refl
default_numbers_made all (branch field part rest) place k fit =
    let next : Unit {0} → Made (List ℤ) = λ _. then_make (numbers_from place (suc k) rest empty_record)
    (λ others none. made (receiver_number field field.shape part empty_record ∷ others) none) in
    ap (λ (test : Bool). unless_unfit test (place ++ At k ∷ []) next) (fitting field field.shape part all fit.0)
    ∙ ap (λ (m : Made (List ℤ)). then_make m (λ others none. made (receiver_number field field.shape part empty_record ∷ others) none))
    (default_numbers_made all rest place (suc k) fit.1)

-- a part without a partner
abbrev InsideDefault : ℕ → Part → Type 0
InsideDefault limit (number_part kind) = ⊤
InsideDefault limit text_part = ⊤
InsideDefault limit (tree_part nested) = (place : List PlaceStep) (size : ℕ)
    → make_tree limit nested place empty_record size ≡ made (zero_tree nested) size

counted_default : (limit : ℕ) (field : Field) (c : ℕ) (place : List PlaceStep) (z : ℤ) (n : ℕ) (zero_element : Datum)
    (one : ℕ → Datum → ℕ → Made Datum) (size : ℕ) → field.shape ≡ Counted c → z ≡ pos 0 → n ≡ 0
    → make_list limit field place z None zero_element one size ≡ made (list (copies n zero_element)) size
counted_default limit field c place z n zero_element one size is none none' =
    let block : Shape → Made Datum = λ shape. list_block shape limit field.size place 0 size
    (λ after. made (list (copies 0 zero_element)) after) in
    ap (λ (number : ℤ). make_list limit field place number None zero_element one size) none ∙ ap block is
    ∙ ap (λ (m : ℕ). made (list (copies m zero_element)) size) (sym none')

field_default : (limit : ℕ) (all : Branches) (field : Field) (shape : Shape) (part : Part) (k : ℕ) (place : List PlaceStep) (size : ℕ)
    → DefaultFits all field shape part → branch_at all k ≡ Some (field, part)
    → field.shape ≡ shape → InsideDefault limit part
    → make_shaped limit field shape part (default_numbers all) k place None
    (λ place' datum after. make_part limit part field.size place' datum after) size
    ≡ made (zero_shaped all field shape part (zero_part part)) size
field_default limit all field One (number_part kind) k place size fits here is inside =
    ap (λ (n : ℤ). made (num n) size)
    (number_at-default all k ∙ ap default_number here ∙ ap (λ (s : Shape). receiver_number field s (number_part kind) empty_record) is)
field_default limit all field One text_part k place size fits here is inside = refl
field_default limit all field One (tree_part nested) k place size fits here is inside = inside place size
field_default limit all field (Fixed n) part k place size fits here is inside =
    let block : Shape → Made Datum = λ shape. list_block shape limit field.size place n size
    (λ after. made (list (copies n (zero_part part))) after) in
    ap block is
field_default limit all field (Counted c) part k place size fits here is inside =
    counted_default limit field c place (number_at (default_numbers all) c) (as_count (default_of (branch_at all c))) (zero_part part)
    (λ i datum after. make_part limit part field.size (place ++ Nth i ∷ []) datum after) size is (number_at-default all c ∙ fits.0) fits.1

mutual
  pub default_tree : (limit pointer : ℕ) (nested : Tree) (place : List PlaceStep) (size : ℕ) → IsLaidTree pointer nested
      → make_tree limit nested place empty_record size ≡ made (zero_tree nested) size
  default_tree limit pointer (tree length branches) place size laid =
      let fit = defaults_fit pointer length branches branches 0 laid.0 laid.1 laid.1 (continues_at_start branches) in
      ap (λ (m : Made (List ℤ)). then_make m (λ numbers none. then_make (make_branches limit branches numbers 0 place empty_record size)
      (λ entries after. made (rec entries) after))) (default_numbers_made branches branches place 0 fit)
      ∙ ap (λ (m : Made Entries). then_make m (λ entries after. made (rec entries) after))
      (default_branches limit pointer branches branches 0 place size laid.1 fit (continues_at_start branches))

  default_branches : (limit pointer : ℕ) (all branches : Branches) (k : ℕ) (place : List PlaceStep) (size : ℕ)
      → AreLaidBranches pointer branches → DefaultsFit all branches → Continues all branches k
      → make_branches limit branches (default_numbers all) k place empty_record size ≡ made (zero_branches all branches) size
  default_branches limit pointer all no_fields k place size laid fit continues = refl
  default_branches limit pointer all (branch field part rest) k place size laid fit continues =
      let next : Datum → ℕ → Made Entries = λ value after. then_make
      (make_branches limit rest (default_numbers all) (suc k) place empty_record after)
      (λ others end. made (entry field.name value others) end) in
      let first = field_default limit all field field.shape part k (place ++ At k ∷ []) size fit.0
      (continues_here all field part rest k continues) refl (default_inside limit pointer field.size part laid.1) in
      ap (λ (m : Made Datum). then_make m next) first
      ∙ ap (λ (m : Made Entries). then_make m
      (λ others end. made (entry field.name (zero_shaped all field field.shape part (zero_part part)) others) end))
      (default_branches limit pointer all rest (suc k) place size laid.2 fit.1 (continues_behind all field part rest k continues))

  default_inside : (limit pointer size : ℕ) (part : Part) → IsLaidPart pointer size part → InsideDefault limit part
  default_inside limit pointer size (number_part kind) laid = tt
  default_inside limit pointer size text_part laid = tt
  default_inside limit pointer size (tree_part nested) laid = λ place after. default_tree limit pointer nested place after laid.1

-- an empty sender clashes with nothing
pub no_clash_with_nothing : (branches : Branches) → clash_branches no_fields branches ≡ None
no_clash_with_nothing no_fields = refl
no_clash_with_nothing (branch field part rest) = no_clash_with_nothing rest
