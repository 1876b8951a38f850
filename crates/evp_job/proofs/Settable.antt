-- Fields that were found to be settable are.
use Rattle.std.proofs.Common.{◌≡◌, ℕ, zero, suc, ◌+◌, ◌-◌, Bool, true, false, List, [], ◌∷◌, length, Option, Some, None}
use Rattle.std.proofs.Common.{refl, sym, ap, ◌∙◌, subst, arith}
use Rattle.std.specs.Prelude.{slice_get, unwrap_or, option_and_then, nat_eq, not, ◌||◌, ◌&&◌, if◌then◌else◌}
use Rattle.std.specs.List.{list_any}
use Rattle.std.proofs.lemmas.Bool.Decides.{nat_tests}
use Rattle.evp_action.specs.Agreement.{IsSettable}
use Rattle.evp_base.specs.declared.kind.Kind.{Kind}
use Rattle.evp_eval.specs.Meaning.{field_named}
use Rattle.evp_format.specs.Bytes.{bytes_equal}
use Rattle.evp_format.specs.Class.{fields_in, field_at}
use Rattle.evp_format.specs.Layout.{Layout}
use Rattle.evp_format.specs.declared.field.Base.{Base}
use Rattle.evp_format.specs.declared.field.Base.TheVariants.{Number, Text, Nested}
use Rattle.evp_format.specs.declared.field.Field.{Field}
use Rattle.evp_format.specs.declared.field.Shape.{Shape}
use Rattle.evp_format.specs.declared.field.Shape.TheVariants.{One, Fixed, Counted}
use Rattle.evp_format.specs.declared.record_type.RecordType.{RecordType}
use Rattle.evp_job.specs.Settings.{is_number_of, counts_by, is_count_of, root_fields, number_to_set, settable}
use Rattle.evp_job.proofs.WentOn.{both, none_before}

-- ---- a field that was found

record IsFieldFrom (k : ℕ) (fields : List Field) (found : ℕ × Field) : Type 0 where
  pub at : ℕ
  pub number : found.0 ≡ k + at
  pub there : slice_get fields at ≡ Some found.1

field_test : (name : List ℕ) (k : ℕ) (field : Field) (fields : List Field) (found : ℕ × Field) (test : Bool)
    → (field_named name (suc k) fields ≡ Some found → IsFieldFrom (suc k) fields found)
    → (if test then Some (k, field) else field_named name (suc k) fields) ≡ Some found
    → IsFieldFrom k (field ∷ fields) found
field_test name k field fields found true later is =
    let same : (k, field) ≡ found = ap (λ (o : Option (ℕ × Field)). unwrap_or o found) is in
    let none : k ≡ k + 0 = omega arith in
    subst (IsFieldFrom k (field ∷ fields)) same (record { at = 0; number = none; there = refl })
field_test name k field fields found false later is =
    let here = later is in
    let one_on : suc k + here.at ≡ k + suc here.at = omega arith in
    record { at = suc here.at; number = here.number ∙ one_on; there = here.there }

field_found : (name : List ℕ) (k : ℕ) (fields : List Field) (found : ℕ × Field)
    → field_named name k fields ≡ Some found → IsFieldFrom k fields found
field_found name k [] found is = cc
field_found name k (field ∷ fields) found is =
    field_test name k field fields found (bytes_equal name field.name) (field_found name (suc k) fields found) is

-- ---- what its tests say

record IsSingleNumber (shape : Shape) (base : Base) : Type 0 where
  pub kind : Kind
  pub single : shape ≡ One
  pub a_number : base ≡ Number kind

single_number : (shape : Shape) (base : Base) → is_number_of shape base ≡ true → IsSingleNumber shape base
single_number One (Number kind) is = record { kind = kind; single = refl; a_number = refl }
single_number One Text is = cc
single_number One (Nested n) is = cc
single_number (Fixed n) (Number kind) is = cc
single_number (Fixed n) Text is = cc
single_number (Fixed n) (Nested k) is = cc
single_number (Counted c) (Number kind) is = cc
single_number (Counted c) Text is = cc
single_number (Counted c) (Nested k) is = cc

neither : (a b : Bool) → (a || b) ≡ false → (a ≡ false) × (b ≡ false)
neither true b is = cc
neither false b is = (refl, is)

no_element : {A : Type 0} (test : A → Bool) (xs : List A) (k : ℕ) (x : A) → list_any test xs ≡ false
    → slice_get xs k ≡ Some x → test x ≡ false
no_element test [] k x none there = cc
no_element test (y ∷ xs) zero x none there =
    let same : y ≡ x = ap (λ (o : Option _). unwrap_or o x) there in
    subst (λ z. test z ≡ false) same (neither (test y) (list_any test xs) none).0
no_element test (y ∷ xs) (suc k) x none there =
    no_element test xs k x (neither (test y) (list_any test xs) none).1 there

not_counted : (number : ℕ) (shape : Shape) → counts_by number shape ≡ false → shape ≡ Counted number → ⊥
not_counted number shape none is =
    let itself : counts_by number (Counted number) ≡ true = grind (arith, nat_tests) in
    let h = sym itself ∙ ap (counts_by number) (sym is) ∙ none in cc

not_false : (b : Bool) → not b ≡ true → b ≡ false
not_false true is = cc
not_false false is = refl

-- ---- the fields of the record

at_root : (type : Option RecordType) (k : ℕ)
    → option_and_then (λ (type : RecordType). slice_get type.fields k) type ≡ slice_get (fields_in type) k
at_root None k = refl
at_root (Some type) k = refl

chosen : (fields : List Field) (found : ℕ × Field) (number : ℕ) (test : Bool)
    → (if test then Some found.0 else None) ≡ Some number → (test ≡ true) × (found.0 ≡ number)
chosen fields found number true is = (refl, ap (λ (o : Option ℕ). unwrap_or o number) is)
chosen fields found number false is = cc

of_found : (layout : Layout) (found : Option (ℕ × Field)) (number : ℕ)
    → ((one : ℕ × Field) → found ≡ Some one → IsFieldFrom 0 (root_fields layout) one)
    → option_and_then (number_to_set (root_fields layout)) found ≡ Some number → IsSettable layout number
of_found layout None number where_ is = cc
of_found layout (Some found) number where_ is =
    let fields = root_fields layout in
    let root = slice_get layout.types (length layout.types - 1) in
    let here = where_ found refl in
    let picked = chosen fields found number (is_number_of found.1.shape found.1.base && not (is_count_of found.0 fields)) is in
    let tests = both (is_number_of found.1.shape found.1.base) (not (is_count_of found.0 fields)) picked.0 in
    let one = single_number found.1.shape found.1.base tests.0 in
    let same : here.at ≡ number = sym (here.number ∙ none_before here.at) ∙ picked.1 in
    let none : is_count_of number fields ≡ false =
    subst (λ (n : ℕ). is_count_of n fields ≡ false) picked.1 (not_false (is_count_of found.0 fields) tests.1) in
    record {
      field = found.1;
      kind = one.kind;
      there = at_root root number ∙ subst (λ (n : ℕ). slice_get fields n ≡ Some found.1) same here.there;
      single = one.single;
      a_number = one.a_number;
      no_count = λ k other at. not_counted number other.shape
          (no_element (λ (field : Field). counts_by number field.shape) fields k other none (sym (at_root root k) ∙ at));
    }

pub settable_kept : (layout : Layout) (name : List ℕ) (number : ℕ)
    → settable name (root_fields layout) ≡ Some number → IsSettable layout number
settable_kept layout name number is =
    of_found layout (field_named name 0 (root_fields layout)) number (field_found name 0 (root_fields layout)) is
