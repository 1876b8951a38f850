-- A record's fields by their names: each finds its own value, and the numbers of a conversion to the same type are its own.
use Rattle.std.proofs.Common.{◌≡◌, ◌≢◌, ℕ, zero, suc, ◌<◌, ℤ, Bool, true, false, not, List, [], ◌∷◌, ◌++◌, Option, Some, if◌then◌else◌}
use Rattle.std.proofs.Common.{refl, sym, ap, ◌∙◌, subst, arith, inl, inr}
use Rattle.std.proofs.lemmas.Bool.{cases_Bool}
use Rattle.std.specs.Prelude.{slice_get}
use Rattle.evp_base.specs.declared.kind.Kind.{Kind}
use Rattle.evp_base.specs.Numbers.{InRange}
use Rattle.evp_format.specs.declared.field.Field.{Field}
use Rattle.evp_format.specs.declared.field.Shape.{Shape}
use Rattle.evp_format.specs.declared.field.Shape.TheVariants.{One, Fixed, Counted}
use Rattle.evp_format.specs.declared.place.PlaceStep.{PlaceStep}
use Rattle.evp_format.specs.declared.place.PlaceStep.TheVariants.{At}
use Rattle.evp_format.specs.Bytes.{bytes_equal}
use Rattle.evp_format.specs.Converting.{Made, made, then_make, unless_unfit, number_or_default, receiver_number, number_fits, numbers_from}
use Rattle.evp_format.specs.Converting.{number_at}
use Rattle.evp_format.specs.Datum.{Datum, num, null, text, list, rec, Entries, empty_record, entry, entry_at, named}
use Rattle.evp_format.specs.Tree.{Branches, no_fields, branch, branch_at, Part, number_part, text_part, tree_part, fields_of}
use Rattle.evp_format.specs.Typed.{IsShaped, IsOfBranches, IsOfPart}
use Rattle.evp_format.proofs.MadeNumbers.{same_branch}
use Rattle.evp_format.proofs.Pushed.{bytes_equal-true, bytes_equal-same}
use Rattle.evp_format.proofs.StatedFields.{range_test}

abbrev pub NamesDiffer : List Field → Type 0
NamesDiffer fields = (i j : ℕ) (field other : Field) → i < j → slice_get fields i ≡ Some field → slice_get fields j ≡ Some other
    → field.name ≢ other.name

-- the value of a field of a record of this type, which its name finds
pub record HasEntry (all entries : Entries) (field : Field) (part : Part) (j : ℕ) : Type 0 where
  pub value : Datum
  pub at : entry_at entries j ≡ Some value
  pub by_name : named field.name entries ≡ Some value
  pub typed : IsShaped all field.shape (λ datum. IsOfPart part field.size datum) value

pub slice_get-branch_at : (branches : Branches) (j : ℕ) (field : Field) (part : Part) → branch_at branches j ≡ Some (field, part)
    → slice_get (fields_of branches) j ≡ Some field
slice_get-branch_at no_fields j field part found = cc
slice_get-branch_at (branch first part' rest) zero field part found = ap Some (same_branch first part' field part found).0
slice_get-branch_at (branch first part' rest) (suc j) field part found = slice_get-branch_at rest j field part found

bytes_apart : (a b : List ℕ) → a ≢ b → bytes_equal a b ≡ false
bytes_apart a b apart = elim (cases_Bool (bytes_equal a b)) [
  | inl equal ↦ absurd (apart (bytes_equal-true a b equal))
  | inr other ↦ other
]

pub entry_found : (all : Entries) (branches : Branches) (entries : Entries) → IsOfBranches all branches entries
    → NamesDiffer (fields_of branches) → (j : ℕ) (field : Field) (part : Part)
    → branch_at branches j ≡ Some (field, part) → HasEntry all entries field part j
entry_found all no_fields entries typed differ j field part found = cc
entry_found all (branch first part' rest) empty_record typed differ j field part found = absurd typed
entry_found all (branch first part' rest) (entry name datum others) typed differ zero field part found =
    let same = same_branch first part' field part found in
    let name_is : field.name ≡ name = ap (λ (f : Field). f.name) (sym same.0) ∙ sym typed.0 in
    let Typed : Field → Part → Type 0 = λ f p. IsShaped all f.shape (λ value. IsOfPart p f.size value) datum in
    record {
      value = datum;
      at = refl;
      by_name = ap (λ (t : Bool). if t then Some datum else named field.name others)
          (ap (bytes_equal field.name) (sym name_is) ∙ bytes_equal-same field.name);
      typed = subst (λ (f : Field). Typed f part) same.0 (subst (Typed first) same.1 typed.1);
    }
entry_found all (branch first part' rest) (entry name datum others) typed differ (suc j) field part found =
    let more = entry_found all rest others typed.2 (λ i k one other below here there. differ (suc i) (suc k) one other
    (omega (arith, below)) here there) j field part found in
    let apart : first.name ≢ field.name = differ 0 (suc j) first field (omega arith) refl (slice_get-branch_at rest j field part found) in
    let other : bytes_equal field.name name ≡ false = bytes_apart field.name name (λ same. apart (sym typed.0 ∙ sym same)) in
    record {
      value = more.value;
      at = more.at;
      by_name = ap (λ (t : Bool). if t then Some datum else named field.name others) other ∙ more.by_name;
      typed = more.typed;
    }

-- the numbers that a receiver's single number fields take
abbrev pub receiver_numbers : Branches → Entries → List ℤ
receiver_numbers no_fields partner = []
receiver_numbers (branch field part rest) partner = receiver_number field field.shape part partner ∷ receiver_numbers rest partner

pub number_at-receiver : (branches : Branches) (partner : Entries) (j : ℕ) (field : Field) (part : Part)
    → branch_at branches j ≡ Some (field, part)
    → number_at (receiver_numbers branches partner) j ≡ receiver_number field field.shape part partner
number_at-receiver no_fields partner j field part found = cc
number_at-receiver (branch first part' rest) partner zero field part found =
    let same = same_branch first part' field part found in
    ap (λ (f : Field). receiver_number f f.shape part' partner) same.0
    ∙ ap (λ (p : Part). receiver_number field field.shape p partner) same.1
number_at-receiver (branch first part' rest) partner (suc j) field part found = number_at-receiver rest partner j field part found

-- where each fits, they are what the numbers' pass makes
pub numbers_fit : (place : List PlaceStep) (k : ℕ) (branches : Branches) (partner : Entries)
    → ((j : ℕ) (field : Field) (part : Part) → branch_at branches j ≡ Some (field, part)
    → number_fits field field.shape part (receiver_number field field.shape part partner) ≡ true)
    → numbers_from place k branches partner ≡ made (receiver_numbers branches partner) 0
numbers_fit place k no_fields partner fits = refl
numbers_fit place k (branch field part rest) partner fits =
    let n = receiver_number field field.shape part partner in
    ap (λ (t : Bool). unless_unfit (not t) (place ++ At k ∷ [])
    (λ _. then_make (numbers_from place (suc k) rest partner) (λ others none. made (n ∷ others) none))) (fits 0 field part refl)
    ∙ ap (λ (m : Made (List ℤ)). then_make m (λ others none. made (n ∷ others) none))
    (numbers_fit place (suc k) rest partner (λ j other part' found. fits (suc j) other part' found))

-- a single number field's own number
own_number : (field : Field) (kind : Kind) (partner : Entries) (value : Datum) → named field.name partner ≡ Some value
    → IsOfPart (number_part kind) field.size value
    → (z : ℤ) × (value ≡ num z) × (receiver_number field One (number_part kind) partner ≡ z) × InRange kind field.size z
own_number field kind partner (num z) found typed = (z, refl, ap (λ (o : Option Datum). number_or_default o field.fallback) found, typed)
own_number field kind partner null found typed = absurd typed
own_number field kind partner (text bytes) found typed = absurd typed
own_number field kind partner (list elements) found typed = absurd typed
own_number field kind partner (rec entries) found typed = absurd typed

-- a field's own number fits
pub own_fits : (all partner : Entries) (field : Field) (shape : Shape) (part : Part) (value : Datum) → named field.name partner ≡ Some value
    → IsShaped all shape (λ datum. IsOfPart part field.size datum) value
    → number_fits field shape part (receiver_number field shape part partner) ≡ true
own_fits all partner field One (number_part kind) value found typed =
    let own = own_number field kind partner value found typed in
    ap (λ (n : ℤ). number_fits field One (number_part kind) n) own.2 ∙ range_test kind field.size own.0 own.3
own_fits all partner field One text_part value found typed = refl
own_fits all partner field One (tree_part nested) value found typed = refl
own_fits all partner field (Fixed n) part value found typed = refl
own_fits all partner field (Counted c) part value found typed = refl

-- and it is the number that stands ready
pub own_ready : (all : Entries) (branches : Branches) (j : ℕ) (field : Field) (kind : Kind)
    → branch_at branches j ≡ Some (field, number_part kind) → field.shape ≡ One → (here : HasEntry all all field (number_part kind) j)
    → (z : ℤ) × (here.value ≡ num z) × (number_at (receiver_numbers branches all) j ≡ z)
own_ready all branches j field kind found single here =
    let Typed : Shape → Type 0 = λ shape. IsShaped all shape (λ datum. IsOfPart (number_part kind) field.size datum) here.value in
    let own = own_number field kind all here.value here.by_name (subst Typed single here.typed) in
    let ready = number_at-receiver branches all j field (number_part kind) found in
    (own.0, own.1, ready ∙ ap (λ (shape : Shape). receiver_number field shape (number_part kind) all) single ∙ own.2)
