-- One setting.
use Rattle.std.proofs.Common.{◌≡◌, ℕ, ◌-◌, Bool, true, false, List, [], ◌∷◌, length, Result, Ok, Option, Some, sym, ap, refl}
use Rattle.std.proofs.Common.{◌∙◌, subst}
use Rattle.std.specs.Prelude.{ℤ, IfSome}
use Rattle.evp_action.specs.declared.acted.Reason.TheVariants as reason
use Rattle.evp_action.specs.declared.action.Setting.{Setting}
use Rattle.evp_action.specs.Acting.{then_number, stored, with_number, set_from}
use Rattle.evp_action.specs.Agreement.{IsSettable}
use Rattle.evp_action.specs.Outcome.{Outcome, refused}
use Rattle.evp_action.specs.Settings.{AreSet, HasNumberSize}
use Rattle.evp_action.specs.Storing.{IsPacked, FitsField}
use Rattle.evp_base.specs.declared.kind.Kind.{Kind}
use Rattle.evp_base.specs.declared.step.Step.{Step}
use Rattle.evp_base.specs.declared.step.Step.TheVariants as step
use Rattle.evp_base.specs.Numbers.{is_in_range}
use Rattle.evp_eval.specs.declared.fault.EvalFault.{EvalFault}
use Rattle.evp_eval.specs.Value.{value as value_over}
use Rattle.evp_format.specs.declared.field.Base.{Base}
use Rattle.evp_format.specs.declared.field.Base.TheVariants.{Number, Text, Nested}
use Rattle.evp_format.specs.declared.field.Field.{Field}
use Rattle.evp_format.specs.Class.{field_at}
use Rattle.evp_format.specs.Datum.{Datum, Entries}
use Rattle.evp_format.specs.Layout.{Layout}
use Rattle.evp_format.specs.WellLaid.{IsWellLaid, IsNumberIn, HasBaseSize}
use Rattle.evp_format.proofs.StatedFields.{range_test}
use Rattle.evp_format.proofs.WellLaidTypes.{in_range_is}
use Rattle.evp_record.proofs.Laid.{laid_at}

-- a field of a well laid format
number_sized : (pointer : ℕ) (earlier : List _) (base : Base) (size : ℕ) → HasBaseSize pointer earlier base size → HasNumberSize base size
number_sized pointer earlier (Number kind) size is = is
number_sized pointer earlier Text size is = tt
number_sized pointer earlier (Nested n) size is = tt

pub sized_at : (layout : Layout) (n k : ℕ) (field : Field) → IsWellLaid layout → field_at layout n k ≡ Some field
    → HasNumberSize field.base field.size
sized_at layout n k field laid found = number_sized _ _ field.base field.size (laid_at layout n k field laid found).laid.size_allowed

-- what the number does to the field
stored_in : (found : Option Field) (field : Field) (kind : Kind) (n : ℤ) (next : Unit {0} → Outcome) → found ≡ Some field
    → field.base ≡ Number kind → is_in_range kind field.size n ≡ true → stored found n next ≡ next tt
stored_in found field kind n next there is fits = rw (there, is, fits) refl

unfit_in : (found : Option Field) (field : Field) (kind : Kind) (n : ℤ) (next : Unit {0} → Outcome) → found ≡ Some field
    → field.base ≡ Number kind → is_in_range kind field.size n ≡ false
    → stored found n next ≡ refused (reason.Unfit (step.Field field.name ∷ []))
unfit_in found field kind n next there is unfit = rw (there, is, unfit) refl

-- a single number field and a number
pub record IsAt (into : Layout) (setting : Setting) (value : Datum) (n : ℤ) (field : Field) : Type 0 where
  pub read : Ok n ≡ value_over setting.value.tree value
  pub there : field_at into (length into.types - 1) setting.field ≡ Some field

-- the field is the one that may be set
same_kind : (into : Layout) (setting : Setting) (value : Datum) (n : ℤ) (field : Field) → IsAt into setting value n field
    → (may : IsSettable into setting.field) → field.base ≡ Number may.kind
same_kind into setting value n field at may =
    let same : field ≡ may.field = some_same _ _ _ at.there may.there in
    ap (λ (f : Field). f.base) same ∙ may.a_number
  where
    some_same : (x y : Field) (o : Option Field) → o ≡ Some x → o ≡ Some y → x ≡ y
    some_same x y o p q = cc

is_false : (b : Bool) → (b ≡ true → ⊥) → b ≡ false
is_false true never = absurd (never refl)
is_false false never = refl

-- the number that fits is stored
pub is_set : (into : Layout) (k : ℕ) (setting : Setting) (value : Datum) (n : ℤ) (field : Field) (fields : Entries) (after : List ℕ)
    → IsAt into setting value n field → IsSettable into setting.field → IsNumberIn field.base field.size n
    → IsPacked into (with_number setting.field n fields) after → AreSet into k (setting ∷ []) value fields after
is_set into k setting value n field fields after at may fits packed =
    let is = same_kind into setting value n field at may in
    let within = range_test may.kind field.size n (subst (λ (b : Base). IsNumberIn b field.size n) is fits) in
    record {
      fields = with_number setting.field n fields;
      packed = packed;
      is = λ next.
          ap (λ (read : Result ℤ EvalFault). then_number (Some k) read
          (λ m. stored (field_at into (length into.types - 1) setting.field) m (λ _. next (with_number setting.field m fields))))
          (sym at.read)
          ∙ stored_in _ field may.kind n (λ _. next (with_number setting.field n fields)) at.there is within;
    }

-- one that doesn't fit refuses the record
pub is_unfit : (into : Layout) (k : ℕ) (setting : Setting) (value : Datum) (n : ℤ) (field : Field) (fields : Entries) (path : List Step)
    → IsAt into setting value n field → IsSettable into setting.field → (IsNumberIn field.base field.size n → ⊥)
    → path ≡ step.Field field.name ∷ [] → (next : Entries → Outcome)
    → set_from into k (setting ∷ []) value fields next ≡ refused (reason.Unfit path)
is_unfit into k setting value n field fields path at may unfit path_is next =
    let is = same_kind into setting value n field at may in
    let out = is_false (is_in_range may.kind field.size n)
    (λ yes. unfit (subst (λ (b : Base). IsNumberIn b field.size n) (sym is) (in_range_is may.kind field.size n yes))) in
    ap (λ (read : Result ℤ EvalFault). then_number (Some k) read
    (λ m. stored (field_at into (length into.types - 1) setting.field) m (λ _. next (with_number setting.field m fields)))) (sym at.read)
    ∙ (unfit_in _ field may.kind n (λ _. next (with_number setting.field n fields)) at.there is out
    ∙ ap (λ (p : List Step). refused (reason.Unfit p)) (sym path_is))

pub fits_at : (into : Layout) (k : ℕ) (n : ℤ) (field : Field) → field_at into (length into.types - 1) k ≡ Some field
    → IsNumberIn field.base field.size n → FitsField into k n
fits_at into k n field there fits =
    subst (λ (found : Option Field). IfSome found (λ field. IsNumberIn field.base field.size n)) (sym there) fits
