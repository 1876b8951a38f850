-- The name of the type or the field of a number.
use Rattle.std.proofs.Common.{◌≡◌, ℕ, zero, suc, ◌<◌, ◌≤◌, List, [], ◌∷◌, length, get_or, refl, ap, arith}
use Rattle.evp_format.specs.declared.field.Field.{Field}
use Rattle.evp_format.specs.declared.record_type.RecordType.{RecordType}
use Rattle.evp_format.specs.Describing.{type_name, field_name}

pub type_name-within : (types : List RecordType) (k : ℕ) (type : RecordType) → k < length types → type ≡ get_or types k type
    → type.name ≡ type_name types k
type_name-within [] k type below is = absurd (omega arith)
type_name-within (first ∷ types) zero type below is = ap (λ (t : RecordType). t.name) is
type_name-within (first ∷ types) (suc k) type below is = type_name-within types k type (omega arith) is

pub type_name-past : (types : List RecordType) (k : ℕ) → length types ≤ k → type_name types k ≡ []
type_name-past [] k past = refl
type_name-past (first ∷ types) zero past = absurd (omega arith)
type_name-past (first ∷ types) (suc k) past = type_name-past types k (omega arith)

pub field_name-within : (fields : List Field) (k : ℕ) (field : Field) → k < length fields → field ≡ get_or fields k field
    → field.name ≡ field_name fields k
field_name-within [] k field below is = absurd (omega arith)
field_name-within (first ∷ fields) zero field below is = ap (λ (f : Field). f.name) is
field_name-within (first ∷ fields) (suc k) field below is = field_name-within fields k field (omega arith) is

pub field_name-past : (fields : List Field) (k : ℕ) → length fields ≤ k → field_name fields k ≡ []
field_name-past [] k past = refl
field_name-past (first ∷ fields) zero past = absurd (omega arith)
field_name-past (first ∷ fields) (suc k) past = field_name-past fields k (omega arith)
