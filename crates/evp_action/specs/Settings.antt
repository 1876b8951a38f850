-- Settings of a transform, at work on the packed record of its second format.
use Rattle.std.specs.Prelude.{◌≡◌, ℕ, List, IsTrue, Result, slice_get, ⊤}
use Rattle.evp_action.specs.declared.acted.Acted.{Acted}
use Rattle.evp_action.specs.declared.action.Setting.{Setting}
use Rattle.evp_action.specs.declared.refusal.Refusal.{Refusal}
use Rattle.evp_action.specs.Acting.{set_from, transformed}
use Rattle.evp_action.specs.Agreement.{AreSettings, IsSettable}
use Rattle.evp_action.specs.Converted.{IsPackedIn, IsRefused}
use Rattle.evp_action.specs.Outcome.{Outcome}
use Rattle.evp_action.specs.Performed.{HasValue}
use Rattle.evp_action.specs.Storing.{IsPacked}
use Rattle.evp_action.specs.Working.{IsAnswer}
use Rattle.evp_base.specs.Numbers.{is_size_of}
use Rattle.evp_format.specs.declared.field.Base.{Base}
use Rattle.evp_format.specs.declared.field.Base.TheVariants.{Number, Text, Nested}
use Rattle.evp_format.specs.Datum.{Datum, rec, Entries}
use Rattle.evp_format.specs.Layout.{Layout}
use Rattle.evp_record.specs.OwnedBytes.{OwnedBytes}

-- the setting's expression is bound to the one format, and its field may be set in the other
pub record CanSet (layout into : Layout) (setting : Setting) : Type 0 where
  pub bound : layout ≡ setting.value.layout
  pub settable : IsSettable into setting.field

-- from the setting of number k on all went well, and whatever follows is done with the fields that
-- these bytes pack
pub record AreSet (into : Layout) (k : ℕ) (settings : List Setting) (value : Datum) (old : Entries)
    (bytes : List ℕ) : Type 0 where
  pub fields : Entries
  pub packed : IsPacked into fields bytes
  pub is : (next : Entries → Outcome)
      → set_from into k settings value old next ≡ next fields

-- the first that went wrong is refused for this cause, whatever was to follow
abbrev pub StopsBy : Layout → ℕ → List Setting → Datum → Entries → Refusal → Type 0
StopsBy into k settings value old cause =
    (next : Entries → Outcome) → IsRefused (set_from into k settings value old next) cause

-- where the field is a number's, the size is one that its kind may have
abbrev pub HasNumberSize : Base → ℕ → Type 0
HasNumberSize (Number kind) size = IsTrue (is_size_of kind size)
HasNumberSize Text size = ⊤
HasNumberSize (Nested type_number) size = ⊤

-- fields of the format of this number may be set by these, which see the item
abbrev pub MaySet : List Layout → ℕ → List Setting → OwnedBytes → Type 0
MaySet formats into settings item =
    (declared : ℕ) × AreSettings formats declared item.format into settings

-- the bytes are a packed record of the format of this number
abbrev pub IsPackedRecordIn : List Layout → ℕ → List ℕ → Type 0
IsPackedRecordIn formats format bytes = (fields : Entries) × IsPackedIn formats format fields bytes

-- whatever value the item has: the answer is what a transform does with the fields that these bytes
-- pack, after they are set
abbrev pub IsAnswerWithSet : List Layout → ℕ → List Setting → OwnedBytes → List ℕ
    → Result Acted Refusal → Type 0
IsAnswerWithSet formats into settings item bytes answer =
    (value : Datum) (fields : Entries) → HasValue formats item value
    → IsPackedIn formats into fields bytes
    → IsAnswer formats (transformed (slice_get formats into) into settings value (rec fields)) answer
