-- Actions that agree with the formats of a job.
use Rattle.std.specs.Prelude.{◌≡◌, ◌≢◌, ℕ, ◌-◌, ◌^◌, ◌<◌, ◌≤◌, List, length, slice_get, Some, All}
use Rattle.evp_action.specs.declared.action.Action.{Action}
use Rattle.evp_action.specs.declared.action.Action.TheVariants.{Filter, Router, Transform, Split}
use Rattle.evp_action.specs.declared.action.Action.TheVariants.{Terminal}
use Rattle.evp_action.specs.declared.action.Setting.{Setting}
use Rattle.evp_base.specs.declared.kind.Kind.{Kind}
use Rattle.evp_eval.specs.Bound.{BoundTree}
use Rattle.evp_format.specs.Class.{field_at}
use Rattle.evp_format.specs.Layout.{Layout}
use Rattle.evp_format.specs.declared.field.Base.TheVariants.{Number}
use Rattle.evp_format.specs.declared.field.Field.{Field}
use Rattle.evp_format.specs.declared.field.Shape.TheVariants.{One, Counted}

-- the format of this number is declared, and this is it
pub record IsDeclared (formats : List Layout) (declared format : ℕ) (layout : Layout) : Type 0 where
  pub below : format < declared
  pub there : slice_get formats format ≡ Some layout

-- the field of this number of the record is a single number, and no array's count
pub record IsSettable (layout : Layout) (number : ℕ) : Type 0 where
  pub field : Field
  pub kind : Kind
  pub there : field_at layout (length layout.types - 1) number ≡ Some field
  pub single : field.shape ≡ One
  pub a_number : field.base ≡ Number kind
  pub no_count : (k : ℕ) (other : Field) → field_at layout (length layout.types - 1) k ≡ Some other
      → other.shape ≢ Counted number

-- the expression is bound to the format
abbrev pub Binds : List Layout → ℕ → ℕ → BoundTree → Type 0
Binds formats declared format bound = IsDeclared formats declared format bound.layout

-- the setting's expression is bound to the format, and its field is one of the other
pub record IsSetting (formats : List Layout) (declared format into : ℕ) (setting : Setting) : Type 0
  where
    pub bound : Binds formats declared format setting.value
    pub layout : Layout
    pub into_it : IsDeclared formats declared into layout
    pub settable : IsSettable layout setting.field

-- a transform's formats are declared, its expressions are bound to the first, and the fields that it
-- sets may be set in the second; settings have numbers below 2^16
pub record AreSettings (formats : List Layout) (declared format into : ℕ) (settings : List Setting) :
    Type 0 where
  pub layout : Layout
  pub second : Layout
  pub first_there : IsDeclared formats declared format layout
  pub second_there : IsDeclared formats declared into second
  pub each : All (IsSetting formats declared format into) settings
  pub few : length settings ≤ 2 ^ 16

-- formats that an action names are declared, expressions are bound to its first format, and fields
-- that are set may be
abbrev pub Agrees : List Layout → ℕ → Action → Type 0
Agrees formats declared (Filter format test) = Binds formats declared format test
Agrees formats declared (Router format choose) = Binds formats declared format choose
Agrees formats declared (Transform format into set) =
    AreSettings formats declared format into set.items
Agrees formats declared Split = Unit {0}
Agrees formats declared (Terminal format) = (layout : Layout)
    × IsDeclared formats declared format layout
