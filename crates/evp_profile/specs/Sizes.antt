-- Sizes that numbers have while types are laid out.
use Rattle.std.specs.Prelude.{ℕ, Bool, true, IsTrue}
use Rattle.evp_base.specs.Numbers.{is_size_of}
use Rattle.evp_format.specs.declared.draft.DraftField.{DraftField}
use Rattle.evp_format.specs.declared.field.Base.{Base}
use Rattle.evp_format.specs.declared.field.Base.TheVariants.{Number, Text, Nested}
use Rattle.evp_format.specs.declared.field.Field.{Field}

-- a number's size is one of its kind's
abbrev pub is_number_size : Base → ℕ → Bool
is_number_size (Number kind) size = is_size_of kind size
is_number_size Text size = true
is_number_size (Nested k) size = true

abbrev pub HasNumberSize : Field → Type 0
HasNumberSize field = IsTrue (is_number_size field.base field.size)

abbrev pub HasDraftSize : DraftField → Type 0
HasDraftSize draft = IsTrue (is_number_size draft.base draft.size)
