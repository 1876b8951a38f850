-- The class of a field, as evp_format says it.
pub use Rattle.evp_format.specs.Class.{Content, numbers, texts, records, Class, single, array}
pub use Rattle.evp_format.specs.Class.{content_of, shaped, class_of, field_at, class_at}
pub use Rattle.evp_format.specs.Class.{nested_number, IsSingle, IsArray, HasContent, nested_at}
pub use Rattle.evp_format.specs.Class.{fields_in, type_fields}
use Rattle.std.specs.Prelude.{◌≡◌, ℕ, Some}
use Rattle.evp_format.specs.declared.field.Field.{Field}
use Rattle.evp_format.specs.Layout.{Layout}

-- the field is one of that type
pub record IsFieldOf (layout : Layout) (type_number : ℕ) (field : Field) : Type 0 where
  pub number : ℕ
  pub there : field_at layout type_number number ≡ Some field
