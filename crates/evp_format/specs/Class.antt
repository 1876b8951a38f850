-- The class of a field: a number, a text, a record, or an array of one of these.
use Rattle.std.specs.Prelude.{◌≡◌, ℕ, Bool, true, false, List, [], Option, Some, None, option_map}
use Rattle.std.specs.Prelude.{option_and_then, slice_get, ⊤}
use Rattle.evp_format.specs.declared.field.Base.{Base}
use Rattle.evp_format.specs.declared.field.Base.TheVariants.{Number, Text, Nested}
use Rattle.evp_format.specs.declared.field.Field.{Field}
use Rattle.evp_format.specs.declared.field.Shape.{Shape}
use Rattle.evp_format.specs.declared.field.Shape.TheVariants.{One, Fixed, Counted}
use Rattle.evp_format.specs.declared.record_type.RecordType.{RecordType}
use Rattle.evp_format.specs.Layout.{Layout}
use Rattle.evp_format.specs.Tree.{Part, number_part, text_part, tree_part}

-- what a field, or each element of an array, is
pub data Content : Type 0 where
  numbers : Content
  texts : Content
  records : Content

pub data Class : Type 0 where
  single : Content → Class
  array : Content → Class

abbrev pub content_of : Base → Content
content_of (Number kind) = numbers
content_of Text = texts
content_of (Nested type_number) = records

-- the same of a part of a tree
abbrev pub content_in : Part → Content
content_in (number_part kind) = numbers
content_in text_part = texts
content_in (tree_part nested) = records

abbrev pub shaped : Shape → Content → Class
shaped One content = single content
shaped (Fixed n) content = array content
shaped (Counted c) content = array content

abbrev pub class_of : Field → Class
class_of field = shaped field.shape (content_of field.base)

-- the class of a field of a tree, which is that part
abbrev pub class_in : Field → Part → Class
class_in field part = shaped field.shape (content_in part)

-- both are numbers, texts or records
abbrev pub same_content : Content → Content → Bool
same_content numbers numbers = true
same_content texts texts = true
same_content records records = true
same_content content other = false

-- both are arrays, or neither is, and of one content
abbrev pub same_class : Class → Class → Bool
same_class (single content) (single other) = same_content content other
same_class (array content) (array other) = same_content content other
same_class class other = false

-- the field of this number of the type of that number
abbrev pub field_at : Layout → ℕ → ℕ → Option Field
field_at layout type_number k =
    option_and_then (λ (type : RecordType). slice_get type.fields k)
    (slice_get layout.types type_number)

abbrev pub class_at : Layout → ℕ → ℕ → Option Class
class_at layout type_number k = option_map class_of (field_at layout type_number k)

-- the number of the nested type
abbrev pub nested_number : Base → Option ℕ
nested_number (Number kind) = None
nested_number Text = None
nested_number (Nested type_number) = Some type_number

-- the number of the nested type of that field
abbrev pub nested_at : Layout → ℕ → ℕ → Option ℕ
nested_at layout type_number k =
    option_and_then (λ (field : Field). nested_number field.base) (field_at layout type_number k)

-- a field that isn't an array
abbrev pub IsSingle : Option Class → Type 0
IsSingle None = ⊥
IsSingle (Some (single content)) = ⊤
IsSingle (Some (array content)) = ⊥

abbrev pub IsArray : Option Class → Type 0
IsArray None = ⊥
IsArray (Some (single content)) = ⊥
IsArray (Some (array content)) = ⊤

-- a field whose parts are of that content
abbrev pub HasContent : Content → Option Class → Type 0
HasContent content None = ⊥
HasContent content (Some (single other)) = content ≡ other
HasContent content (Some (array other)) = content ≡ other

abbrev pub fields_in : Option RecordType → List Field
fields_in None = []
fields_in (Some type) = type.fields

-- the fields of the type of this number
abbrev pub type_fields : Layout → ℕ → List Field
type_fields layout n = fields_in (slice_get layout.types n)
