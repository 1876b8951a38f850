-- What `==` answers for fields, types and formats: they are the same.
use Rattle.std.specs.Prelude.{ℕ, Bool, true, false, ◌&&◌, nat_eq, List}
use Rattle.std.specs.Cmp.Lexicographic.{pointwise}
use Rattle.std.specs.Ordering.{int_eq}
use Rattle.evp_base.specs.declared.kind.Kind.{Kind}
use Rattle.evp_base.specs.declared.kind.Kind.TheVariants.{Int, Unsigned, Char, Boolean, Enumeration}
use Rattle.evp_base.specs.declared.order.Order.{Order}
use Rattle.evp_base.specs.declared.order.Order.TheVariants.{Little, Big}
use Rattle.evp_format.specs.declared.field.Base.{Base}
use Rattle.evp_format.specs.declared.field.Base.TheVariants.{Number, Text, Nested}
use Rattle.evp_format.specs.declared.field.Field.{Field}
use Rattle.evp_format.specs.declared.field.Shape.{Shape}
use Rattle.evp_format.specs.declared.field.Shape.TheVariants.{One, Fixed, Counted}
use Rattle.evp_format.specs.declared.record_type.RecordType.{RecordType}
use Rattle.evp_format.specs.Layout.{Layout}

abbrev pub order_eq : Order → Order → Bool
order_eq Little Little = true
order_eq Little Big = false
order_eq Big Little = false
order_eq Big Big = true

-- the place of a kind in the list of kinds
abbrev pub kind_number : Kind → ℕ
kind_number Int = 0
kind_number Unsigned = 1
kind_number Char = 2
kind_number Boolean = 3
kind_number Enumeration = 4

abbrev pub kind_eq : Kind → Kind → Bool
kind_eq kind other = nat_eq (kind_number kind) (kind_number other)

abbrev pub base_eq : Base → Base → Bool
base_eq (Number kind) (Number other) = kind_eq kind other
base_eq (Number kind) Text = false
base_eq (Number kind) (Nested n) = false
base_eq Text (Number kind) = false
base_eq Text Text = true
base_eq Text (Nested n) = false
base_eq (Nested n) (Number kind) = false
base_eq (Nested n) Text = false
base_eq (Nested n) (Nested m) = nat_eq n m

abbrev pub shape_eq : Shape → Shape → Bool
shape_eq One One = true
shape_eq One (Fixed n) = false
shape_eq One (Counted n) = false
shape_eq (Fixed n) One = false
shape_eq (Fixed n) (Fixed m) = nat_eq n m
shape_eq (Fixed n) (Counted m) = false
shape_eq (Counted n) One = false
shape_eq (Counted n) (Fixed m) = false
shape_eq (Counted n) (Counted m) = nat_eq n m

-- of one shape, size, offset and default
abbrev pub place_eq : Field → Field → Bool
place_eq field other =
    shape_eq field.shape other.shape
    && (nat_eq field.size other.size
    && (nat_eq field.offset other.offset && int_eq field.fallback other.fallback))

abbrev pub field_eq : Field → Field → Bool
field_eq field other = pointwise nat_eq field.name other.name
    && (base_eq field.base other.base && place_eq field other)

abbrev pub fields_eq : List Field → List Field → Bool
fields_eq = pointwise field_eq

abbrev pub type_eq : RecordType → RecordType → Bool
type_eq type other = pointwise nat_eq type.name other.name
    && (nat_eq type.length other.length && fields_eq type.fields other.fields)

abbrev pub layout_eq : Layout → Layout → Bool
layout_eq layout other = order_eq layout.order other.order
    && (nat_eq layout.pointer other.pointer && pointwise type_eq layout.types other.types)
