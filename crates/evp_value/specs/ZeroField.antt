-- The zero of a field of a well laid type, in which each count is 0.
use Rattle.std.specs.Prelude.{List}
use Rattle.evp_format.specs.declared.field.Field.{Field}
use Rattle.evp_format.specs.declared.field.Shape.{Shape}
use Rattle.evp_format.specs.declared.field.Shape.TheVariants.{One, Fixed, Counted}
use Rattle.evp_format.specs.Datum.{Datum, list, empty_list, copies}
use Rattle.evp_format.specs.Tree.{Tree, Part, part_of}
use Rattle.evp_format.specs.Zero.{zero_single, zero_part}

-- a single number has its default, a counted array no element
abbrev pub zero_at : Field → Shape → Part → Datum
zero_at field One part = zero_single field part (zero_part part)
zero_at field (Fixed n) part = list (copies n (zero_part part))
zero_at field (Counted c) part = list empty_list

-- the zero of a field, where the trees of the types are these
abbrev pub zero_of_field : List Tree → Field → Datum
zero_of_field trees field = zero_at field field.shape (part_of trees field.base)
