-- Formats and values as the worked examples write them.
use Prim.Native.String.{String}
use Rattle.std.proofs.Common.{ℕ, ℤ, pos, List, codes}
use Rattle.evp_base.specs.declared.kind.Kind.TheVariants.{Int, Unsigned, Char, Boolean, Enumeration}
use Rattle.evp_base.specs.declared.step.Step.{Step}
use Rattle.evp_base.specs.declared.step.Step.TheVariants as step
use Rattle.evp_format.specs.declared.field.Base.{Base}
use Rattle.evp_format.specs.declared.field.Base.TheVariants.{Number, Text, Nested}
use Rattle.evp_format.specs.declared.field.Field.{Field}
use Rattle.evp_format.specs.declared.field.Shape.TheVariants.{One, Fixed, Counted}
use Rattle.evp_format.specs.declared.record_type.RecordType.{RecordType}
use Rattle.evp_format.specs.Datum.{Datum, num, null, text, list, rec}
use Rattle.evp_format.specs.ValueView.{elements_from, entries_from}

-- a single field of this name, size and offset
abbrev single : Base → String → ℕ → ℕ → Field
single base name size offset = record { name = codes name; base = base; shape = One; size = size; offset = offset; fallback = pos 0 }

abbrev pub integer : String → ℕ → ℕ → Field
integer = single (Number Int)

abbrev pub unsigned : String → ℕ → ℕ → Field
unsigned = single (Number Unsigned)

abbrev pub char : String → ℕ → ℕ → Field
char = single (Number Char)

abbrev pub boolean : String → ℕ → ℕ → Field
boolean = single (Number Boolean)

abbrev pub enumeration : String → ℕ → ℕ → Field
enumeration = single (Number Enumeration)

abbrev pub string : String → ℕ → ℕ → Field
string = single Text

-- a record of the type of this number
abbrev pub nested : String → ℕ → ℕ → ℕ → Field
nested name type_number = single (Nested type_number) name

-- n elements inside the record
abbrev pub array : ℕ → Field → Field
array n field = record field { shape = Fixed n }

-- as many elements as field c says
abbrev pub counted : ℕ → Field → Field
counted c field = record field { shape = Counted c }

-- with a stated default
abbrev pub stated : ℤ → Field → Field
stated fallback field = record field { fallback = fallback }

abbrev pub type_of : String → ℕ → List Field → RecordType
type_of name length fields = record { name = codes name; length = length; fields = fields }

-- the steps of a path
abbrev pub name : String → Step
name field = step.Field (codes field)

abbrev pub index : ℕ → Step
index = step.Index

-- a field of a value: its name, and what it is
abbrev pub number : String → ℤ → List ℕ × Datum
number name n = (codes name, num n)

abbrev pub absent : String → List ℕ × Datum
absent name = (codes name, null)

abbrev pub written : String → String → List ℕ × Datum
written name bytes = (codes name, text (codes bytes))

abbrev pub listed : String → List Datum → List ℕ × Datum
listed name elements = (codes name, list (elements_from elements))

abbrev pub inside : String → List (List ℕ × Datum) → List ℕ × Datum
inside name fields = (codes name, rec (entries_from fields))

-- a record of these fields
abbrev pub record_of : List (List ℕ × Datum) → Datum
record_of fields = rec (entries_from fields)
