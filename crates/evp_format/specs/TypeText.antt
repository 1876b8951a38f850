-- What a type text says: a word, and behind it nothing, `[N]` or `[name]`. There is one spelling of
-- each type.
use Rattle.std.specs.Prelude.{ℕ, ◌-◌, ◌&&◌, nat_eq, nat_le, if◌then◌else◌, List, [], ◌∷◌, length}
use Rattle.std.specs.Prelude.{take, slice_index, Option, Some, None, Result, Ok, Err, codes}
use Rattle.std.specs.List.{position_from}
use Rattle.std.specs.Option.{ok_or}
use Rattle.std.specs.Fmt.{decimal}
use Rattle.std.specs.Str.Parse.{digits_value}
use Rattle.evp_base.specs.declared.kind.Kind.TheVariants.{Int, Unsigned, Char, Boolean, Enumeration}
use Rattle.evp_base.specs.Name.{is_name}
use Rattle.evp_format.specs.declared.draft.DraftShape.{DraftShape}
use Rattle.evp_format.specs.declared.draft.DraftShape.TheVariants.{One, Fixed, Counted}
use Rattle.evp_format.specs.declared.field.Base.{Base}
use Rattle.evp_format.specs.declared.field.Base.TheVariants.{Number, Text, Nested}
use Rattle.evp_format.specs.declared.layout_fault.LayoutFault.{LayoutFault}
use Rattle.evp_format.specs.declared.layout_fault.LayoutFault.TheVariants.{TypeText, Float}
use Rattle.evp_format.specs.declared.layout_fault.LayoutFault.TheVariants.{UnknownType}
use Rattle.evp_format.specs.declared.record_type.RecordType.{RecordType}
use Rattle.evp_format.specs.declared.type_text.Word.{Word}
use Rattle.evp_format.specs.declared.type_text.Word.TheVariants.{Plain, FloatWord, Named}
use Rattle.evp_format.specs.Bytes.{bytes_equal}
use Rattle.evp_format.specs.Steps.{◌>>=◌}
use Rattle.evp_format.specs.WellLaid.{is_type_name}

-- what stands before the first `[`
abbrev pub word_part : List ℕ → List ℕ
word_part [] = []
word_part (byte ∷ bytes) = if nat_eq byte 91 then [] else byte ∷ word_part bytes

-- what stands from the first `[` on
abbrev pub bracket_part : List ℕ → List ℕ
bracket_part [] = []
bracket_part (byte ∷ bytes) = if nat_eq byte 91 then byte ∷ bytes else bracket_part bytes

-- a record type's name
abbrev pub type_word_of : List ℕ → Option Word
type_word_of text = if is_type_name text then Some (Named text) else None

-- a type word, or a name that isn't reserved
unfoldable pub word_of : List ℕ → Option Word
word_of text =
    if bytes_equal text (codes "integer") then Some (Plain (Number Int))
    else (if bytes_equal text (codes "unsigned integer") then Some (Plain (Number Unsigned))
    else (if bytes_equal text (codes "char") then Some (Plain (Number Char))
    else (if bytes_equal text (codes "boolean") then Some (Plain (Number Boolean))
    else (if bytes_equal text (codes "enumeration") then Some (Plain (Number Enumeration))
    else (if bytes_equal text (codes "string") then Some (Plain Text)
    else (if bytes_equal text (codes "float") then Some FloatWord
    else type_word_of text))))))

-- a number from 1 to 65,536 as it is written
unfoldable pub fixed_of : List ℕ → Option DraftShape
fixed_of text =
    let n = digits_value 10 text in
    if (nat_le 1 n && nat_le n 65536) && bytes_equal (decimal n) text then Some (Fixed n) else None

-- what stands between brackets: a name or a number
unfoldable pub inside_of : List ℕ → Option DraftShape
inside_of text = if is_name text then Some (Counted text) else fixed_of text

-- what stands behind a word: nothing, or a text in brackets
unfoldable pub shape_of : List ℕ → Option DraftShape
shape_of [] = Some One
shape_of (bracket ∷ rest) = if nat_eq (slice_index rest (length rest - 1)) 93
    then inside_of (take (length rest - 1) rest) else None

-- the number of the type of this name
abbrev pub type_named : List RecordType → List ℕ → Option ℕ
type_named types name = position_from (λ (type : RecordType). bytes_equal type.name name) 0 types

-- the base of the type of this number, where there is one
abbrev pub known_base : ℕ → ℕ → Option ℕ → Result Base LayoutFault
known_base type field None = Err (UnknownType type field)
known_base type field (Some k) = Ok (Nested k)

-- the base that a word means, behind these types
unfoldable pub base_of : List RecordType → ℕ → ℕ → Word → Result Base LayoutFault
base_of earlier type field (Plain base) = Ok base
base_of earlier type field FloatWord = Err (Float type field)
base_of earlier type field (Named name) = known_base type field (type_named earlier name)

-- the base and the shape that a text says, behind these types: first that it is a type text, then
-- its word
unfoldable pub type_text_of : List RecordType → ℕ → ℕ → List ℕ
    → Result (Base × DraftShape) LayoutFault
type_text_of earlier type field text = do
  word ← ok_or (word_of (word_part text)) (TypeText type field)
  shape ← ok_or (shape_of (bracket_part text)) (TypeText type field)
  base ← base_of earlier type field word
  Ok (base, shape)
