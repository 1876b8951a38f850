-- Pieces put onto a record that is already begun.
use Rattle.std.specs.Prelude.{ℕ, ◌+◌, ◌*◌, ◌-◌, ◌^◌, ◌<◌, List, ◌++◌, length, replicate, take}
use Rattle.evp_format.specs.declared.field.Field.{Field}
use Rattle.evp_format.specs.Datum.{Datum, Elements, Entries}
use Rattle.evp_format.specs.LaidTree.{IsLaidPart}
use Rattle.evp_format.specs.Layout.{Layout}
use Rattle.evp_format.specs.Packing.{Pieces, put_pieces, machine_of, pack_tree, pack_part}
use Rattle.evp_format.specs.Packing.{pack_elements, pack_counted, pack_shaped}
use Rattle.evp_format.specs.Typed.{IsShaped, IsOfPart}
use Rattle.evp_format.specs.WellLaid.{HasBaseSize}
use Rattle.evp_format.specs.Tree.{tree_of}
pub use Rattle.evp_format.specs.Tree.{part_in}

-- the bytes with zeros behind them, up to this size
abbrev pub grown : List ℕ → ℕ → List ℕ
grown bytes size = bytes ++ replicate (size - length bytes) 0

-- the bytes with room for the pieces' blocks, and the pieces on them
abbrev pub onto : List ℕ → Pieces → List ℕ
onto bytes pieces = put_pieces pieces.all (grown bytes pieces.size)

-- the pieces of an element of a field, at `at`
abbrev pub element_pieces : Layout → Field → ℕ → Datum → ℕ → Pieces
element_pieces layout field at datum size = pack_part (machine_of layout) (part_in layout field)
    field.size at datum size

-- the pieces of elements k, k + 1 and so on of a field, the first of all at `at`
abbrev pub list_pieces : Layout → Field → ℕ → Elements → ℕ → ℕ → Pieces
list_pieces layout field at elements k size = pack_elements
    (λ i. element_pieces layout field (at + i * field.size)) elements k size

-- the pieces of a counted array of a field
abbrev pub counted_pieces : Layout → Field → ℕ → Elements → ℕ → Pieces
counted_pieces layout field at elements size = pack_counted (machine_of layout) at field.size
    elements (element_pieces layout field) size

-- the pieces of a field of the record at `at`
abbrev pub field_pieces : Layout → Field → ℕ → Datum → ℕ → Pieces
field_pieces layout field at datum size = pack_shaped (machine_of layout) field field.shape at datum
    (element_pieces layout field) size

-- the pieces of the record at `at`
abbrev pub record_pieces : Layout → ℕ → ℕ → Entries → ℕ → Pieces
record_pieces layout type_number at entries size = pack_tree (machine_of layout)
    (tree_of layout type_number) at entries size

-- the value of an element of a field
abbrev pub IsElementOf : Layout → Field → Datum → Type 0
IsElementOf layout field datum = IsOfPart (part_in layout field) field.size datum

-- the value of a field, in some record
abbrev pub IsValueOfField : Layout → Field → Datum → Type 0
IsValueOfField layout field datum = (all : Entries)
    × IsShaped all field.shape (IsElementOf layout field) datum

-- the elements of a field of this type are well laid
pub record IsLaidElement (layout : Layout) (type_number : ℕ) (field : Field) : Type 0 where
  pub sized : HasBaseSize layout.pointer (take type_number layout.types) field.base field.size
  pub laid : IsLaidPart layout.pointer field.size (part_in layout field)

-- the pieces' blocks end below 2^32
abbrev pub AreSmall : Pieces → Type 0
AreSmall pieces = pieces.size < 2 ^ 32
