-- A format with its nested types resolved: each record type is a tree, whose fields are numbers,
-- texts, records or arrays of these.
-- A nested type is always an earlier one, so the trees are made from the first type to the last.
use Rattle.std.specs.Prelude.{ℕ, zero, suc, ◌-◌, List, [], ◌∷◌, ◌++◌, length, get_or, Option, Some}
use Rattle.std.specs.Prelude.{None}
use Rattle.evp_base.specs.declared.kind.Kind.{Kind}
use Rattle.evp_format.specs.declared.field.Field.{Field}
use Rattle.evp_format.specs.declared.field.Base.{Base}
use Rattle.evp_format.specs.declared.field.Base.TheVariants.{Number, Text, Nested}
use Rattle.evp_format.specs.declared.record_type.RecordType.{RecordType}
use Rattle.evp_format.specs.Layout.{Layout}

mutual
  -- a record type: the bytes of its fixed part, and its fields as listed
  pub data Tree : Type 0 where
    tree : ℕ → Branches → Tree

  -- the fields, each with what it or each of its elements is
  pub data Branches : Type 0 where
    no_fields : Branches
    branch : Field → Part → Branches → Branches

  -- what a field, or an element of an array, is
  pub data Part : Type 0 where
    number_part : Kind → Part
    text_part : Part
    tree_part : Tree → Part

-- a record type without fields
abbrev pub empty_tree : Tree
empty_tree = tree 0 no_fields

-- what a base is, where the trees of the earlier types are these
abbrev pub part_of : List Tree → Base → Part
part_of earlier (Number kind) = number_part kind
part_of earlier Text = text_part
part_of earlier (Nested type_number) = tree_part (get_or earlier type_number empty_tree)

abbrev pub branches_of : List Tree → List Field → Branches
branches_of earlier [] = no_fields
branches_of earlier (field ∷ fields) =
    branch field (part_of earlier field.base) (branches_of earlier fields)

-- the tree of a type, where the trees of the earlier types are these
abbrev pub resolved : List Tree → RecordType → Tree
resolved earlier type = tree type.length (branches_of earlier type.fields)

-- the trees of the earlier types, followed by those of these
abbrev pub trees_behind : List Tree → List RecordType → List Tree
trees_behind earlier [] = earlier
trees_behind earlier (type ∷ types) = trees_behind (earlier ++ resolved earlier type ∷ []) types

-- the tree of each type, in order
abbrev pub trees : List RecordType → List Tree
trees types = trees_behind [] types

-- the tree of the type of this number
abbrev pub tree_of : Layout → ℕ → Tree
tree_of layout type_number = get_or (trees layout.types) type_number empty_tree

-- the tree of the last type, which is the record
abbrev pub root_of : Layout → Tree
root_of layout = tree_of layout (length layout.types - 1)

-- what a field, or each of its elements, is
abbrev pub part_in : Layout → Field → Part
part_in layout field = part_of (trees layout.types) field.base

-- the bytes of a record's fixed part
abbrev pub length_of : Tree → ℕ
length_of (tree length _) = length

abbrev pub fields_of : Branches → List Field
fields_of no_fields = []
fields_of (branch field part rest) = field ∷ fields_of rest

-- the field of this number, and what it or each of its elements is
abbrev pub branch_at : Branches → ℕ → Option (Field × Part)
branch_at no_fields k = None
branch_at (branch field part rest) zero = Some (field, part)
branch_at (branch field part rest) (suc k) = branch_at rest k
