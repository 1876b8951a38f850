-- A well laid record type as a tree: what holds of its fields, and of the records inside it.
use Rattle.std.specs.Prelude.{◌≡◌, ℕ, IsTrue, List, ⊤}
use Rattle.evp_base.specs.Numbers.{is_size_of}
use Rattle.evp_format.specs.declared.field.Base.{Base}
use Rattle.evp_format.specs.declared.field.Base.TheVariants.{Number, Text, Nested}
use Rattle.evp_format.specs.declared.record_type.RecordType.{RecordType}
use Rattle.evp_format.specs.Tree.{Tree, tree, Branches, no_fields, branch, Part, number_part}
use Rattle.evp_format.specs.Tree.{text_part, tree_part, fields_of, length_of}
use Rattle.evp_format.specs.WellLaid.{IsLaidType}

-- the part is what the base says
abbrev pub Matches : Base → Part → Type 0
Matches (Number kind) (number_part kind') = kind ≡ kind'
Matches (Number kind) text_part = ⊥
Matches (Number kind) (tree_part nested) = ⊥
Matches Text (number_part kind) = ⊥
Matches Text text_part = ⊤
Matches Text (tree_part nested) = ⊥
Matches (Nested type_number) (number_part kind) = ⊥
Matches (Nested type_number) text_part = ⊥
Matches (Nested type_number) (tree_part nested) = ⊤

-- a well laid type of this length and with these fields, behind some earlier types
pub record IsLaidRecord (pointer length : ℕ) (branches : Branches) : Type 0 where
  pub earlier : List RecordType
  pub type : RecordType
  pub laid : IsLaidType pointer earlier type
  pub has_length : type.length ≡ length
  pub has_fields : type.fields ≡ fields_of branches

abbrev mutual
  pub IsLaidTree : ℕ → Tree → Type 0
  IsLaidTree pointer (tree length branches) = IsLaidRecord pointer length branches
      × AreLaidBranches pointer branches

  -- each field's part is what its base says, of the field's size
  pub AreLaidBranches : ℕ → Branches → Type 0
  AreLaidBranches pointer no_fields = ⊤
  AreLaidBranches pointer (branch field part rest) = Matches field.base part
      × IsLaidPart pointer field.size part × AreLaidBranches pointer rest

  -- a part of this size
  pub IsLaidPart : ℕ → ℕ → Part → Type 0
  IsLaidPart pointer size (number_part kind) = IsTrue (is_size_of kind size)
  IsLaidPart pointer size text_part = size ≡ pointer
  IsLaidPart pointer size (tree_part nested) = (size ≡ length_of nested) × IsLaidTree pointer nested
