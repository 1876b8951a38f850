-- What an offset has to be a multiple of, as C compilers have it: a number's size, but never more
-- than a machine's greatest alignment; for a string or a counted array the pointer's size in its
-- place; for a record its greatest field's; for an array inside the record its element's.
use Rattle.std.specs.Prelude.{ℕ, List, min, max}
use Rattle.evp_format.specs.declared.field.Field.{Field}
use Rattle.evp_format.specs.declared.field.Shape.{Shape}
use Rattle.evp_format.specs.declared.field.Shape.TheVariants.{One, Fixed, Counted}
use Rattle.evp_format.specs.Tree.{Tree, tree, Branches, no_fields, branch, Part, number_part}
use Rattle.evp_format.specs.Tree.{text_part, tree_part, part_of, branches_of}
use Rattle.evp_profile.specs.declared.profile.Profile.{Profile}
use Rattle.evp_profile.specs.Profile.{pointer_size, greatest_alignment}

abbrev pub pointer_alignment : Profile → ℕ
pointer_alignment profile = min (pointer_size profile) (greatest_alignment profile)

-- an array's alignment is its element's, but a counted one is a pointer
abbrev pub shape_alignment : Profile → Shape → ℕ → ℕ
shape_alignment profile One element = element
shape_alignment profile (Fixed n) element = element
shape_alignment profile (Counted c) element = pointer_alignment profile

abbrev mutual
  -- a record type's
  pub alignment : Profile → Tree → ℕ
  alignment profile (tree length branches) = branches_alignment profile branches

  -- the greatest of the fields'
  pub branches_alignment : Profile → Branches → ℕ
  branches_alignment profile no_fields = 1
  branches_alignment profile (branch field part rest) =
      max
      (shape_alignment profile field.shape (part_alignment profile field.size part))
      (branches_alignment profile rest)

  -- a single field's of this size, or an array element's
  pub part_alignment : Profile → ℕ → Part → ℕ
  part_alignment profile size (number_part kind) = min size (greatest_alignment profile)
  part_alignment profile size text_part = pointer_alignment profile
  part_alignment profile size (tree_part nested) = alignment profile nested

-- a field's, where the trees of the earlier types are these
abbrev pub field_alignment : Profile → List Tree → Field → ℕ
field_alignment profile earlier field =
    shape_alignment profile field.shape
    (part_alignment profile field.size (part_of earlier field.base))

-- the greatest of these fields'
abbrev pub fields_alignment : Profile → List Tree → List Field → ℕ
fields_alignment profile earlier fields = branches_alignment profile (branches_of earlier fields)
