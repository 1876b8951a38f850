-- The value of a receiver's part that has no partner: its defaults.
use Rattle.std.specs.Prelude.{ℕ, ℤ, pos, negsuc, Option, Some, None}
use Rattle.evp_format.specs.declared.field.Field.{Field}
use Rattle.evp_format.specs.declared.field.Shape.{Shape}
use Rattle.evp_format.specs.declared.field.Shape.TheVariants.{One, Fixed, Counted}
use Rattle.evp_format.specs.Datum.{Datum, num, null, list, rec, copies, Entries, empty_record}
use Rattle.evp_format.specs.Datum.{entry}
use Rattle.evp_format.specs.Layout.{Layout}
use Rattle.evp_format.specs.Tree.{Tree, tree, Branches, no_fields, branch, Part, number_part}
use Rattle.evp_format.specs.Tree.{text_part, tree_part, branch_at, root_of}

-- a count as a number of elements
abbrev pub as_count : ℤ → ℕ
as_count (pos n) = n
as_count (negsuc n) = 0

-- the stated default of a field
abbrev pub default_of : Option (Field × Part) → ℤ
default_of None = pos 0
default_of (Some (field, part)) = field.fallback

-- a single field: a number has its stated default
abbrev pub zero_single : Field → Part → Datum → Datum
zero_single field (number_part kind) zero_element = num field.fallback
zero_single field text_part zero_element = zero_element
zero_single field (tree_part nested) zero_element = zero_element

-- a field, by the zero of one element; a counted array has as many as its count's default says
abbrev pub zero_shaped : Branches → Field → Shape → Part → Datum → Datum
zero_shaped all field One part zero_element = zero_single field part zero_element
zero_shaped all field (Fixed n) part zero_element = list (copies n zero_element)
zero_shaped all field (Counted c) part zero_element =
    list (copies (as_count (default_of (branch_at all c))) zero_element)

abbrev mutual
  -- a record: each single number field has its default, each other field its zero
  pub zero_tree : Tree → Datum
  zero_tree (tree length branches) = rec (zero_branches branches branches)

  -- the fields of a record whose fields are `all`
  pub zero_branches : Branches → Branches → Entries
  zero_branches all no_fields = empty_record
  zero_branches all (branch field part rest) =
      entry field.name (zero_shaped all field field.shape part (zero_part part))
      (zero_branches all rest)

  -- an element: 0, null, or a record of defaults
  pub zero_part : Part → Datum
  zero_part (number_part kind) = num (pos 0)
  zero_part text_part = null
  zero_part (tree_part nested) = zero_tree nested

-- the zero of a format's record
abbrev pub zero_of : Layout → Datum
zero_of layout = zero_tree (root_of layout)
