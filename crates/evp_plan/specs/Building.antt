-- The steps that are made for two types: one for each field of the receiver's.
use Rattle.std.specs.Prelude.{◌≡◌, ℕ, zero, suc, ◌+◌, ◌*◌, ◌<◌, List, [], ◌∷◌, length}
use Rattle.std.specs.Prelude.{if◌then◌else◌, slice_get, Option, Some, None, ⊤}
use Rattle.evp_format.specs.Bytes.{bytes_equal}
use Rattle.evp_format.specs.declared.field.Base.{Base}
use Rattle.evp_format.specs.declared.field.Base.TheVariants.{Number, Text, Nested}
use Rattle.evp_format.specs.declared.field.Field.{Field}
use Rattle.evp_format.specs.Layout.{Layout}
use Rattle.evp_format.specs.Tree.{Tree, tree, Branches, no_fields, tree_of, trees, branches_of}
use Rattle.evp_plan.specs.declared.step.Step.{Step}
use Rattle.evp_plan.specs.Matching.{Content, content_of_base, known_fields, task_for}
use Rattle.evp_plan.specs.Matching.{compiled_tree}
use Rattle.evp_plan.specs.Program.{program_at, IsOrdered}

-- a field, with what it is
abbrev pub known_field : Option Field → Option (Field × Content)
known_field None = None
known_field (Some field) = Some (field, content_of_base field.base)

-- the row of a sender's base: 0 where it is no record, else one more than the number of its type
abbrev pub row_of_base : Base → ℕ
row_of_base (Number kind) = 0
row_of_base Text = 0
row_of_base (Nested n) = suc n

abbrev pub row_of : Option Field → ℕ
row_of None = 0
row_of (Some field) = row_of_base field.base

-- the number of the steps that make a record of type n from one of that row, where there are so
-- many rows
abbrev pub inner_of : ℕ → Base → ℕ → Option ℕ
inner_of rows (Number kind) row = None
inner_of rows Text row = None
inner_of rows (Nested n) row = Some (n * rows + row)

-- the field of this name
abbrev pub field_named : List ℕ → List Field → Option Field
field_named name [] = None
field_named name (field ∷ fields) = if bytes_equal name field.name then Some field
    else field_named name fields

-- the step for field k of a type with the fields `all`, from a sender's record with the fields
-- `from`
abbrev pub step_for : ℕ → List Field → List Field → ℕ → Field → Step
step_for rows from all k field =
    record {
      task = task_for (known_fields from) (known_fields all) k field (content_of_base field.base);
      inner = inner_of rows field.base (row_of (field_named field.name from));
    }

-- the steps for these fields, from number k on
abbrev pub steps_for : ℕ → List Field → List Field → ℕ → List Field → List Step
steps_for rows from all k [] = []
steps_for rows from all k (field ∷ fields) = step_for rows from all k field
    ∷ steps_for rows from all (suc k) fields

abbrev pub branches_in : Tree → Branches
branches_in (tree length branches) = branches

-- the fields of a sender's row
abbrev pub row_branches : Layout → ℕ → Branches
row_branches from zero = no_fields
row_branches from (suc n) = branches_in (tree_of from n)

-- a nested type of this base stands before type n
abbrev pub NestsBelow : ℕ → Base → Type 0
NestsBelow n (Number kind) = ⊤
NestsBelow n Text = ⊤
NestsBelow n (Nested m) = m < n

abbrev pub EachNestsBelow : ℕ → List Field → Type 0
EachNestsBelow n fields = (i : ℕ) (field : Field) → slice_get fields i ≡ Some field
    → NestsBelow n field.base

-- what is known of a row of the sender's: its fields, of which each is of an earlier type or no
-- record
pub record IsRow (from : Layout) (row : ℕ) (sender : List Field) : Type 0 where
  pub low : row < suc (length from.types)
  pub fields : row_branches from row ≡ branches_of (trees from.types) sender
  pub each : (i : ℕ) (field : Field) → slice_get sender i ≡ Some field
      → row_of_base field.base < suc (length from.types)

-- what is known of a type of the receiver's
pub record IsTypeOf (to : Layout) (n : ℕ) (all : List Field) : Type 0 where
  pub long : ℕ
  pub tree_is : tree_of to n ≡ tree long (branches_of (trees to.types) all)
  pub nests : EachNestsBelow n all

-- steps for each type of the receiver, from each row of the sender's, the last of them for the last
-- of both
pub record IsTable (from to : Layout) (table : List (List Step)) : Type 0 where
  pub ordered : IsOrdered table
  pub each : (row n : ℕ) → row < suc (length from.types)
      → n * suc (length from.types) + row < length table
      → program_at table (n * suc (length from.types) + row)
      ≡ compiled_tree (row_branches from row) (tree_of to n)
