-- Two formats clash where a receiver field's partner of that name has another class: number, text,
-- record, or array of one of these.
use Rattle.std.specs.Prelude.{ℕ, if◌then◌else◌, List, [], ◌∷◌, Option, Some, None, option_map}
use Rattle.evp_base.specs.declared.step.Step.{Step}
use Rattle.evp_base.specs.declared.step.Step.TheVariants as step
use Rattle.evp_format.specs.declared.field.Field.{Field}
use Rattle.evp_format.specs.Bytes.{bytes_equal}
use Rattle.evp_format.specs.Class.{class_in, same_class}
use Rattle.evp_format.specs.Layout.{Layout}
use Rattle.evp_format.specs.Tree.{Tree, tree, Branches, no_fields, branch, Part, number_part}
use Rattle.evp_format.specs.Tree.{text_part, tree_part, root_of}

-- the field of this name
abbrev pub branch_named : List ℕ → Branches → Option (Field × Part)
branch_named name no_fields = None
branch_named name (branch field part rest) =
    if bytes_equal name field.name then Some (field, part) else branch_named name rest

-- the first of the two that is there
abbrev pub first_of_two : {A : Type 0} → Option A → Option A → Option A
first_of_two (Some a) other = Some a
first_of_two None other = other

-- a receiver field and the sender's field of its name, where there is one; `inside` looks into two
-- parts of one class
abbrev pub clash_partners : Option (Field × Part) → Field → Part → (Part → Option (List Step))
    → Option (List Step)
clash_partners None field part inside = None
clash_partners (Some (sender, sender_part)) field part inside =
    if same_class (class_in sender sender_part) (class_in field part) then inside sender_part
    else Some []

abbrev mutual
  -- the first clash of two record types, as a path of names
  pub clash_trees : Tree → Tree → Option (List Step)
  clash_trees (tree length from) (tree length' to) = clash_branches from to

  -- the receiver's fields as listed, into nested matched types at once
  pub clash_branches : Branches → Branches → Option (List Step)
  clash_branches from no_fields = None
  clash_branches from (branch field part rest) =
      first_of_two
      (option_map (λ path. step.Field field.name ∷ path)
      (clash_partners (branch_named field.name from) field part
      (λ sender_part. clash_parts sender_part part)))
      (clash_branches from rest)

  -- two records clash inside; numbers and texts don't
  pub clash_parts : Part → Part → Option (List Step)
  clash_parts (number_part kind) part = None
  clash_parts text_part part = None
  clash_parts (tree_part from) (number_part kind) = None
  clash_parts (tree_part from) text_part = None
  clash_parts (tree_part from) (tree_part to) = clash_trees from to

-- a receiver field and the sender's field of its name, where there is one
abbrev pub clash_field : Tree → Field → Part → Option (List Step)
clash_field (tree length from) field part =
    option_map (λ path. step.Field field.name ∷ path)
    (clash_partners (branch_named field.name from) field part
    (λ sender_part. clash_parts sender_part part))

-- the first clash of two formats, where there is one
abbrev pub clash : Layout → Layout → Option (List Step)
clash from to = clash_trees (root_of from) (root_of to)
