-- Which steps make a receiver's record from a sender's: fields are matched by name.
use Rattle.std.specs.Prelude.{ℕ, suc, ℤ, pos, true, false, List, [], ◌∷◌, Option, Some, None}
use Rattle.std.specs.Prelude.{slice_get, if◌then◌else◌}
use Rattle.evp_base.specs.declared.kind.Kind.{Kind}
use Rattle.evp_format.specs.declared.field.Base.{Base}
use Rattle.evp_format.specs.declared.field.Base.TheVariants as base
use Rattle.evp_format.specs.declared.field.Field.{Field}
use Rattle.evp_format.specs.declared.field.Shape.{Shape}
use Rattle.evp_format.specs.declared.field.Shape.TheVariants.{One, Fixed, Counted}
use Rattle.evp_format.specs.Bytes.{bytes_equal}
use Rattle.evp_format.specs.Clashing.{branch_named}
use Rattle.evp_format.specs.Tree.{Tree, tree, Branches, no_fields, branch, number_part, text_part}
use Rattle.evp_format.specs.Tree.{tree_part}
use Rattle.evp_format.specs.Tree.{Part as TreePart}
use Rattle.evp_plan.specs.declared.step.Elements.{Elements}
use Rattle.evp_plan.specs.declared.step.Op.{Op}
use Rattle.evp_plan.specs.declared.step.Op.TheVariants.{Number, Text, Nest, Each, Many}
use Rattle.evp_plan.specs.declared.step.Origin.{Origin}
use Rattle.evp_plan.specs.declared.step.Origin.TheVariants.{Standing, Stated}
use Rattle.evp_plan.specs.declared.step.Part.{Part}
use Rattle.evp_plan.specs.declared.step.Part.TheVariants as part
use Rattle.evp_plan.specs.declared.step.Run.{Run}
use Rattle.evp_plan.specs.declared.step.Task.{Task}
use Rattle.evp_plan.specs.Program.{Program, no_steps, performs}

-- what a field, or each of its elements, is
pub data Content : Type 0 where
  numbers : Kind → Content
  texts : Content
  records : Content

abbrev pub content_of : TreePart → Content
content_of (number_part kind) = numbers kind
content_of text_part = texts
content_of (tree_part nested) = records

abbrev pub content_of_base : Base → Content
content_of_base (base.Number kind) = numbers kind
content_of_base base.Text = texts
content_of_base (base.Nested n) = records

-- the fields of a type, each with what it is
abbrev pub known_branches : Branches → List (Field × Content)
known_branches no_fields = []
known_branches (branch field part rest) = (field, content_of part) ∷ known_branches rest

abbrev pub known_fields : List Field → List (Field × Content)
known_fields [] = []
known_fields (field ∷ fields) = (field, content_of_base field.base) ∷ known_fields fields

-- the field of this name
abbrev pub known_named : List ℕ → List (Field × Content) → Option (Field × Content)
known_named name [] = None
known_named name (known ∷ rest) = if bytes_equal name known.0.name then Some known
    else known_named name rest

-- a number from a sender's field, or the stated one
abbrev pub number_origin : Option (Field × Content) → ℤ → Origin
number_origin None fallback = Stated fallback
number_origin (Some (field, numbers kind)) fallback = Standing
    (record { offset = field.offset; size = field.size; kind = kind })
number_origin (Some (field, texts)) fallback = Stated fallback
number_origin (Some (field, records)) fallback = Stated fallback

-- the number that a receiver's single number field gets from the sender
abbrev pub single_origin : List (Field × Content) → Field → Shape → Content → Origin
single_origin from field One (numbers kind) = number_origin (known_named field.name from)
    field.fallback
single_origin from field One texts = Stated (pos 0)
single_origin from field One records = Stated (pos 0)
single_origin from field (Fixed n) content = Stated (pos 0)
single_origin from field (Counted c) content = Stated (pos 0)

-- how many elements a receiver's counted array gets: the number of its count
abbrev pub wanted_origin : List (Field × Content) → Option (Field × Content) → Origin
wanted_origin from None = Stated (pos 0)
wanted_origin from (Some (field, content)) = single_origin from field field.shape content

-- the sender's array, where its fields are these
abbrev pub run_by : List (Field × Content) → Field → Shape → Option Run
run_by from field One = None
run_by from field (Fixed n) = Some
    (record { count = Stated (pos n); pointed = false; offset = field.offset; stride = field.size })
run_by from field (Counted c) = Some
    (record {
      count = number_origin (slice_get from c) (pos 0);
      pointed = true;
      offset = field.offset;
      stride = field.size;
    })

abbrev pub run_for : List (Field × Content) → Option (Field × Content) → Option Run
run_for from None = None
run_for from (Some (field, content)) = run_by from field field.shape

-- what an element of the receiver is made from
abbrev pub part_for : ℕ → Content → Option (Field × Content) → Part
part_for size (numbers kind) None = part.Number kind kind size
part_for size (numbers kind) (Some (field, numbers other)) = part.Number kind other field.size
part_for size (numbers kind) (Some (field, texts)) = part.Number kind kind size
part_for size (numbers kind) (Some (field, records)) = part.Number kind kind size
part_for size texts partner = part.Text
part_for size records partner = part.Record

abbrev pub elements_for : List (Field × Content) → ℕ → Content → Option (Field × Content) → Elements
elements_for from size content partner = record
    { part = part_for size content partner; run = run_for from partner }

-- where the partner begins
abbrev pub offset_of : Option (Field × Content) → Option ℕ
offset_of None = None
offset_of (Some (field, content)) = Some field.offset

abbrev pub or_zero : Option ℕ → ℕ
or_zero None = 0
or_zero (Some n) = n

-- what a field that is no array is made from, by its partner
abbrev pub single_for : Field → Content → Option (Field × Content) → Op
single_for field (numbers kind) partner = Number kind (number_origin partner field.fallback)
single_for field texts partner = Text (offset_of partner)
single_for field records partner = Nest (or_zero (offset_of partner))

-- what a field is made from, by its partner
abbrev pub op_for : List (Field × Content) → List (Field × Content) → Field → Shape → Content
    → Option (Field × Content) → Op
op_for from all field One content partner = single_for field content partner
op_for from all field (Fixed n) content partner = Each n
    (elements_for from field.size content partner)
op_for from all field (Counted c) content partner = Many (wanted_origin from (slice_get all c))
    (elements_for from field.size content partner)

-- the task for field k of a receiver's record, whose fields are `all`, from a sender's record with
-- the fields `from`
abbrev pub task_for : List (Field × Content) → List (Field × Content) → ℕ → Field → Content → Task
task_for from all k field content =
    record {
      field = k;
      offset = field.offset;
      size = field.size;
      op = op_for from all field field.shape content (known_named field.name from);
    }

-- the fields of the partner's record; none where there is none
abbrev pub inside_partner : Option (Field × TreePart) → Branches
inside_partner None = no_fields
inside_partner (Some (field, number_part kind)) = no_fields
inside_partner (Some (field, text_part)) = no_fields
inside_partner (Some (field, tree_part (tree length branches))) = branches

abbrev mutual
  -- what makes a record of the receiver's type from one with the sender's fields
  pub compiled_tree : Branches → Tree → Program
  compiled_tree from (tree length branches) = compiled from branches branches 0

  -- the same of the fields from number k on
  pub compiled : Branches → Branches → Branches → ℕ → Program
  compiled from all no_fields k = no_steps
  compiled from all (branch field part rest) k =
      performs (task_for (known_branches from) (known_branches all) k field (content_of part))
      (compiled_part (inside_partner (branch_named field.name from)) part)
      (compiled from all rest (suc k))

  -- what makes a record inside a field, from a partner with these fields
  pub compiled_part : Branches → TreePart → Program
  compiled_part from (number_part kind) = no_steps
  compiled_part from text_part = no_steps
  compiled_part from (tree_part nested) = compiled_tree from nested
