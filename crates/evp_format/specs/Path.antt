-- The names of a place: the path of the fields and elements that it leads through.
use Rattle.std.specs.Prelude.{ℕ, List, [], ◌∷◌, Option, Some, None, option_and_then, slice_get}
use Rattle.evp_base.specs.declared.step.Step.{Step}
use Rattle.evp_base.specs.declared.step.Step.TheVariants as step
use Rattle.evp_format.specs.declared.field.Base.{Base}
use Rattle.evp_format.specs.declared.field.Base.TheVariants.{Number, Text, Nested}
use Rattle.evp_format.specs.declared.field.Field.{Field}
use Rattle.evp_format.specs.declared.place.PlaceStep.{PlaceStep}
use Rattle.evp_format.specs.declared.place.PlaceStep.TheVariants.{At, Nth}
use Rattle.evp_format.specs.declared.record_type.RecordType.{RecordType}
use Rattle.evp_format.specs.Layout.{Layout}
use Rattle.evp_format.specs.Tree.{tree, Part, number_part, text_part, tree_part, branch_at, root_of}

-- the field of this number of a record
abbrev pub field_in : Part → ℕ → Option (Field × Part)
field_in (number_part kind) k = None
field_in text_part k = None
field_in (tree_part (tree length branches)) k = branch_at branches k

-- into a field that is there, and on from what it is
abbrev pub entered : Option (Field × Part) → (Part → List Step) → List Step
entered None next = []
entered (Some (field, part)) next = step.Field field.name ∷ next part

-- the path from a part on; a place that doesn't lead through it ends where it leaves it
abbrev pub path_in : Part → List PlaceStep → List Step
path_in part [] = []
path_in part (Nth index ∷ place) = step.Index index ∷ path_in part place
path_in part (At k ∷ place) = entered (field_in part k) (λ inside. path_in inside place)

-- the field of this number of the type of this number
abbrev pub field_reached : List RecordType → Option ℕ → ℕ → Option Field
field_reached types None k = None
field_reached types (Some type_number) k =
    option_and_then (λ (type : RecordType). slice_get type.fields k) (slice_get types type_number)

-- the type of the record that a base names
abbrev pub nested_of : Base → Option ℕ
nested_of (Number kind) = None
nested_of Text = None
nested_of (Nested type_number) = Some type_number

-- the path of a place in a format's record
abbrev pub path_of : Layout → List PlaceStep → List Step
path_of layout place = path_in (tree_part (root_of layout)) place
