-- The field that a place reaches, by the list of types and by the trees.
use Rattle.std.proofs.Common.{◌≡◌, ℕ, zero, suc, List, [], ◌∷◌, ◌++◌, length, get_or, take, drop, drop-cons, add-one, append-nil, ◌+◌}
use Rattle.std.proofs.Common.{Option, Some, None, IfSome, option_map, ◌<◌, refl, sym, ap, ◌∙◌, append_assoc}
use Rattle.std.specs.Prelude.{slice_get, option_and_then}
use Rattle.evp_base.specs.declared.kind.Kind.{Kind}
use Rattle.evp_base.specs.declared.step.Step.{Step}
use Rattle.evp_base.specs.declared.step.Step.TheVariants as step
use Rattle.evp_format.specs.declared.field.Base.{Base}
use Rattle.evp_format.specs.declared.field.Base.TheVariants.{Number, Text, Nested}
use Rattle.evp_format.specs.declared.field.Field.{Field}
use Rattle.evp_format.specs.declared.place.PlaceStep.{PlaceStep}
use Rattle.evp_format.specs.declared.place.PlaceStep.TheVariants.{At, Nth}
use Rattle.evp_format.specs.declared.record_type.RecordType.{RecordType}
use Rattle.evp_format.specs.Layout.{Layout}
use Rattle.evp_format.specs.Path.{field_in, path_in, entered, field_reached, nested_of}
use Rattle.evp_format.specs.Tree.{Tree, Part, number_part, text_part, tree_part, part_of, branches_of, branch_at, trees, tree_of}
use Rattle.evp_format.specs.WellLaid.{IsWellLaid, HasBaseSize}
use Rattle.evp_format.proofs.Trees.{tree_of-resolved, found_below, slice_get-below, slice_get-take}

-- the part reached: the record of a type, or something without fields
abbrev pub part_reached : Layout → Option ℕ → Part
part_reached layout None = text_part
part_reached layout (Some type_number) = tree_part (tree_of layout type_number)

-- a field by its number, with its part
pub branch_at-branches_of : (earlier : List Tree) (fields : List Field) (k : ℕ)
    → branch_at (branches_of earlier fields) k ≡ option_map (λ (field : Field). (field, part_of earlier field.base)) (slice_get fields k)
branch_at-branches_of earlier [] k = refl
branch_at-branches_of earlier (field ∷ fields) zero = refl
branch_at-branches_of earlier (field ∷ fields) (suc k) = branch_at-branches_of earlier fields k

-- what has no fields ends each path alike
path_in-number : (kind : Kind) (place : List PlaceStep) → path_in (number_part kind) place ≡ path_in text_part place
path_in-number kind [] = refl
path_in-number kind (Nth index ∷ place) = ap (λ (rest : List Step). step.Index index ∷ rest) (path_in-number kind place)
path_in-number kind (At k ∷ place) = refl

pub path_in-part_of : (layout : Layout) (base : Base) (place : List PlaceStep)
    → path_in (part_of (trees layout.types) base) place ≡ path_in (part_reached layout (nested_of base)) place
path_in-part_of layout (Number kind) place = path_in-number kind place
path_in-part_of layout Text place = refl
path_in-part_of layout (Nested type_number) place = refl

-- a step into a field that is there, or isn't
step_in : (part : Part) (k : ℕ) (found : Field × Part) (place : List PlaceStep) → field_in part k ≡ Some found
    → path_in part (At k ∷ place) ≡ step.Field found.0.name ∷ path_in found.1 place
step_in part k found place is = ap (λ (o : Option (Field × Part)). entered o (λ inside. path_in inside place)) is

step_out : (part : Part) (k : ℕ) (place : List PlaceStep) → field_in part k ≡ None → path_in part (At k ∷ place) ≡ []
step_out part k place is = ap (λ (o : Option (Field × Part)). entered o (λ inside. path_in inside place)) is

-- the fields of a type of a well laid format
field_in-tree_of : (layout : Layout) (n k : ℕ) (type : RecordType) → IsWellLaid layout → slice_get layout.types n ≡ Some type
    → field_in (tree_part (tree_of layout n)) k ≡ option_map (λ (field : Field). (field, part_of (trees layout.types) field.base))
    (slice_get type.fields k)
field_in-tree_of layout n k type laid found =
    ap (λ (t : Tree). field_in (tree_part t) k) (tree_of-resolved layout n type laid found)
    ∙ branch_at-branches_of (trees layout.types) type.fields k

-- a field that is reached leads on to what it is
pub path_in-field : (layout : Layout) (reached : Option ℕ) (k : ℕ) (field : Field) (place : List PlaceStep) → IsWellLaid layout
    → field_reached layout.types reached k ≡ Some field
    → path_in (part_reached layout reached) (At k ∷ place) ≡ step.Field field.name
    ∷ path_in (part_reached layout (nested_of field.base)) place
path_in-field layout None k field place laid found = cc
path_in-field layout (Some n) k field place laid found = at_type (slice_get layout.types n) refl found
  where
    at_type : (o : Option RecordType) → slice_get layout.types n ≡ o
        → option_and_then (λ (type : RecordType). slice_get type.fields k) o ≡ Some field
        → path_in (tree_part (tree_of layout n)) (At k ∷ place) ≡ step.Field field.name
        ∷ path_in (part_reached layout (nested_of field.base)) place
    at_type None is there = cc
    at_type (Some type) is there =
        let inside : field_in (tree_part (tree_of layout n)) k ≡ Some (field, part_of (trees layout.types) field.base) =
        field_in-tree_of layout n k type laid is ∙ ap (option_map (λ (f : Field). (f, part_of (trees layout.types) f.base))) there in
        step_in (tree_part (tree_of layout n)) k (field, part_of (trees layout.types) field.base) place inside
        ∙ ap (λ (rest : List Step). step.Field field.name ∷ rest) (path_in-part_of layout field.base place)

-- a field that isn't there ends the path
pub path_in-none : (layout : Layout) (reached : Option ℕ) (k : ℕ) (place : List PlaceStep) → IsWellLaid layout
    → IfSome reached (λ n. n < length layout.types)
    → field_reached layout.types reached k ≡ None → path_in (part_reached layout reached) (At k ∷ place) ≡ []
path_in-none layout None k place laid below missing = refl
path_in-none layout (Some n) k place laid below missing =
    let type = found_below layout.types n below in
    let inside : slice_get type.0.fields k ≡ None = sym (ap (option_and_then (λ (t : RecordType). slice_get t.fields k)) type.1)
    ∙ missing in
    step_out (tree_part (tree_of layout n)) k place
    (field_in-tree_of layout n k type.0 laid type.1 ∙ ap (option_map (λ (f : Field). (f, part_of (trees layout.types) f.base))) inside)

-- the steps from step i on
steps_from : (steps : List PlaceStep) (i : ℕ) (first d : PlaceStep) → i < length steps → get_or steps i d ≡ first
    → drop i steps ≡ first ∷ drop (i + 1) steps
steps_from steps i first d below is =
    let split = drop-cons steps i d below in
    split ∙ ap (λ (s : PlaceStep). s ∷ drop (suc i) steps) is ∙ ap (λ (j : ℕ). first ∷ drop j steps) (sym (add-one i))

-- an index is written, and the walk goes on from the same part
pub walk_index : (whole path : List Step) (part : Part) (steps : List PlaceStep) (i index : ℕ) (d : PlaceStep) → i < length steps
    → get_or steps i d ≡ Nth index
    → whole ≡ path ++ path_in part (drop i steps) → whole ≡ (path ++ step.Index index ∷ []) ++ path_in part (drop (i + 1) steps)
walk_index whole path part steps i index d below is so_far =
    let split = steps_from steps i (Nth index) d below is in
    so_far ∙ ap (λ (rest : List PlaceStep). path ++ path_in part rest) split
    ∙ sym (append_assoc path (step.Index index ∷ []) (path_in part (drop (i + 1) steps)))

-- a field's name is written, and the walk goes on from what it is
pub walk_field : (layout : Layout) (whole path : List Step) (reached : Option ℕ) (steps : List PlaceStep) (i k : ℕ) (field : Field)
    (d : PlaceStep) → IsWellLaid layout
    → i < length steps → get_or steps i d ≡ At k → field_reached layout.types reached k ≡ Some field
    → whole ≡ path ++ path_in (part_reached layout reached) (drop i steps)
    → whole ≡ (path ++ step.Field field.name ∷ []) ++ path_in (part_reached layout (nested_of field.base)) (drop (i + 1) steps)
walk_field layout whole path reached steps i k field d laid below is found so_far =
    let split = steps_from steps i (At k) d below is in
    let rest = drop (i + 1) steps in
    so_far ∙ ap (λ (more : List PlaceStep). path ++ path_in (part_reached layout reached) more) split
    ∙ ap (λ (more : List Step). path ++ more) (path_in-field layout reached k field rest laid found)
    ∙ sym (append_assoc path (step.Field field.name ∷ []) (path_in (part_reached layout (nested_of field.base)) rest))

-- a field that isn't there ends the walk
pub walk_ends : (layout : Layout) (whole path : List Step) (reached : Option ℕ) (steps : List PlaceStep) (i k : ℕ) (d : PlaceStep)
    → IsWellLaid layout
    → i < length steps → get_or steps i d ≡ At k → IfSome reached (λ n. n < length layout.types)
    → field_reached layout.types reached k ≡ None
    → whole ≡ path ++ path_in (part_reached layout reached) (drop i steps) → path ≡ whole
walk_ends layout whole path reached steps i k d laid below is in_range missing so_far =
    let split = steps_from steps i (At k) d below is in
    sym (so_far ∙ ap (λ (more : List PlaceStep). path ++ path_in (part_reached layout reached) more) split
    ∙ ap (λ (more : List Step). path ++ more) (path_in-none layout reached k (drop (i + 1) steps) laid in_range missing) ∙ append-nil path)

-- a nested record's type is one of the format's
pub nested_of-below : (layout : Layout) (reached : Option ℕ) (k : ℕ) (field : Field) → IsWellLaid layout
    → field_reached layout.types reached k ≡ Some field
    → IfSome (nested_of field.base) (λ n. n < length layout.types)
nested_of-below layout None k field laid found = cc
nested_of-below layout (Some n) k field laid found = at_type (slice_get layout.types n) refl found
  where
    below_of : (pointer : ℕ) (types earlier : List RecordType) (base : Base) (size : ℕ)
        → ((m : ℕ) (type : RecordType) → slice_get earlier m ≡ Some type → m < length types)
        → HasBaseSize pointer earlier base size → IfSome (nested_of base) (λ m. m < length types)
    below_of pointer types earlier (Number kind) size inside sized = tt
    below_of pointer types earlier Text size inside sized = tt
    below_of pointer types earlier (Nested m) size inside sized = inside m sized.0 sized.1

    at_type : (o : Option RecordType) → slice_get layout.types n ≡ o
        → option_and_then (λ (type : RecordType). slice_get type.fields k) o ≡ Some field
        → IfSome (nested_of field.base) (λ m. m < length layout.types)
    at_type None is there = cc
    at_type (Some type) is there =
        below_of layout.pointer layout.types (take n layout.types) field.base field.size
        (λ m inner at. slice_get-below layout.types m inner (slice_get-take layout.types n m inner at))
        (((laid.each_type n type is).each_field k field there).size_allowed)
