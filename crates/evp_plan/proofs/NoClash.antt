-- What it says of a field and its partner that two formats don't clash.
use Rattle.std.proofs.Common.{◌≡◌, ℕ, zero, suc, Bool, true, false, List, [], ◌∷◌, Option, Some, None, refl, subst}
use Rattle.std.specs.Prelude.{option_map, if◌then◌else◌}
use Rattle.evp_base.specs.declared.step.Step.{Step as PathStep}
use Rattle.evp_base.specs.declared.step.Step.TheVariants as path
use Rattle.evp_format.specs.declared.field.Field.{Field}
use Rattle.evp_format.specs.declared.field.Shape.{Shape}
use Rattle.evp_format.specs.Class.{class_in, same_class, content_in}
use Rattle.evp_format.specs.Clashing.{branch_named, first_of_two, clash_partners, clash_trees, clash_branches, clash_parts}
use Rattle.evp_format.specs.Tree.{Tree, tree, Branches, no_fields, branch, Part, branch_at}
use Rattle.evp_plan.proofs.Alikes.{is_array, same_shape, same_part, alike_shapes}

abbrev pub branches_in : Tree → Branches
branches_in (tree length branches) = branches

-- a receiver field doesn't clash with its partner
abbrev pub AreAlike : Branches → Field → Part → Type 0
AreAlike from field part = clash_partners (branch_named field.name from) field part (λ sender_part. clash_parts sender_part part) ≡ None

no_first : {A : Type 0} (one other : Option A) → first_of_two one other ≡ None → (one ≡ None) × (other ≡ None)
no_first (Some a) other none = cc
no_first None other none = (refl, none)

no_mapped : (name : List ℕ) (found : Option (List PathStep)) → option_map (λ steps. path.Field name ∷ steps) found ≡ None → found ≡ None
no_mapped name None none = refl
no_mapped name (Some steps) none = cc

pub alike_branches : (from : Branches) (field : Field) (part : Part) (rest : Branches) → clash_branches from (branch field part rest) ≡ None
    → AreAlike from field part × (clash_branches from rest ≡ None)
alike_branches from field part rest none =
    let found = clash_partners (branch_named field.name from) field part (λ sender_part. clash_parts sender_part part) in
    let both = no_first (option_map (λ steps. path.Field field.name ∷ steps) found) (clash_branches from rest) none in
    (no_mapped field.name found both.0, both.1)

-- of one class, and alike inside
alike_classes : (same : Bool) (inside : Option (List PathStep)) → (if same then inside else Some []) ≡ None → (same ≡ true)
    × (inside ≡ None)
alike_classes true inside none = (refl, none)
alike_classes false inside none = cc

-- a partner of this shape and part
pub record IsAlike (shape : Shape) (part : Part) (shape' : Shape) (part' : Part) : Type 0 where
  pub shapes : same_shape (is_array shape) (is_array shape') ≡ true
  pub parts : same_part part part' ≡ true
  pub inside : clash_parts part part' ≡ None

pub alike_with : (sender : Field) (part : Part) (field : Field) (part' : Part)
    → clash_partners (Some (sender, part)) field part' (λ sender_part. clash_parts sender_part part') ≡ None
    → IsAlike sender.shape part field.shape part'
alike_with sender part field part' none =
    let classes = alike_classes (same_class (class_in sender part) (class_in field part')) (clash_parts part part') none in
    let both = alike_shapes sender.shape field.shape (content_in part) (content_in part') classes.0 in
    record { shapes = both.0; parts = both.1; inside = classes.1 }

-- each field of a receiver's record
pub alike_at : (from branches : Branches) (k : ℕ) (field : Field) (part : Part) → clash_branches from branches ≡ None
    → branch_at branches k ≡ Some (field, part) → AreAlike from field part
alike_at from no_fields k field part alike found = cc
alike_at from (branch other part' rest) zero field part alike found =
    let same : (other, part') ≡ (field, part) = cc in
    let Alike : Field × Part → Type 0 = λ b. AreAlike from b.0 b.1 in
    subst Alike same (alike_branches from other part' rest alike).0
alike_at from (branch other part' rest) (suc k) field part alike found = alike_at from rest k field part
    (alike_branches from other part' rest alike).1 found

-- trees clash as their branches do
pub clash_of_trees : (from nested : Tree) → clash_trees from nested ≡ clash_branches (branches_in from) (branches_in nested)
clash_of_trees (tree length from) (tree length' to) = refl
