-- The clash of two types, field by field.
use Rattle.std.proofs.Common.{◌≡◌, ℕ, ◌<◌, ◌∷◌, [], if◌then◌else◌, List, length, take, Bool, true, false, Option, Some, None, option_map}
use Rattle.std.proofs.Common.{refl, ap, ◌∙◌, subst, arith}
use Rattle.std.proofs.lemmas.List.{length-take}
use Rattle.std.specs.Prelude.{slice_get}
use Rattle.evp_base.specs.declared.step.Step.{Step}
use Rattle.evp_base.specs.declared.step.Step.TheVariants as step
use Rattle.evp_format.specs.declared.field.Base.{Base}
use Rattle.evp_format.specs.declared.field.Base.TheVariants.{Number, Text, Nested}
use Rattle.evp_format.specs.declared.field.Field.{Field}
use Rattle.evp_format.specs.declared.record_type.RecordType.{RecordType}
use Rattle.evp_format.specs.Class.{Class, content_of, content_in, shaped, class_of, class_in, same_class}
use Rattle.evp_format.specs.Clashing.{clash_trees, clash_branches, clash_field, clash_parts, clash_partners, branch_named, first_of_two}
use Rattle.evp_format.specs.Layout.{Layout}
use Rattle.evp_format.specs.Path.{nested_of}
use Rattle.evp_format.specs.Tree.{Tree, tree, Branches, branch, Part, number_part, text_part, tree_part, tree_of, trees, branches_of}
use Rattle.evp_format.specs.Tree.{part_of}
use Rattle.evp_format.specs.WellLaid.{IsWellLaid, HasBaseSize}
use Rattle.evp_format.proofs.Trees.{slice_get-below, tree_of-resolved}

-- the first clash of these fields of the receiver's
abbrev pub clash_from : Tree → Branches → Option (List Step)
clash_from (tree length from) branches = clash_branches from branches

pub clash_trees-from : (sender : Tree) (length : ℕ) (branches : Branches)
    → clash_trees sender (tree length branches) ≡ clash_from sender branches
clash_trees-from (tree length' from) length branches = refl

clash_from-branch : (sender : Tree) (field : Field) (part : Part) (rest : Branches)
    → clash_from sender (branch field part rest) ≡ first_of_two (clash_field sender field part) (clash_from sender rest)
clash_from-branch (tree length from) field part rest = refl

-- a field without a clash, and one with
pub clash_from-none : (sender : Tree) (field : Field) (part : Part) (rest : Branches) → clash_field sender field part ≡ None
    → clash_from sender (branch field part rest) ≡ clash_from sender rest
clash_from-none sender field part rest none = clash_from-branch sender field part rest
    ∙ ap (λ (o : Option (List Step)). first_of_two o (clash_from sender rest)) none

pub clash_from-some : (sender : Tree) (field : Field) (part : Part) (rest : Branches) (path : List Step)
    → clash_field sender field part ≡ Some path → clash_from sender (branch field part rest) ≡ Some path
clash_from-some sender field part rest path some = clash_from-branch sender field part rest
    ∙ ap (λ (o : Option (List Step)). first_of_two o (clash_from sender rest)) some

-- a field, with what it is
abbrev pub with_part : List Tree → Field → Field × Part
with_part earlier field = (field, part_of earlier field.base)

-- a field's clash, by its partner
pub clash_field-by : (from : Layout) (n : ℕ) (type : RecordType) (field : Field) (part : Part) (found : Option Field) → IsWellLaid from
    → slice_get from.types n ≡ Some type
    → branch_named field.name (branches_of (trees from.types) type.fields) ≡ option_map (with_part (trees from.types)) found
    → clash_field (tree_of from n) field part
    ≡ option_map (λ (path : List Step). step.Field field.name ∷ path)
    (clash_partners (option_map (with_part (trees from.types)) found) field part (λ sender_part. clash_parts sender_part part))
clash_field-by from n type field part found laid there partner =
    ap (λ (t : Tree). clash_field t field part) (tree_of-resolved from n type laid there)
    ∙ ap (λ (o : Option (Field × Part)). option_map (λ (path : List Step). step.Field field.name ∷ path)
    (clash_partners o field part (λ sender_part. clash_parts sender_part part))) partner

-- the class of a field of a tree is that of the field
content_in-part_of : (earlier : List Tree) (base : Base) → content_in (part_of earlier base) ≡ content_of base
content_in-part_of earlier (Number kind) = refl
content_in-part_of earlier Text = refl
content_in-part_of earlier (Nested n) = refl

class_in-part_of : (earlier : List Tree) (field : Field) → class_in field (part_of earlier field.base) ≡ class_of field
class_in-part_of earlier field = ap (shaped field.shape) (content_in-part_of earlier field.base)

-- what partners come to, by whether they are of one class
clash_partners-by : (from to : List Tree) (partner field : Field) (same : Bool)
    → same_class (class_of partner) (class_of field) ≡ same
    → clash_partners (Some (partner, part_of from partner.base)) field (part_of to field.base)
    (λ sender_part. clash_parts sender_part (part_of to field.base))
    ≡ (if same then clash_parts (part_of from partner.base) (part_of to field.base) else Some [])
clash_partners-by from to partner field same is =
    ap (λ (t : Bool). if t then clash_parts (part_of from partner.base) (part_of to field.base) else Some [])
    (ap (λ (class : Class). same_class class (class_in field (part_of to field.base))) (class_in-part_of from partner)
    ∙ ap (same_class (class_of partner)) (class_in-part_of to field) ∙ is)

-- of a partner of another class, and of one of the same
pub clash_partners-other : (from to : List Tree) (partner field : Field) → same_class (class_of partner) (class_of field) ≡ false
    → clash_partners (Some (partner, part_of from partner.base)) field (part_of to field.base)
    (λ sender_part. clash_parts sender_part (part_of to field.base)) ≡ Some []
clash_partners-other from to partner field other = clash_partners-by from to partner field false other

pub clash_partners-same : (from to : List Tree) (partner field : Field) → same_class (class_of partner) (class_of field) ≡ true
    → clash_partners (Some (partner, part_of from partner.base)) field (part_of to field.base)
    (λ sender_part. clash_parts sender_part (part_of to field.base))
    ≡ clash_parts (part_of from partner.base) (part_of to field.base)
clash_partners-same from to partner field same = clash_partners-by from to partner field true same

-- a nested type is an earlier one
pub nested_below : (pointer : ℕ) (types : List RecordType) (n : ℕ) (base : Base) (size inner : ℕ)
    → HasBaseSize pointer (take n types) base size → base ≡ Nested inner → (inner < n) × (inner < length types)
nested_below pointer types n base size inner sized is =
    let Sized : Base → Type 0 = λ b. HasBaseSize pointer (take n types) b size in
    let there = subst Sized is sized in
    let below = slice_get-below (take n types) inner there.0 there.1 in
    let kept = length-take n types in
    (omega (arith, below, kept), omega (arith, below, kept))

pub is_nested : (base : Base) (n : ℕ) → nested_of base ≡ Some n → base ≡ Nested n
is_nested (Number kind) n is = cc
is_nested Text n is = cc
is_nested (Nested m) n is = let same : m ≡ n = cc in ap Nested same

-- what is no record doesn't clash inside
pub clash_parts-not_nested : (earlier : List Tree) (base : Base) (part : Part) → nested_of base ≡ None
    → clash_parts (part_of earlier base) part ≡ None
clash_parts-not_nested earlier (Number kind) part none = refl
clash_parts-not_nested earlier Text part none = refl
clash_parts-not_nested earlier (Nested n) part none = cc

pub clash_parts-into_none : (part : Part) (others : List Tree) (base : Base) → nested_of base ≡ None
    → clash_parts part (part_of others base) ≡ None
clash_parts-into_none (number_part kind) others base none = refl
clash_parts-into_none text_part others base none = refl
clash_parts-into_none (tree_part nested) others (Number kind) none = refl
clash_parts-into_none (tree_part nested) others Text none = refl
clash_parts-into_none (tree_part nested) others (Nested n) none = cc

-- two records clash as their types do
pub clash_parts-nested : (from to : Layout) (base base' : Base) (n m : ℕ) → nested_of base ≡ Some n → nested_of base' ≡ Some m
    → clash_parts (part_of (trees from.types) base) (part_of (trees to.types) base') ≡ clash_trees (tree_of from n) (tree_of to m)
clash_parts-nested from to base base' n m is is' =
    ap (λ (b : Base). clash_parts (part_of (trees from.types) b) (part_of (trees to.types) base')) (is_nested base n is)
    ∙ ap (λ (b : Base). clash_parts (part_of (trees from.types) (Nested n)) (part_of (trees to.types) b)) (is_nested base' m is')
