use Rattle.std.proofs.Common.{rules, ◌≡◌, true, ℕ, ◌∷◌, List, Option, Some, None, option_map, sym, ap, ◌∙◌, arith}
use Rattle.std.specs.Prelude.{slice_get}
use Rattle.evp_base.specs.declared.step.Step.{Step}
use Rattle.evp_base.specs.declared.step.Step.TheVariants as step
use Rattle.evp_format.specs.declared.field.Field.{Field}
use Rattle.evp_format.specs.declared.record_type.RecordType.{RecordType}
use Rattle.evp_format.specs.Class.{class_of, same_class}
use Rattle.evp_format.specs.Clashing.{clash_field, clash_partners, clash_parts, clash_trees, branch_named}
use Rattle.evp_format.specs.Tree.{Part, trees, tree_of, branches_of, part_of}
use Rattle.evp_format.proofs.Clashes.{clash_from, clash_trees-from, clash_field-by, with_part, clash_partners-other, clash_partners-same}
use Rattle.evp_format.proofs.Clashes.{nested_below, is_nested, clash_parts-not_nested, clash_parts-into_none, clash_parts-nested}
use Rattle.evp_format.proofs.Lists.{found_at}
use Rattle.evp_format.proofs.Trees.{tree_of-resolved}
use Rattle.evp_format.proofs.clash.+clash.Goals as goal
use Rattle.evp_format.proofs.clash.+clash.Goals.{clash_of_field-After-as_slice-partners}

-- ---- a field

-- the sender's type
sender_type : (t : ℕ) (c : clash_of_field-After-as_slice-partners t)
    → slice_get c.args.from.now.types c.args.sender ≡ Some c.index-types-sender.result
sender_type t c = found_at c.types.result.now c.args.from.now.types c.args.sender c.index-types-sender.result c.types.ensures.value
    (rw c.types.ensures.value c.requires.sender_there) c.index-types-sender.is

-- the clash of the field, by what its name finds
by_partner : (t : ℕ) (c : clash_of_field-After-as_slice-partners t) (found : Option Field)
    → branch_named c.args.field.now.name (branches_of (trees c.args.from.now.types) c.as_slice-partners.result.now)
    ≡ option_map (with_part (trees c.args.from.now.types)) found
    → (part : Part) → clash_field (tree_of c.args.from.now c.args.sender) c.args.field.now part
    ≡ option_map (λ (path : List Step). step.Field c.args.field.now.name ∷ path)
    (clash_partners (option_map (with_part (trees c.args.from.now.types)) found) c.args.field.now part
    (λ sender_part. clash_parts sender_part part))
by_partner t c found is part =
    let fields_are : c.as_slice-partners.result.now ≡ c.index-types-sender.result.fields = c.as_slice-partners.ensures
    ∙ ap (λ (type : RecordType). type.fields) (sym c.index-types-sender.is) in
    clash_field-by c.args.from.now c.args.sender c.index-types-sender.result c.args.field.now part found c.types.ensures.laid
    (sender_type t c)
    (ap (λ (fields : List Field). branch_named c.args.field.now.name (branches_of (trees c.args.from.now.types) fields)) (sym fields_are)
    ∙ is)

pub clash_of_field-returns-in_default : goal.clash_of_field-returns-in_default
clash_of_field-returns-in_default t c =
    sym (by_partner t (goal.at.clash_of_field-returns-in_default t c).After-as_slice-partners None
    (c.in_default.ensures.value (trees c.args.from.now.types)) (part_of (trees c.args.to.now.types) c.args.field.now.base))

-- the part that a field of the receiver's is
abbrev of_receiver : (t : ℕ) (c : clash_of_field-After-as_slice-partners t) → Part
of_receiver t c = part_of (trees c.args.to.now.types) c.args.field.now.base

-- the clash of a field with a partner of its class: what the two clash in inside
same_partner : (t : ℕ) (c : clash_of_field-After-as_slice-partners t) (partner : Field)
    → branch_named c.args.field.now.name (branches_of (trees c.args.from.now.types) c.as_slice-partners.result.now)
    ≡ Some (with_part (trees c.args.from.now.types) partner)
    → true ≡ same_class (class_of partner) (class_of c.args.field.now)
    → (inside : Option (List Step))
    → clash_parts (part_of (trees c.args.from.now.types) partner.base) (of_receiver t c) ≡ inside
    → clash_field (tree_of c.args.from.now c.args.sender) c.args.field.now (of_receiver t c)
    ≡ option_map (λ (path : List Step). step.Field c.args.field.now.name ∷ path) inside
same_partner t c partner found same inside is =
    by_partner t c (Some partner) found (of_receiver t c)
    ∙ ap (option_map (λ (path : List Step). step.Field c.args.field.now.name ∷ path))
    (clash_partners-same (trees c.args.from.now.types) (trees c.args.to.now.types) partner c.args.field.now (sym same) ∙ is)

pub clash_of_field-returns-then-not-same_class : goal.clash_of_field-returns-then-not-same_class
clash_of_field-returns-then-not-same_class t c =
    let from = trees c.args.from.now.types in
    let to = trees c.args.to.now.types in
    let part = part_of to c.args.field.now.base in
    let partner = c.in-Some.partner.now in
    let whole = by_partner t (goal.at.clash_of_field-returns-then-not-same_class t c).After-as_slice-partners (Some partner)
    (c.in-Some.ensures.value from) part in
    let other = clash_partners-other from to partner c.args.field.now (sym c.if-not-same_class.ensures) in
    ap Some (c.in_ok-behind.ensures ∙ ap (λ (path : List Step). step.Field c.args.field.now.name ∷ path) c.new.ensures)
    ∙ sym (whole ∙ ap (option_map (λ (path : List Step). step.Field c.args.field.now.name ∷ path)) other)

pub clash_of_field-returns-in_default-nested_type : goal.clash_of_field-returns-in_default-nested_type
clash_of_field-returns-in_default-nested_type t c =
    let from = trees c.args.from.now.types in
    let to = trees c.args.to.now.types in
    sym (same_partner t (goal.at.clash_of_field-returns-in_default-nested_type t c).After-as_slice-partners c.in-Some.partner.now
    (c.in-Some.ensures.value from) c.if-not-same_class.ensures None
    (clash_parts-not_nested from c.in-Some.partner.now.base (part_of to c.args.field.now.base) (sym c.in_default-nested_type.ensures)))

pub clash_of_field-returns-in_default-nested_type-2 : goal.clash_of_field-returns-in_default-nested_type-2
clash_of_field-returns-in_default-nested_type-2 t c =
    let from = trees c.args.from.now.types in
    let to = trees c.args.to.now.types in
    sym (same_partner t (goal.at.clash_of_field-returns-in_default-nested_type-2 t c).After-as_slice-partners c.in-Some.partner.now
    (c.in-Some.ensures.value from) c.if-not-same_class.ensures None
    (clash_parts-into_none (part_of from c.in-Some.partner.now.base) to c.args.field.now.base (sym c.in_default-nested_type-2.ensures)))

pub clash_of_field-clash_of_types-requires : goal.clash_of_field-clash_of_types-requires
clash_of_field-clash_of_types-requires t c =
    let read = (goal.at.clash_of_field-clash_of_types-requires t c).After-as_slice-partners in
    let partner = c.in-Some.partner.now in
    let n = c.args.sender in
    let types = c.args.from.now.types in
    let fields_are : c.as_slice-partners.result.now ≡ c.index-types-sender.result.fields = c.as_slice-partners.ensures
    ∙ ap (λ (type : RecordType). type.fields) (sym c.index-types-sender.is) in
    let inside = c.in-Some.ensures.inside in
    let there : slice_get c.index-types-sender.result.fields inside.0
    ≡ Some partner = ap (λ (fields : List Field). slice_get fields inside.0) (sym fields_are) ∙ inside.1 in
    let laid = ((c.types.ensures.laid.each_type n c.index-types-sender.result (sender_type t read)).each_field inside.0 partner
    there).size_allowed in
    let inner = nested_below c.args.from.now.pointer types n partner.base partner.size c.in-Some-nested_type.inner laid
    (is_nested partner.base c.in-Some-nested_type.inner (sym c.in-Some-nested_type.ensures)) in
    let nested = nested_below c.args.to.now.pointer c.args.to.now.types c.args.receiver c.args.field.now.base c.args.field.now.size
    c.in-Some-nested_type-2.nested c.requires.sized
    (is_nested c.args.field.now.base c.in-Some-nested_type-2.nested (sym c.in-Some-nested_type-2.ensures)) in
    let below = nested.0 in
    (omega (arith, below), (inner.1, nested.1))

pub clash_of_field-returns-in_default-2 : goal.clash_of_field-returns-in_default-2
clash_of_field-returns-in_default-2 t c =
    let from = trees c.args.from.now.types in
    let to = trees c.args.to.now.types in
    let inside = clash_parts-nested c.args.from.now c.args.to.now c.in-Some.partner.now.base c.args.field.now.base
    c.in-Some-nested_type.inner c.in-Some-nested_type-2.nested (sym c.in-Some-nested_type.ensures) (sym c.in-Some-nested_type-2.ensures)
    in
    sym (same_partner t (goal.at.clash_of_field-returns-in_default-2 t c).After-as_slice-partners c.in-Some.partner.now
    (c.in-Some.ensures.value from) c.if-not-same_class.ensures None
    (inside ∙ sym c.in_ok-path.ensures ∙ c.in_default-2.is))

pub clash_of_field-returns : goal.clash_of_field-returns
clash_of_field-returns t c =
    let from = trees c.args.from.now.types in
    let to = trees c.args.to.now.types in
    let inside = clash_parts-nested c.args.from.now c.args.to.now c.in-Some.partner.now.base c.args.field.now.base
    c.in-Some-nested_type.inner c.in-Some-nested_type-2.nested (sym c.in-Some-nested_type.ensures) (sym c.in-Some-nested_type-2.ensures)
    in
    ap Some c.in_ok-behind-2.ensures
    ∙ sym (same_partner t (goal.at.clash_of_field-returns t c).After-as_slice-partners c.in-Some.partner.now (c.in-Some.ensures.value from)
    c.if-not-same_class.ensures (Some c.in-Some-2.path)
    (inside ∙ sym c.in_ok-path.ensures ∙ c.in-Some-2.is))

-- ---- a type

pub clash_of_types-loop-field-init : goal.clash_of_types-loop-field-init
clash_of_types-loop-field-init t c =
    let n = c.args.receiver in
    let type = c.index-types-receiver.result in
    let types = c.args.to.now.types in
    let there = found_at c.types.result.now types n type c.types.ensures.value (rw c.types.ensures.value c.requires.receiver_there)
    c.index-types-receiver.is in
    let fields_are = c.as_slice-fields.ensures ∙ ap (λ (t : RecordType). t.fields) (sym c.index-types-receiver.is) in
    let sender = tree_of c.args.from.now c.args.sender in
    ap (λ (fields : List Field). clash_from sender (branches_of (trees types) fields)) fields_are
    ∙ sym (clash_trees-from sender type.length (branches_of (trees types) type.fields))
    ∙ ap (clash_trees sender) (sym (tree_of-resolved c.args.to.now n type c.types.ensures.laid there))

pub clash_of_types-clash_of_field-requires : goal.clash_of_types-clash_of_field-requires
clash_of_types-clash_of_field-requires t c =
    let n = c.args.receiver in
    let type = c.index-types-receiver.result in
    let field = c.field-item.result in
    let here = found_at c.types.result.now c.args.to.now.types n type c.types.ensures.value
    (rw c.types.ensures.value c.requires.receiver_there) c.index-types-receiver.is in
    let fields_are = c.as_slice-fields.ensures ∙ ap (λ (t : RecordType). t.fields) (sym c.index-types-receiver.is) in
    let there = found_at c.as_slice-fields.result.now type.fields c.loop-field.field-index field fields_are c.loop-field-test.true
    c.field-item.is in (
      search rules,
      (
        c.requires.sender_there,
        ((c.types.ensures.laid.each_type n type here).each_field c.loop-field.field-index field there).size_allowed,
      ),
    )
