use Rattle.std.proofs.Common.{◌≡◌, max, arith, ◌∙◌, take}
use Rattle.evp_format.specs.Tree.{trees, branches_of}
use Rattle.evp_profile.proofs.Alignments.{fields_alignment_more, branches_alignment_positive}
use Rattle.evp_profile.proofs.alignment.fields_alignment.Goals as goal
use Rattle.evp_profile.proofs.alignment.fields_alignment.Goals.{then-own-greatest, else-own-greatest}

pub loop-field-preserved : goal.loop-field-preserved
loop-field-preserved c =
    let earlier = c.args.earlier.now in
    let most : c.if-own-greatest.greatest ≡ max c.loop-field.greatest c.field_alignment-own.result = elim c.if-own-greatest.branch
    [ then-own-greatest w ↦ omega arith | else-own-greatest w ↦ omega arith ] in
    most ∙ fields_alignment_more earlier.profile (trees earlier.types) c.args.fields.now c.loop-field.field-index c.field-item.result
    c.loop-field.greatest c.field_alignment-own.result c.loop-field-test.true c.field-item.is c.loop-field.invariant
    c.field_alignment-own.ensures.value

pub returns-clause-positive : goal.returns-clause-positive
returns-clause-positive c =
    let earlier = c.args.earlier.now in
    let positive = branches_alignment_positive earlier.profile
    (branches_of (trees earlier.types) (take c.loop-field.field-index c.args.fields.now)) in
    omega (arith, positive, c.loop-field.invariant)
