use Rattle.evp_plan.proofs.LaidSteps.{source_is}
use Rattle.evp_plan.proofs.forms.is_same_source.Goals as goal

pub returns : goal.returns
returns c = λ told.
    source_is c.args.one.now c.args.other.now c.if-one-other.false c.if-one-other-2.false (c.is_same_kind.ensures told)
