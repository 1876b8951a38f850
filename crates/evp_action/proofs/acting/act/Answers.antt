use Rattle.evp_action.proofs.Works.{refused_is}
use Rattle.evp_action.proofs.acting.act.Goals as goal

pub returns-in-Err-Cause-clause-acts : goal.returns-in-Err-Cause-clause-acts
returns-in-Err-Cause-clause-acts c = λ value has.
    refused_is c.args.formats.now _ c.acted.result c.in-Err-Cause.field-0 c.in-Err-Cause.reason c.in-Err-Cause.is c.in-Err-Cause.field-0-is
    (c.acted.ensures.answers value has)
