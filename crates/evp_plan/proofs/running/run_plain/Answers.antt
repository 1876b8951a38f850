use Rattle.std.proofs.Common.{drop}
use Rattle.evp_plan.proofs.Plain.{plain_written}
use Rattle.evp_plan.proofs.running.run_plain.Goals as goal

pub returns-clause-made : goal.returns-clause-made
returns-clause-made c =
    let gather = c.args.gather.now in
    plain_written gather.signed gather.blend.mask.places (drop c.args.at c.args.from.now) gather.blend
    c.args.to c.args.out.now c.gather.new.out (gather.alone c.requires.plain) gather.blend.mask.sixteen
    c.requires.room c.gather.ensures
