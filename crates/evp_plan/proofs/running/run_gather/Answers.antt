use Rattle.std.proofs.Common.{◌+◌, drop}
use Rattle.evp_plan.proofs.Plain.{plain_written}
use Rattle.evp_plan.proofs.running.run_gather.Goals as goal

pub returns-then-plain : goal.returns-then-plain
returns-then-plain c =
    let gather = c.args.gather.now in
    plain_written gather.signed gather.blend.mask.places (drop (c.args.at + gather.at) c.args.from.now) gather.blend
    (c.args.t + gather.to) c.args.out.now c.gather.new.out (gather.alone (c.requires.plain c.if-plain.true)) gather.blend.mask.sixteen
    c.requires.room c.gather.ensures
