use Rattle.std.proofs.Common.{refl}
use Rattle.evp_stone.specs.Seen.{seen, holding}
use Rattle.evp_stone.proofs.TakeStep.{took, stayed}
use Rattle.evp_stone.proofs.worker.Worker.take.Goals as goal

pub returns-in-Some-clause-state : goal.returns-in-Some-clause-state
returns-in-Some-clause-state g c =
    let before = c.args.port.now in
    let after = c.take.new.self in
    let taken = c.in-Some.ensures.taken in
    took c.args.job.now (g.P.Port.taken before) (g.P.Port.taken after) (g.P.Port.given before) (g.P.Port.given after)
    c.in-Some.entry taken.one c.in-Some.ensures.given (seen c.args.self.now) (holding (seen c.args.self.now) c.in-Some.entry)
    c.requires.state c.requires.empty (taken.placed c.args.job.now c.requires.of) refl

pub returns-in-None-clause-state : goal.returns-in-None-clause-state
returns-in-None-clause-state g c =
    let before = c.args.port.now in
    let after = c.take.new.self in
    stayed c.args.job.now (g.P.Port.taken before) (g.P.Port.taken after) (g.P.Port.given before) (g.P.Port.given after)
    (seen c.args.self.now) c.in-None.ensures.empty.same c.in-None.ensures.given c.requires.state
