use Rattle.std.proofs.Common.{length, refl, ap, arith}
use Rattle.evp_stone.specs.Fed.{fed}
use Rattle.evp_stone.specs.JobShape.{JobShape}
use Rattle.evp_stone.specs.Turned.{counted}
use Rattle.evp_stone.proofs.FedStep.{has_more, goes_on, goes}
use Rattle.evp_stone.proofs.feeder.Feeder.turn.Goals as goal

pub next-requires : goal.next-requires
next-requires g c =
    let job = c.args.job.now in
    let same = ap (λ (j : JobShape). length j.rounds) c.parts.ensures.value in
    let long = c.len.ensures in
    let below = c.if-self-len.false in
    has_more job c.parts.ensures.kept (g.P.Port.given c.args.port.now) (fed c.args.self.now) c.requires.state (omega arith)

pub give-requires-clause-more : goal.give-requires-clause-more
give-requires-clause-more g c =
    let job = c.args.job.now in
    let same = ap (λ (j : JobShape). length j.rounds) c.parts.ensures.value in
    let long = c.len.ensures in
    let below = c.if-self-len.false in
    has_more job c.parts.ensures.kept (g.P.Port.given c.args.port.now) (fed c.args.self.now) c.requires.state (omega arith)

pub returns-in-Err-clause-turned : goal.returns-in-Err-clause-turned
returns-in-Err-clause-turned g c =
    let job = c.args.job.now in
    let work = fed c.args.self.now in
    let same = ap (λ (j : JobShape). length j.rounds) c.parts.ensures.value in
    let long = c.len.ensures in
    let below = c.if-self-len.false in
    let on = goes_on job work (has_more job c.parts.ensures.kept (g.P.Port.given c.args.port.now) work c.requires.state (omega arith)) in
    let port = c.args.port.now in
    let counts = counted (g.P.Port.taken port) (g.P.Port.given port) (g.P.Port.empties port) (g.P.Port.fulls port) in
    goes job counts counts work work _ on.part _ on.to.comes
    (record { taken = λ route. refl {a = counts.taken route}; given = λ route. refl {a = counts.given route} }, refl {a = work})
