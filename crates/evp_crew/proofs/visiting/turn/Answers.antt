use Rattle.std.proofs.Common.{sym}
use Rattle.evp_stone.proofs.SameActor.{role_stays}
use Rattle.evp_crew.specs.Rota.{three}
use Rattle.evp_crew.proofs.Sitting.{acts, sits_on}
use Rattle.evp_crew.proofs.Working.{closed_if}
use Rattle.evp_crew.proofs.visiting.turn.Goals as goal

pub turn-turn-requires-clause-of : goal.turn-turn-requires-clause-of
turn-turn-requires-clause-of g c = sym c.requires.job_is

pub turn-turn-requires-clause-cache : goal.turn-turn-requires-clause-cache
turn-turn-requires-clause-cache g c = c.requires.seat.cache

pub turn-turn-requires-clause-declared : goal.turn-turn-requires-clause-declared
turn-turn-requires-clause-declared g c = c.requires.seat.declared

pub turn-turn-requires-clause-state : goal.turn-turn-requires-clause-state
turn-turn-requires-clause-state g c =
    let t = three c.args.office.now.job.now c.args.office.now.cache.now c.args.office.now.crew.now in
    acts t c.args.number c.args.actor.now c.args.port.now c.requires

pub returns-clause-sits : goal.returns-clause-sits
returns-clause-sits g c =
    let t = three c.args.office.now.job.now c.args.office.now.cache.now c.args.office.now.crew.now in
    let turned = c.turn-turn.ensures in
    sits_on t c.args.number c.args.actor.now c.args.port.now c.requires c.turn-turn.new.self c.turn-turn.new.port
    turned.moves turned.state (role_stays c.args.office.now.job.now _ _ _ _ _ turned.turned.role) c.passes-passes.ensures.of

pub returns-clause-closed : goal.returns-clause-closed
returns-clause-closed g c = closed_if c.args.office.now.job.now _ _ _ _ _ c.turn-turn.ensures.turned.role
