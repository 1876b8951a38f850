use Rattle.std.proofs.Common.{◌≡◌, ℕ, sym, ap, subst, ◌∙◌}
use Rattle.std.specs.Prelude.{slice_set, get_or}
use Rattle.evp_core.specs.Held.{IsHeld, world_of}
use Rattle.evp_core.specs.WorldTurned.{WorldTurned, done_by}
use Rattle.evp_core.proofs.HeldOn.{may_turn, world_turned, world_held}
use Rattle.evp_core.proofs.world.go.Goals as goal

pub turn-requires-clause-state : goal.turn-requires-clause-state
turn-requires-clause-state c =
    let is : c.index_mut.result.now ≡ get_or c.args.actors.now.items c.args.number c.index_mut.result.now =
    c.index_mut.ensures.value ∙ ap (λ (k : ℕ). get_or c.args.actors.now.items k c.index_mut.result.now) c.from.ensures in
    may_turn c.args.cache.now c.args.reach.now.lists c.args.actors.now.items c.requires.held c.args.number c.index_mut.result.now is
    c.requires.number c.job-job.result.now c.job-job.ensures.job c.begin.new.self c.begin.ensures.lists c.begin.ensures.own

pub returns-clause-turned : goal.returns-clause-turned
returns-clause-turned c =
    let is : c.index_mut.result.now ≡ get_or c.args.actors.now.items c.args.number c.index_mut.result.now =
    c.index_mut.ensures.value ∙ ap (λ (k : ℕ). get_or c.args.actors.now.items k c.index_mut.result.now) c.from.ensures in
    subst (λ (k : ℕ). WorldTurned (world_of c.args.cache.now c.args.reach.now.lists c.args.actors.now.items 0)
    (world_of c.args.cache.now c.turn.new.port.lists (slice_set c.args.actors.now.items k c.turn.new.self) (done_by c.turn.result 0))
    c.args.number c.turn.result) (sym c.from.ensures)
    (world_turned c.args.cache.now c.args.reach.now.lists c.args.actors.now.items c.requires.held c.args.number c.index_mut.result.now is
    c.requires.number c.job-job.result.now c.job-job.ensures.job c.begin.new.self c.begin.ensures.lists c.begin.ensures.own
    c.begin.ensures.empties c.begin.ensures.fulls c.turn.new.port c.turn.ensures.moves c.turn.new.self c.turn.result c.turn.ensures.turned
    c.turn.ensures.state)

pub returns-clause-held : goal.returns-clause-held
returns-clause-held c =
    let is : c.index_mut.result.now ≡ get_or c.args.actors.now.items c.args.number c.index_mut.result.now =
    c.index_mut.ensures.value ∙ ap (λ (k : ℕ). get_or c.args.actors.now.items k c.index_mut.result.now) c.from.ensures in
    subst (λ (k : ℕ). IsHeld (world_of c.args.cache.now c.turn.new.port.lists (slice_set c.args.actors.now.items k c.turn.new.self)
    (done_by c.turn.result 0))) (sym c.from.ensures)
    (world_held c.args.cache.now c.args.reach.now.lists c.args.actors.now.items c.requires.held c.args.number c.index_mut.result.now is
    c.requires.number c.job-job.result.now c.job-job.ensures.job c.begin.new.self c.begin.ensures.lists c.begin.ensures.own
    c.begin.ensures.empties c.begin.ensures.fulls c.turn.new.port c.turn.ensures.moves c.turn.new.self c.turn.result c.turn.ensures.turned
    c.turn.ensures.state)
