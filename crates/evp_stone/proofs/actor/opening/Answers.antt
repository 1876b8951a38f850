use Rattle.std.proofs.Common.{sym, ◌∙◌}
use Rattle.evp_stone.proofs.actor.opening.Goals as goal

pub returns-then-from-sources-clause-state : goal.returns-then-from-sources-clause-state
returns-then-from-sources-clause-state c = λ taken given fresh.
    let along = c.new.ensures.route in
    c.new.ensures.state given (fresh.gives c.new.result.route along.route along.there (along.from ∙ sym c.new.ensures.source, along.along))
