use Rattle.std.proofs.Common.{◌∙◌}
use Rattle.evp_crew.proofs.Gathered.{slot_set}
use Rattle.evp_crew.proofs.gathering.place.Goals as goal

pub returns-then-number-slots-clause-slots : goal.returns-then-number-slots-clause-slots
returns-then-number-slots-clause-slots c = λ three done are.
    slot_set three c.args.slots.now c.from-number.result c.args.seat (c.from-number.ensures ∙ c.number.ensures.number)
    c.if-number-slots.true done are
