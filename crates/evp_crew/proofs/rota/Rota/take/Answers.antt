use Rattle.std.proofs.Common.{◌≡◌, Option, Some, None, ◌∙◌}
use Rattle.std.specs.Prelude.{MatchOption}
use Rattle.evp_crew.specs.Rule.{IsServed}
use Rattle.evp_crew.specs.Seat.{SeatShape}
use Rattle.evp_crew.specs.declared.three.Three.{Three}
use Rattle.evp_crew.proofs.Rotas.{takes, sees}
use Rattle.evp_crew.proofs.rota.Rota.take.Goals as goal

pub try_pop_as-requires-clause-rule : goal.try_pop_as-requires-clause-rule
try_pop_as-requires-clause-rule g c = takes _ _ c.requires.1.0 c.requires.1.1

pub pop_as-requires-clause-rule : goal.pop_as-requires-clause-rule
pop_as-requires-clause-rule g c =
    rw c.in_default.ensures.rule (takes _ _ c.requires.1.0 c.requires.1.1, sees _ _ c.requires.1.0 c.requires.1.1)

known : (o : Option SeatShape) (v w : Option Three) (Empty : Type 0) → MatchOption o ((w ≡ v) × Empty) (λ seat. IsServed v seat × (w ≡ v))
    → w ≡ v
known None v w Empty is = is.0
known (Some seat) v w Empty is = is.1

pub returns-in-Some-clause-pass : goal.returns-in-Some-clause-pass
returns-in-Some-clause-pass g c =
    let first = c.in-Some.ensures in
    let is = first.rule.1 in
    (((first.queue.0 ∙ c.requires.0.0, first.queue.2 ∙ c.requires.0.1), (c.requires.1.0, is ∙ c.requires.1.1)), is)

pub returns-clause-pass : goal.returns-clause-pass
returns-clause-pass g c =
    let first = c.in_default.ensures in
    let second = c.pop_as.ensures in
    let is = known c.pop_as.result _ _ _ second.rule ∙ first.rule in (
      (
        (second.queue.0 ∙ first.queue.0 ∙ c.requires.0.0, second.queue.2 ∙ first.queue.2 ∙ c.requires.0.1),
        (c.requires.1.0, is ∙ c.requires.1.1),
      ),
      is,
    )
