use Rattle.std.proofs.Common.{◌≡◌, Option, ◌∙◌}
use Rattle.std.specs.Prelude.{MatchResult, Result, Ok, Err}
use Rattle.evp_crew.specs.Seat.{SeatShape}
use Rattle.evp_crew.specs.declared.three.Three.{Three}
use Rattle.evp_crew.proofs.Rotas.{puts, sees}
use Rattle.evp_crew.proofs.rota.Rota.put.Goals as goal

pub try_push_as-requires-clause-rule : goal.try_push_as-requires-clause-rule
try_push_as-requires-clause-rule g c = puts _ _ _ _ c.requires.seat

pub push_as-requires-clause-rule : goal.push_as-requires-clause-rule
push_as-requires-clause-rule g c =
    rw (c.in-Err.ensures.rule.0, c.in-Err.ensures.rule.1)
    (puts _ _ _ _ c.requires.seat, sees _ _ c.requires.pass.1.0 c.requires.pass.1.1)

pub returns-in_default-clause-pass : goal.returns-in_default-clause-pass
returns-in_default-clause-pass g c =
    let first = c.in_default.ensures in
    let is = first.rule in
    (((first.queue.0 ∙ c.requires.pass.0.0, first.queue.2 ∙ c.requires.pass.0.1), (c.requires.pass.1.0, is ∙ c.requires.pass.1.1)), is)

known : {A : Type 0} (r : Result A SeatShape) (seat : SeatShape) (v w : Option Three) (Full : Type 0)
    → MatchResult r (λ _. w ≡ v) (λ back. (back ≡ seat) × (w ≡ v) × Full) → w ≡ v
known (Ok a) seat v w Full is = is
known (Err back) seat v w Full is = is.1

pub returns-clause-pass : goal.returns-clause-pass
returns-clause-pass g c =
    let first = c.in-Err.ensures in
    let second = c.push_as.ensures in
    let is = known c.push_as.result _ _ _ _ second.rule ∙ first.rule.1 in (
      (
        (second.queue.0 ∙ first.queue.0 ∙ c.requires.pass.0.0, second.queue.2 ∙ first.queue.2 ∙ c.requires.pass.0.1),
        (c.requires.pass.1.0, is ∙ c.requires.pass.1.1),
      ),
      is,
    )
