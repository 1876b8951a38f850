use Rattle.std.proofs.Common.{ℕ, sym, subst}
use Rattle.evp_stone.specs.Ended.{AreEnded}
use Rattle.evp_stones.proofs.bench.texts.TextsWatch.look.Goals as goal

pub tell-requires-clause-ended : goal.tell-requires-clause-ended
tell-requires-clause-ended g c =
    let job = c.args.job.now in
    let acted = c.requires.acted in
    subst (λ (n : ℕ). AreEnded job n c.in-Some.ended.now) (sym c.from.ensures)
    (c.in-Some.ensures.accounts job acted.cells acted.taken acted.given acted.state)
