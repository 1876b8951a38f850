use Rattle.std.proofs.Common.{List, refl, arith}
use Rattle.std.specs.List.{sum}
use Rattle.std.specs.Prelude.{slice_index}
use Rattle.std.proofs.lemmas.List.Sums.{sum_by-cons}
use Rattle.evp_stone.specs.declared.round.Round.{Round}
use Rattle.evp_stone.specs.Job.{submits}
use Rattle.evp_job.proofs.Added.{added_more, added_all}
use Rattle.evp_job.proofs.fill.submitted.Goals as goal

pub loop-round-preserved : goal.loop-round-preserved
loop-round-preserved c =
    let source = c.args.source in
    let rounds = c.args.rounds.now in
    let added = added_more (λ (all : List Round). sum (submits source all)) (λ (round : Round). slice_index round.submit source)
    (λ round others. sum_by-cons (λ n. n) (slice_index round.submit source) (submits source others)) rounds c.loop-round.round-index
    c.round-item.result c.loop-round.records (sum (submits source rounds)) c.loop-round-test.true c.round-item.is
    c.loop-round.invariant.added in
    record {
      added = omega (arith, added, c.submitted_in.ensures);
      few = omega (arith, c.loop-round.invariant.few);
    }

pub returns-clause-value : goal.returns-clause-value
returns-clause-value c =
    let source = c.args.source in
    added_all (λ (all : List Round). sum (submits source all)) c.args.rounds.now c.loop-round.round-index c.loop-round.records
    (sum (submits source c.args.rounds.now)) refl c.loop-round-test.false c.loop-round.invariant.added
