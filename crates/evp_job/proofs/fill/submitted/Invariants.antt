use Rattle.std.proofs.Common.{◌≡◌, ◌+◌, ◌-◌, ◌*◌, ◌^◌, ◌≤◌, drop}
use Rattle.std.specs.List.{sum}
use Rattle.evp_stone.specs.Job.{submits}
use Rattle.evp_job.proofs.fill.submitted.Given as goal

abbrev pub invariant-loop-round : goal.invariant-loop-round
invariant-loop-round l = record {
  added : l.records + sum (submits l.source (drop l.round-index l.rounds))
      ≡ sum (submits l.source l.rounds);
  few : l.records ≤ (2 ^ 32 - 1) * l.round-index;
}
