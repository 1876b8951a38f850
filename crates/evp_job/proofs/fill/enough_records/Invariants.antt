use Rattle.std.proofs.Common.{◌≡◌, drop}
use Rattle.evp_job.specs.Filling.{enough_from}
use Rattle.evp_job.proofs.fill.enough_records.Given as goal

abbrev pub invariant-loop-source : goal.invariant-loop-source
invariant-loop-source l = enough_from l.rounds l.source (drop l.source l.files) ≡ enough_from l.rounds 0 l.files
