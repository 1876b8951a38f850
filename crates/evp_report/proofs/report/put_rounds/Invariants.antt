use Rattle.std.proofs.Common.{◌-◌, map, length}
use Rattle.evp_report.proofs.Passed.{SoFar}
use Rattle.evp_report.specs.Report.{report, rounds_text, told_of}
use Rattle.evp_report.proofs.report.put_rounds.Given as goal

-- the rounds from this one on are left
abbrev pub invariant-loop-round : goal.invariant-loop-round
invariant-loop-round g l =
    SoFar g.K.Sink.faults g.K.Sink.put l.fn.sink l.sink l.fn.pieces l.pieces
    (rounds_text l.round (length l.fn.job.rounds - l.round) (map (told_of l.fn.job) l.fn.job.routes)) (report l.fn.job)
