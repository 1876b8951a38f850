use Rattle.std.proofs.Common.{◌≡◌, ◌≤◌, ◌++◌, length}
use Rattle.evp_report.specs.Report.{report}
use Rattle.evp_stones.specs.Told.{left_of}
use Rattle.evp_stones.proofs.bench.pen.Pen.digest.Given as goal

-- the report is what was hashed and what is left
abbrev pub invariant-loop-round : goal.invariant-loop-round
invariant-loop-round g l =
    (l.hashed ++ left_of l.carried l.round l.place ≡ report l.carried)
    × (l.place ≤ length l.carried.routes)
    × (l.round ≤ length l.carried.rounds)
    × (l.round ≡ length l.carried.rounds → l.place ≡ 0)
