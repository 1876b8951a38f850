-- The rounds that are left behind some.
use Rattle.std.proofs.Common.{◌≡◌, ℕ, suc, ◌+◌, ◌-◌, ◌<◌, ◌≤◌, List, [], ◌++◌, sym, ap, arith}
use Rattle.evp_report.specs.Report.{Told, round_lines, rounds_text}

-- a round's lines, and those of the rounds behind it
pub round_first : (n round : ℕ) (routes : List Told) → round < n
    → round_lines round routes ++ rounds_text (round + 1) (n - (round + 1)) routes ≡ rounds_text round (n - round) routes
round_first n round routes below =
    let left : n - round ≡ suc (n - (round + 1)) = omega (arith, below) in
    sym (ap (λ k. rounds_text round k routes) left)

pub rounds_none : (n round : ℕ) (routes : List Told) → n ≤ round → rounds_text round (n - round) routes ≡ []
rounds_none n round routes end =
    let left : n - round ≡ 0 = omega (arith, end) in
    ap (λ k. rounds_text round k routes) left
