use Rattle.std.proofs.Common.{◌≡◌, ℕ, ◌+◌, ◌<◌, ◌≤◌}
use Rattle.std.specs.Prelude.{get_or}
use Rattle.std.specs.Fork.{ChangesAt}
use Rattle.evp_crew.proofs.apart.in_turn.Given as goal

abbrev pub invariant-loop-k : goal.invariant-loop-k
invariant-loop-k g l =
    ((j : ℕ) (d : g.row.T.Denot) → l.k ≤ j → get_or l.all j d ≡ get_or l.initial.all j d)
    × ((j : ℕ) (d : g.row.T.Denot) → j < l.k
    → ChangesAt g.F.Fn l.f (l.from + j) (get_or l.initial.all j d) (get_or l.all j d))
