use Rattle.std.proofs.Common.{◌≡◌, length}
use Rattle.evp_expr.specs.Standing.{StandsAt}
use Rattle.evp_expr.specs.Steps.{start, state}
use Rattle.evp_expr.proofs.parser.read.Given as goal
use Rattle.evp_expr.proofs.Running.{run}

-- reading what is left from here ends where reading all from the start does, and the state can be reached
abbrev pub invariant-loop-placed : goal.invariant-loop-placed
invariant-loop-placed l =
    (run start l.initial.tokens.items ≡ run (state l.mode l.parser.frames l.parser.trees) l.tokens.items)
    × StandsAt l.mode l.parser.frames l.parser.trees

abbrev pub decreases-loop-placed : goal.decreases-loop-placed
decreases-loop-placed l = length l.tokens.items
