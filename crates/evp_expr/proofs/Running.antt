-- Reading token by token: where it ends.
use Rattle.std.specs.Prelude.{List, [], ◌∷◌, true, false, nat_lt, Option, Some, None}
use Rattle.evp_expr.specs.declared.token.Placed.{Placed}
use Rattle.evp_expr.specs.declared.fault.ExprFault.{ExprFault}
use Rattle.evp_expr.specs.declared.fault.ExprFault.TheVariants as fault
use Rattle.evp_expr.specs.Grammar.{most_levels}
use Rattle.evp_expr.specs.Levels.{levels}
use Rattle.evp_expr.specs.Lexing.{Scan, Tokens, Faulty}
use Rattle.evp_expr.specs.Standing.{StandsAt}
use Rattle.evp_expr.specs.Steps.{State, step_at, finish_at}
use Rattle.evp_expr.specs.Tree.{Tree}

abbrev pub step : State → Placed → Option State
step s p = step_at s.mode s.frames s.trees p.at p.token

abbrev pub finish : State → Option Tree
finish s = finish_at s.mode s.frames s.trees

abbrev pub Stands : State → Type 0
Stands s = StandsAt s.mode s.frames s.trees

-- where reading some tokens ends: in a state, or at the first token that is unexpected or too deep
pub data Ending : Type 0 where
  Reached : State → Ending
  Stopped : ExprFault → Ending

abbrev pub run : State → List Placed → Ending
run s [] = Reached s
run s (p ∷ others) =
    elim (step s p) [
      | Some n ↦ elim (nat_lt most_levels (levels n.frames)) [ true ↦ Stopped (fault.Deep p.at) | false ↦ run n others ]
      | None ↦ Stopped (fault.Unexpected p.at)
    ]

-- reading what was scanned
abbrev pub read_on : State → Scan → Ending
read_on s (Tokens tokens) = run s tokens
read_on s (Faulty f) = Stopped f

-- the tree where the tokens end in a state
abbrev pub tree_at : Ending → Option Tree
tree_at (Reached s) = finish s
tree_at (Stopped f) = None
