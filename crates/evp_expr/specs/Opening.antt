-- What opening a frame may answer.
use Rattle.std.specs.Prelude.{◌≡◌, ℕ, ◌<◌, List, [], ◌∷◌, Option, Some, None, Result, Ok, Err}
use Rattle.evp_expr.specs.declared.fault.ExprFault.{ExprFault}
use Rattle.evp_expr.specs.declared.fault.ExprFault.TheVariants as fault
use Rattle.evp_expr.specs.declared.state.Frame.{Frame}
use Rattle.evp_expr.specs.declared.state.Mode.{Mode}
use Rattle.evp_expr.specs.Levels.{levels}
use Rattle.evp_expr.specs.Tree.{Tree}
use Rattle.evp_expr.specs.Nodes.{last_tree}
use Rattle.evp_expr.specs.Grammar.{most_levels}
use Rattle.evp_expr.specs.Steps.{State, state}

-- opening frames that become these fails for want of memory, or where they are too many levels
abbrev pub OpeningFault : {A : Type 0} → ℕ → List Frame → Result A ExprFault → Type 0
OpeningFault at frames (Ok x) = Unit {0}
OpeningFault at frames (Err fault.Memory) = Unit {0}
OpeningFault at frames (Err (fault.Deep a)) = (a ≡ at) × (most_levels < levels frames)
OpeningFault at frames (Err _) = ⊥

-- The answer for a token at this place, whose next state is this: the state, or the fault that the
-- place has. With no memory nothing is said.
abbrev pub Answers : ℕ → Option State → Result Mode ExprFault → List Frame → List Tree → Type 0
Answers at next (Ok m) fs ts = next ≡ Some (state m fs ts)
Answers at next (Err fault.Memory) fs ts = Unit {0}
Answers at next (Err (fault.Unexpected a)) fs ts = (next ≡ None) × (a ≡ at)
Answers at next (Err (fault.Deep a)) fs ts =
    (s : State) × (next ≡ Some s) × (most_levels < levels s.frames) × (a ≡ at)
Answers at next (Err _) fs ts = ⊥

-- the only fault is want of memory
abbrev pub MemoryAlone : {A : Type 0} → Result A ExprFault → Type 0
MemoryAlone (Ok x) = Unit {0}
MemoryAlone (Err fault.Memory) = Unit {0}
MemoryAlone (Err _) = ⊥

-- the answer at the end of the text: the tree, or that something is missing there
abbrev pub FinalAnswers : ℕ → Option Tree → Result Tree ExprFault → Type 0
FinalAnswers end tree (Ok t) = tree ≡ Some t
FinalAnswers end tree (Err fault.Memory) = Unit {0}
FinalAnswers end tree (Err (fault.Unexpected at)) = (tree ≡ None) × (at ≡ end)
FinalAnswers end tree (Err _) = ⊥

-- the answer of closing all: the tree stands ready alone
abbrev pub ClosingAnswers : ℕ → Option Tree → Result (Unit {0}) ExprFault → List Tree → Type 0
ClosingAnswers end tree (Ok x) ts = (tree ≡ Some (last_tree ts)) × (ts ≡ last_tree ts ∷ [])
ClosingAnswers end tree (Err fault.Memory) ts = Unit {0}
ClosingAnswers end tree (Err (fault.Unexpected at)) ts = (tree ≡ None) × (at ≡ end)
ClosingAnswers end tree (Err _) ts = ⊥
