-- A graph's sources and stones, and the paths along targets.
use Rattle.std.specs.Prelude.{ℕ, ◌<◌, ◌≤◌, ◌≢◌, List, [], ◌∷◌, length, All, AllPairs, Contains}
use Rattle.std.specs.Prelude.{slice_index_or}

-- what a graph is: the stone of each source, and the targets of each stone by position
pub record Shape : Type 0 where
  pub sources : List ℕ
  pub targets : List (List ℕ)

abbrev pub shape : List ℕ → List (List ℕ) → Shape
shape sources targets = record { sources = sources; targets = targets }

-- the targets of a stone by position; a number that is no stone has none
abbrev pub targets_of : List (List ℕ) → ℕ → List ℕ
targets_of targets stone = slice_index_or targets stone []

abbrev pub IsTarget : List (List ℕ) → ℕ → ℕ → Type 0
IsTarget targets a b = Contains (targets_of targets a) b

-- a path along targets from a to b, which visits these stones in between
abbrev pub Leads : List (List ℕ) → ℕ → List ℕ → ℕ → Type 0
Leads targets a [] b = IsTarget targets a b
Leads targets a (c ∷ between) b = IsTarget targets a c × Leads targets c between b

abbrev pub Reaches : List (List ℕ) → ℕ → ℕ → Type 0
Reaches targets a b = (between : List ℕ) × Leads targets a between b

-- no stone reaches itself
abbrev pub IsAcyclic : List (List ℕ) → Type 0
IsAcyclic targets = (stone : ℕ) → Reaches targets stone stone → ⊥

-- each of the numbers is one of so many stones
abbrev pub AreStones : ℕ → List ℕ → Type 0
AreStones stones numbers = All (λ n. n < stones) numbers

abbrev pub HaveTargets : List (List ℕ) → Type 0
HaveTargets targets = All (AreStones (length targets)) targets

-- each source's stone and each target is a stone, and there is no cycle
pub record IsSound (graph : Shape) : Type 0 where
  pub sources : AreStones (length graph.targets) graph.sources
  pub targets : HaveTargets graph.targets
  pub acyclic : IsAcyclic graph.targets

-- stones that differ, each a target of the one before, the first a target of the last, the smallest
-- first
abbrev pub IsCycle : List (List ℕ) → List ℕ → Type 0
IsCycle targets [] = ⊥
IsCycle targets (first ∷ others) =
    Leads targets first others first
    × AllPairs ◌≢◌ (first ∷ others) × All (λ stone. first ≤ stone) others
