-- What each refusal of a graph says of it.
use Rattle.std.specs.Prelude.{ℕ, ◌≢◌, ◌<◌, ◌≤◌, List, length, slice_index}
use Rattle.evp_graph.specs.Shape.{Shape, targets_of, AreStones, HaveTargets, IsSound, IsCycle}
use Rattle.evp_graph.specs.declared.fault.GraphFault.{GraphFault}
use Rattle.evp_graph.specs.declared.fault.GraphFault.TheVariants.{NoStone, NoTarget, Cycle, Memory}

-- the first of the numbers that is none of so many stones stands at k
pub record IsFirstOutside (stones : ℕ) (numbers : List ℕ) (k : ℕ) : Type 0 where
  pub within : k < length numbers
  pub outside : stones ≤ slice_index numbers k
  pub before : (j : ℕ) → j < k → slice_index numbers j < stones

-- the first target that is no stone stands at this position of this stone
pub record IsFirstLost (targets : List (List ℕ)) (stone position : ℕ) : Type 0 where
  pub within : stone < length targets
  pub lost : IsFirstOutside (length targets) (targets_of targets stone) position
  pub before : (j : ℕ) → j < stone → AreStones (length targets) (targets_of targets j)

-- sources are tested first, then targets, then paths; memory is taken behind the first two alone
abbrev pub IsFault : Shape → GraphFault → Type 0
IsFault graph (NoStone k) = IsFirstOutside (length graph.targets) graph.sources k
IsFault graph (NoTarget stone position) =
    AreStones (length graph.targets) graph.sources × IsFirstLost graph.targets stone position
IsFault graph (Cycle stones) =
    AreStones (length graph.targets) graph.sources
    × HaveTargets graph.targets × IsCycle graph.targets stones
IsFault graph Memory = AreStones (length graph.targets) graph.sources × HaveTargets graph.targets

-- each fault but want of memory shows that there is no graph
abbrev pub RulesOut : Shape → GraphFault → Type 0
RulesOut graph fault = fault ≢ Memory → IsSound graph → ⊥
