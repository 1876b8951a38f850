-- A fault shows that the sources and targets are no graph.
use Rattle.std.proofs.Common.{ℕ, ◌<◌, List, [], ◌∷◌, length, get_or, refl, arith}
use Rattle.evp_graph.specs.Shape.{Shape, AreStones, IsSound, IsCycle, targets_of}
use Rattle.evp_graph.specs.Fault.{IsFirstOutside, IsFault, RulesOut}
use Rattle.evp_graph.specs.declared.fault.GraphFault.{GraphFault}
use Rattle.evp_graph.specs.declared.fault.GraphFault.TheVariants.{NoStone, NoTarget, Cycle, Memory}

outside_no_stones : (stones : ℕ) (numbers : List ℕ) (k : ℕ) → IsFirstOutside stones numbers k → AreStones stones numbers → ⊥
outside_no_stones stones numbers k h all = let n : get_or numbers k 0 < stones = all k 0 h.within in let m = h.outside in omega arith

no_cycle : (graph : Shape) (stones : List ℕ) → IsCycle graph.targets stones → IsSound graph → ⊥
no_cycle graph [] h sound = h
no_cycle graph (first ∷ others) h sound = sound.acyclic first (others, h.0)

pub RulesOut-from_fault : (graph : Shape) (fault : GraphFault) → IsFault graph fault → RulesOut graph fault
RulesOut-from_fault graph (NoStone k) h n sound = outside_no_stones (length graph.targets) graph.sources k h sound.sources
RulesOut-from_fault graph (NoTarget stone position) h n sound = outside_no_stones (length graph.targets)
    (targets_of graph.targets stone) position h.1.lost (sound.targets stone [] h.1.within)
RulesOut-from_fault graph (Cycle stones) h n sound = no_cycle graph stones h.2 sound
RulesOut-from_fault graph Memory h n sound = n refl
