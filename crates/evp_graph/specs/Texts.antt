-- The texts of faults.
use Rattle.std.specs.Prelude.{ℕ, List, ◌∷◌, ◌++◌, codes, decimal}
use Rattle.std.specs.List.{flat_map}
use Rattle.evp_graph.specs.declared.fault.GraphFault.{GraphFault}
use Rattle.evp_graph.specs.declared.fault.GraphFault.TheVariants as graph
use Rattle.evp_graph.specs.declared.fault.RouteFault.{RouteFault}
use Rattle.evp_graph.specs.declared.fault.RouteFault.TheVariants as routes

-- a stone behind a blank
abbrev pub blank_and_stone : ℕ → List ℕ
blank_and_stone stone = 32 ∷ decimal stone

-- why there is no graph
abbrev pub graph_fault_text : GraphFault → List ℕ
graph_fault_text (graph.NoTarget stone position) =
    codes "no target " ++ decimal position ++ codes " of stone " ++ decimal stone
graph_fault_text (graph.Cycle stones) = codes "cycle" ++ flat_map blank_and_stone stones
graph_fault_text (graph.NoStone source) = codes "no stone of source " ++ decimal source
graph_fault_text graph.Memory = codes "memory"

-- why there is no list of routes
abbrev pub route_fault_text : RouteFault → List ℕ
route_fault_text routes.TooMany = codes "too many routes"
route_fault_text routes.Memory = codes "memory"
