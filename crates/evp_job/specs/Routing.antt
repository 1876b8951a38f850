-- What calls answer of a graph and its routes; of want of memory nothing is said.
use Rattle.std.specs.Prelude.{◌≡◌, ◌≢◌, ◌≤◌, ◌<◌, length, List, Result, Ok, Err}
use Rattle.evp_graph.specs.Fault.{IsFault}
use Rattle.evp_graph.specs.Routes.{ListsRoutes, routes_of}
use Rattle.evp_graph.specs.Shape.{Shape, IsSound}
use Rattle.evp_graph.specs.declared.fault.GraphFault.TheVariants as graph
use Rattle.evp_graph.specs.declared.route.Route.{Route}
use Rattle.evp_job.specs.declared.fault.JobFault.{JobFault}
use Rattle.evp_job.specs.declared.fault.JobFault.TheVariants as fault

abbrev pub HasGraph : Shape → Result Shape JobFault → Type 0
HasGraph shape (Ok made) = IsSound shape × (made ≡ shape)
HasGraph shape (Err (fault.Graph cause)) = (cause ≢ graph.Memory) × IsFault shape cause
HasGraph shape (Err fault.Memory) = Unit {0}
HasGraph shape (Err cause) = ⊥

abbrev pub HasRoutes : Shape → Result (List Route) JobFault → Type 0
HasRoutes shape (Ok list) =
    IsSound shape × (length (routes_of shape) ≤ 1024) × (list ≡ routes_of shape)
    × ListsRoutes shape list
HasRoutes shape (Err (fault.Graph cause)) = (cause ≢ graph.Memory) × IsFault shape cause
HasRoutes shape (Err fault.Routes) = IsSound shape × (1024 < length (routes_of shape))
HasRoutes shape (Err fault.Memory) = Unit {0}
HasRoutes shape (Err cause) = ⊥
