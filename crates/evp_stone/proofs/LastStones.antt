-- The last stone of a route is one of the job's stones.
use Rattle.std.proofs.Common.{◌≡◌, ℕ, ◌<◌, List, [], ◌∷◌, length, Some, subst}
use Rattle.std.proofs.lemmas.List.{length-map}
use Rattle.std.proofs.lemmas.List.Elements.{All-contains}
use Rattle.std.proofs.lemmas.Option.{get_or_from_slice_get, slice_get_within}
use Rattle.std.specs.List.{Contains, slice_get}
use Rattle.evp_graph.specs.declared.route.Route.{Route}
use Rattle.evp_graph.specs.Routes.{Steps, Visits}
use Rattle.evp_graph.specs.Shape.{Shape, HaveTargets, IsSound}
use Rattle.evp_graph.proofs.Paths.{target_below}
use Rattle.evp_stone.specs.declared.stone.Stone.{Stone}
use Rattle.evp_stone.specs.Job.{IsJob}
use Rattle.evp_stone.specs.JobShape.{JobShape, graph_of}
use Rattle.evp_stone.specs.Port.{Counting, LeadsTo}
use Rattle.evp_stone.specs.Route.{last_of, last_stone}
use Rattle.evp_stone.specs.State.{RouteWork, StoneWork, HasState}
use Rattle.evp_stone.proofs.Apart.{its_last}
use Rattle.evp_stone.proofs.Routes.{is_route_at}

last_below : (targets : List (List ℕ)) → HaveTargets targets → (a : ℕ) (positions stones : List ℕ) → a < length targets
    → Steps targets a positions stones → last_of (a ∷ stones) < length targets
last_below targets have a [] [] below steps = below
last_below targets have a [] (b ∷ stones) below steps = absurd steps
last_below targets have a (p ∷ positions) [] below steps = absurd steps
last_below targets have a (p ∷ positions) (b ∷ stones) below steps =
    last_below targets have b positions stones (target_below targets have a p b below steps.0) steps.1

visits_last : (graph : Shape) → IsSound graph → (source : ℕ) (positions stones : List ℕ) → Visits graph source positions stones
    → last_of stones < length graph.targets
visits_last graph sound source positions [] visits = absurd visits
visits_last graph sound source positions (first ∷ others) visits =
    let there : Contains graph.sources first =
    (source, slice_get_within graph.sources source first visits.0, get_or_from_slice_get graph.sources source first first visits.0) in
    last_below graph.targets sound.targets first positions others
    (All-contains (λ n. n < length graph.targets) graph.sources first sound.sources there) visits.1

pub last_stone_below : (job : JobShape) → IsJob job → (number : ℕ) (route : Route) → slice_get job.routes number ≡ Some route
    → last_stone route < length job.stones
last_stone_below job is number route there =
    let visits = is_route_at (graph_of job) job.routes number route is.listed there in
    subst (λ n. last_stone route < n) (length-map job.stones (λ (s : Stone). s.targets))
    (visits_last (graph_of job) is.sound route.source route.positions route.stones visits)

pub leads_below : (job : JobShape) → IsJob job → (number stone : ℕ) → LeadsTo job number stone → stone < length job.stones
leads_below job is number stone leads =
    subst (λ (n : ℕ). n < length job.stones) leads.last (last_stone_below job is number leads.route leads.there)

-- a stone that works on a route is one of them
pub works_below : (job : JobShape) → IsJob job → (taken given : Counting) (work : StoneWork) → HasState job taken given work
    → (place : ℕ) (here : RouteWork) → slice_get work.routes place ≡ Some here → work.stone < length job.stones
works_below job is taken given work state place here at =
    let was = state.each place here at in
    subst (λ (n : ℕ). n < length job.stones) (its_last job work.stone work.routes place here was.route state.numbers at was.there)
    (last_stone_below job is here.route was.route was.there)
