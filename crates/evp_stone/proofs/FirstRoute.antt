-- The route from a source to its stone: it is among the job's, and on it the actor begins.
use Rattle.std.proofs.Common.{◌≡◌, ℕ, ◌<◌, List, [], ◌∷◌, map, length, get_or, Some}
use Rattle.std.proofs.Common.{refl, ap, ◌∙◌, ⊎_elim, arith}
use Rattle.std.proofs.lemmas.List.{length-map}
use Rattle.std.proofs.lemmas.Option.{slice_get-get_or, slice_get_cases}
use Rattle.std.specs.List.{slice_get, Contains}
use Rattle.evp_graph.specs.declared.route.Route.{Route}
use Rattle.evp_graph.specs.Routes.{IsRoute}
use Rattle.evp_stone.specs.declared.source.Source.{Source}
use Rattle.evp_stone.specs.Accounts.{act_of, freezes_of, submitted_of, records_of, arrivals}
use Rattle.evp_stone.specs.Fed.{submitted_in}
use Rattle.evp_stone.specs.Feeding.{HasFed}
use Rattle.evp_stone.specs.Flow.{flow_from}
use Rattle.evp_stone.specs.Job.{IsJob, submits}
use Rattle.evp_stone.specs.JobShape.{JobShape, graph_of}
use Rattle.evp_stone.specs.Port.{Counting}
use Rattle.evp_stone.specs.Route.{steps_of}
use Rattle.evp_stone.specs.Rounds.{Step, arrivals_of}
use Rattle.evp_stone.specs.Starting.{IsAlong}
use Rattle.evp_stone.proofs.Coming.{sum_next, rounds_come}
use Rattle.evp_stone.proofs.Filed.{length-records}
use Rattle.evp_stone.proofs.Routes.{steps}

pub first_there : (job : JobShape) (is : IsJob job) (source : ℕ) → source < length job.sources → (k : ℕ) × IsAlong job source [] k
first_there job is source below =
    let stones = map (λ (s : Source). s.stone) job.sources in
    let route : Route = record { source = source; positions = []; stones = get_or stones source 0 ∷ [] } in
    let long = length-map job.sources (λ (s : Source). s.stone) in
    let visits : IsRoute (graph_of job) route = (slice_get-get_or stones source 0 (omega arith), tt) in
    let there : Contains job.routes route = (is.listed.each route).0 visits in (
      there.0,
      record {
        route = route;
        there = slice_get-get_or job.routes there.0 route there.1 ∙ ap (λ (r : Route). Some r) there.2;
        from = refl;
        along = refl;
      },
    )

no_steps : (stones : List ℕ) → steps stones [] ≡ []
no_steps [] = refl
no_steps (s ∷ stones) = refl

-- the actor before its first turn
pub opens : (job : JobShape) (is : IsJob job) (source number : ℕ) → source < length job.sources → IsAlong job source [] number
    → (given : Counting) → given number ≡ Some 0
    → HasFed job given (record { source = source; route = number; given = 0; round = 0; left = submitted_in job source 0; index = 0 })
opens job is source number below first given count =
    let route = first.route in
    let numbers = submits source job.rounds in
    let none : steps_of route ≡ [] = ap (steps route.stones) first.along ∙ no_steps route.stones in
    let come : arrivals job route ≡ submitted_of job source =
    ap (λ (l : List Step). arrivals_of (act_of job) (freezes_of job) (submitted_of job route.source) l) none
    ∙ ap (submitted_of job) first.from in
    record {
      route = route;
      there = first.there;
      source = first.from;
      first = first.along;
      count = count;
      within = omega arith;
      rest = ap (flow_from 0) come ∙ rounds_come 0 numbers (records_of job source);
      enough = ⊎_elim
          (λ e. let file = e.0 in
          let at : slice_get job.sources source ≡ Some file = e.2 in
          let all = is.submitted source file at in
          let long = length-records job source file at in
          let sum = sum_next numbers 0 in
          omega arith)
          (λ e. absurd (let past = e.0 in omega arith))
          (slice_get_cases job.sources source).1;
    }
