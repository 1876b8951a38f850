-- What a job's rounds are to one of its routes.
use Rattle.std.proofs.Common.{◌≡◌, ◌≢◌, ℕ, ◌<◌, List, ◌++◌, length, Some, sym, ◌∙◌, arith}
use Rattle.std.proofs.lemmas.Option.{slice_get_within}
use Rattle.std.specs.List.{slice_get, AllPairs}
use Rattle.evp_graph.specs.declared.route.Route.{Route}
use Rattle.evp_stone.specs.Accounts.{arrivals, rounds_of, freezes_of}
use Rattle.evp_stone.specs.Carried.{Carried}
use Rattle.evp_stone.specs.Job.{IsJob}
use Rattle.evp_stone.specs.JobShape.{JobShape, graph_of}
use Rattle.evp_stone.specs.Route.{last_stone, steps_of}
use Rattle.evp_stone.specs.Rounds.{round_of}
use Rattle.evp_stone.specs.State.{is_frozen, held_before}
use Rattle.evp_stone.proofs.Begins.{length-arrivals}
use Rattle.evp_stone.proofs.Routes.{HasEnds, has_ends, is_route_at}
use Rattle.evp_stone.proofs.Whole.{each, length-came}
use Rattle.evp_stone.proofs.Works.{round_at}

module _ (job : JobShape) (is : IsJob job) where
  pub routes_apart : AllPairs ◌≢◌ job.routes
  routes_apart = is.listed.once

  pub ends_at : (number : ℕ) (route : Route) → slice_get job.routes number ≡ Some route → HasEnds route
  ends_at number route at = has_ends (graph_of job) route (is_route_at (graph_of job) job.routes number route is.listed at)

module _ (job : JobShape) (route : Route) (ends : HasEnds route) where
  pub length-arrive : length (arrivals job route) ≡ length job.rounds
  length-arrive = length-arrivals _ (freezes_of job) (length job.rounds) (each job route ends) (steps_of route) _
      (length-came job route ends)

  -- a round of a route's last stone, by what comes in it
  pub round_there : (round : ℕ) (came : List Carried) → slice_get (arrivals job route) round ≡ Some came
      → slice_get (rounds_of job route) round
      ≡ Some (round_of (is_frozen job (last_stone route) round) (held_before job route round ++ came))
  round_there round came at =
      round_at _ (freezes_of job (last_stone route)) (arrivals job route) round came
      (each job route ends (last_stone route) ∙ sym length-arrive) at

  pub round_below : (round : ℕ) (came : List Carried) → slice_get (arrivals job route) round ≡ Some came → round < length job.rounds
  round_below round came at = let within = slice_get_within (arrivals job route) round came at in
      let long = length-arrive in omega arith
