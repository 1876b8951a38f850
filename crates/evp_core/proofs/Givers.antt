-- The actor that gives on a route isn't closed while more is to come on it.
use Rattle.std.proofs.Common.{◌≡◌, ℕ, ◌<◌, length, Some, sym, ◌∙◌, arith}
use Rattle.std.proofs.lemmas.Option.{same_Some}
use Rattle.std.specs.List.{slice_get}
use Rattle.evp_graph.specs.declared.route.Route.{Route}
use Rattle.evp_stone.specs.Accounts.{flow_of}
use Rattle.evp_stone.specs.Actor.{Role, HasRole}
use Rattle.evp_stone.specs.Closed.{IsClosed}
use Rattle.evp_stone.specs.Job.{IsJob}
use Rattle.evp_stone.specs.JobShape.{JobShape}
use Rattle.evp_stone.specs.Opening.{GivesOn}
use Rattle.evp_stone.specs.Port.{Counting}
use Rattle.evp_stone.proofs.GaveAll.{gave}

-- of the route so many were given, and more is to come
pub record IsShort (job : JobShape) (given : Counting) (number : ℕ) (route : Route) : Type 0 where
  pub there : slice_get job.routes number ≡ Some route
  pub count : ℕ
  pub gives : given number ≡ Some count
  pub below : count < length (flow_of job route)

pub unclosed : (job : JobShape) → IsJob job → (taken given : Counting) (number : ℕ) (route : Route) → IsShort job given number route
    → (role : Role) → HasRole job taken given role → GivesOn job role route → IsClosed job role → ⊥
unclosed job is taken given number route short role has gives closed =
    let all = gave job is taken given number route short.there role has closed gives in
    let same = same_Some short.count (length (flow_of job route)) (sym short.gives ∙ all) in
    let below = short.below in
    absurd (omega arith)
