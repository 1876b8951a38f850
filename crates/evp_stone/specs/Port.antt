-- What a port's calls do.
use Rattle.std.specs.Prelude.{◌≡◌, ◌≢◌, ℕ, ◌+◌, ◌-◌, ◌^◌, ◌<◌, ◌⊎◌, Option, Some, slice_get}
use Rattle.evp_graph.specs.declared.route.Route.{Route}
use Rattle.evp_queue.specs.Flow.{IsPlaced}
use Rattle.evp_queue.specs.declared.pass.Given.{Given as Back}
use Rattle.evp_queue.specs.declared.pass.Given.TheVariants.{Full, Memory}
use Rattle.evp_stone.specs.declared.entry.Entry.{Entry}
use Rattle.evp_stone.specs.Entries.{flow, stands_for, route_of, position_of}
use Rattle.evp_stone.specs.JobShape.{JobShape}
use Rattle.evp_stone.specs.Route.{last_stone}

-- for each route of a port, how many entries were taken or given on it
abbrev pub Counting : Type 0
Counting = ℕ → Option ℕ

-- the count rose, or it stands at its last value
abbrev pub Rose : ℕ → ℕ → Type 0
Rose old new = (old < new) ⊎ (new ≡ 2 ^ 64 - 1)

-- the route's last stone is this one
pub record LeadsTo (job : JobShape) (number target : ℕ) : Type 0 where
  pub route : Route
  pub there : slice_get job.routes number ≡ Some route
  pub last : last_stone route ≡ target

-- one entry more on this route, and no other change
pub record OneMore (old new : Counting) (entry : Entry) : Type 0 where
  pub was : old (route_of entry) ≡ Some (position_of entry)
  pub here : new (route_of entry) ≡ Some (position_of entry + 1)
  pub others : (route : ℕ) → route ≢ route_of entry → new route ≡ old route

-- the entry stands for its place in its flow
abbrev pub IsPlacedIn : JobShape → Entry → Type 0
IsPlacedIn job entry = IsPlaced route_of position_of flow stands_for job entry

-- the entry may be given: it is for this stone, its position is the route's count, and it stands
-- for its place in the flow
pub record IsNext (is_of : JobShape → Type 0) (given : Counting) (target : ℕ) (entry : Entry) : Type
    0 where
  pub job : JobShape
  pub of : is_of job
  pub leads : LeadsTo job (route_of entry) target
  pub next : given (route_of entry) ≡ Some (position_of entry)
  pub placed : IsPlacedIn job entry

-- the entry was the next of its route
pub record Taken (is_of : JobShape → Type 0) (old new : Counting) (entry : Entry) : Type 0 where
  pub one : OneMore old new entry
  pub placed : (job : JobShape) → is_of job → IsPlacedIn job entry

pub record NoneTaken (old new : Counting) (empties later : ℕ) : Type 0 where
  pub same : (route : ℕ) → new route ≡ old route
  pub rose : Rose empties later

abbrev pub Given : Counting → Counting → Entry → Type 0
Given = OneMore

-- the entry is handed back
pub record NotGiven (old new : Counting) (target : ℕ) (entry : Entry) (fulls later : ℕ)
    (back : Back Entry) : Type 0 where
  pub same : (route : ℕ) → new route ≡ old route
  pub cause : ((back ≡ Full entry) × Rose fulls later) ⊎ (back ≡ Memory entry)
