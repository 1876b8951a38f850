-- Where the work on a route stands among that of a stone.
use Rattle.std.specs.Prelude.{◌≡◌, ℕ, ◌<◌, ◌≤◌, List, length, map, Some, slice_get, get_or}
use Rattle.evp_stone.specs.declared.route_work.RouteWork as declared

-- numbers don't fall along a list
abbrev pub Rises : List ℕ → Type 0
Rises xs = (i j : ℕ) → i ≤ j → j < length xs → get_or xs i 0 ≤ get_or xs j 0

-- a number is among them
pub record IsIn (xs : List ℕ) (n : ℕ) : Type 0 where
  pub at : ℕ
  pub within : at < length xs
  pub is : get_or xs at 0 ≡ n

-- the numbers of the routes
abbrev pub numbers_in : List declared.RouteWork → List ℕ
numbers_in works = map (λ (work : declared.RouteWork). work.route) works

-- the work on the route is at this place
pub record StandsAt (works : List declared.RouteWork) (route place : ℕ) : Type 0 where
  pub work : declared.RouteWork
  pub here : slice_get works place ≡ Some work
  pub on : work.route ≡ route
