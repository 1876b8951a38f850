-- The rule of a rota, over the seats in it and what each of its passes knows.
use Rattle.std.specs.Prelude.{◌≡◌, ◌⊎◌, ℕ, List, [], ◌∷◌, All, Option, Some, None}
use mathlib.Core.Option.{some}
use lib.ListN.{get_elem?}
use Rattle.evp_crew.specs.declared.three.Three.{Three}
use Rattle.evp_crew.specs.Seat.{SeatShape, IsOf}

-- a seat of this job, cache and crew
abbrev pub IsOfThree : Three → SeatShape → Type 0
IsOfThree three seat = IsOf three.job three.cache three.crew seat

-- a seat for whoever knows this
abbrev pub IsServed : Option Three → SeatShape → Type 0
IsServed None seat = ⊥
IsServed (Some three) seat = IsOfThree three seat

-- all passes know the same job, cache and crew, and all seats are of these
pub record Serves (seats : List SeatShape) (passes : List (Option Three)) : Type 0 where
  pub three : Three
  pub known : (pass : ℕ) (v : Option Three) → get_elem? passes pass ≡ some v → v ≡ Some three
  pub seats_are : All (IsOfThree three) seats

-- the rota has one pass and no seat, or it is open and keeps its rule
abbrev pub Kept : List SeatShape → List (Option Three) → Type 0
Kept seats passes = ((seats ≡ []) × (passes ≡ None ∷ [])) ⊎ Serves seats passes

abbrev pub Took : Option Three → SeatShape → Option Three → Type 0
Took v seat w = IsServed v seat × (w ≡ v)

-- at one moment the rota kept its rule with these seats, and one of its passes knew this
abbrev pub Seen : Option Three → List SeatShape → Type 0
Seen v seats = (passes : List (Option Three)) × (pass : ℕ) × Serves seats passes
    × (get_elem? passes pass ≡ some v)
