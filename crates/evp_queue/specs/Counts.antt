-- The counts of a pass: its routes, and for each the number of entries that were given or taken
-- on it.
use Rattle.std.specs.Prelude.{◌≡◌, ℕ, ◌+◌, ◌==◌, Bool, true, false, not, if◌then◌else◌, List, []}
use Rattle.std.specs.Prelude.{◌∷◌, map, filter, Option, Some, None}

abbrev pub Counts : Type 0
Counts = List (ℕ × ℕ)

-- the count of a route; none where it isn't a route of the pass
abbrev pub count_at : ℕ → Counts → Option ℕ
count_at route [] = None
count_at route (c ∷ counts) = if c.0 == route then Some c.1 else count_at route counts

abbrev pub IsRoute : ℕ → Counts → Type 0
IsRoute route counts = (count : ℕ) × (count_at route counts ≡ Some count)

-- each of these routes, with no entry yet
abbrev pub zeroed : List ℕ → Counts
zeroed routes = map (λ route. (route, 0)) routes

-- one entry more on this route
abbrev pub raised : ℕ → Counts → Counts
raised route [] = []
raised route (c ∷ counts) = (c.0, if c.0 == route then c.1 + 1 else c.1) ∷ raised route counts

abbrev pub is_among : ℕ → List ℕ → Bool
is_among route [] = false
is_among route (first ∷ routes) = if first == route then true else is_among route routes

-- the counts of those routes that are among these
abbrev pub those : List ℕ → Counts → Counts
those routes counts = filter (λ c. is_among c.0 routes) counts

-- the counts of the other routes
abbrev pub others : List ℕ → Counts → Counts
others routes counts = filter (λ c. not (is_among c.0 routes)) counts
