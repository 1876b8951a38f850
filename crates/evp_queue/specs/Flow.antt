-- What entries stand for: each for one fact, at its position in the flow of its route.
use Rattle.std.specs.Prelude.{◌≡◌, ℕ, ◌+◌, ◌≤◌, ◌==◌, List, [], ◌∷◌, length, take, drop, filter}
use Rattle.std.specs.Prelude.{slice_get, Some}

module _ {E : Type 0} (route_of : E → ℕ) where
  -- the entries of a route, in order
  abbrev pub entries_of : ℕ → List E → List E
  entries_of route entries = filter (λ entry. route_of entry == route) entries

module _ {E Fact : Type 0} (position_of : E → ℕ) (stands_for : E → Fact → Type 0) where
  -- the entries stand for these facts, one for each and in order, at the positions from this one
  -- on
  abbrev pub StandFor : ℕ → List E → List Fact → Type 0
  StandFor position [] [] = Unit {0}
  StandFor position [] (fact ∷ facts) = ⊥
  StandFor position (entry ∷ entries) [] = ⊥
  StandFor position (entry ∷ entries) (fact ∷ facts) =
      (position_of entry ≡ position) × stands_for entry fact
      × StandFor (position + 1) entries facts

-- the facts from one place up to another
abbrev pub between : {Fact : Type 0} → ℕ → ℕ → List Fact → List Fact
between from to facts = drop from (take to facts)

module _ {E W Fact : Type 0} (route_of position_of : E → ℕ) (flow : W → ℕ → List Fact)
    (stands_for : E → Fact → Type 0) where
  -- the entry stands for the fact at its position in the flow of its route
  abbrev pub IsPlaced : W → E → Type 0
  IsPlaced whole entry =
      (fact : Fact) × (slice_get (flow whole (route_of entry)) (position_of entry) ≡ Some fact)
      × stands_for entry fact

  -- the entries of a route stand for its flow from the taker's count to the giver's
  pub record Carries (whole : W) (route taken given : ℕ) (entries : List E) : Type 0 where
    pub behind : taken ≤ given
    pub within : given ≤ length (flow whole route)
    pub stand : StandFor position_of stands_for taken (entries_of route_of route entries)
        (between taken given (flow whole route))
