-- What is said of calls at the places of a list, numbered from one on.
use Rattle.std.specs.Prelude.{ℕ, ◌+◌, ◌^◌, ◌<◌, List, length, get_or}
use Rattle.std.specs.Fork.{AcceptsAt, ChangesAt}
use denote.Ref.{MutBor}
use denote.Param.Members.{Shared}

module _ {F T : Type 0} (g : Shared F (ℕ × (MutBor T × Unit {0})) ((Unit {0}) × (MutBor T × Unit {0})))
    (f : F) where
  -- f may be called at each place
  pub record AcceptsFrom (from : ℕ) (xs : List T) : Type 0 where
    pub room : from + length xs < 2 ^ 64
    pub each : (k : ℕ) (d : T) → k < length xs → AcceptsAt g f (from + k) (get_or xs k d)

  -- each of the second list is what a call left at that place of the first
  pub record ChangesFrom (from : ℕ) (xs ys : List T) : Type 0 where
    pub each : (k : ℕ) (d : T) → k < length xs
        → ChangesAt g f (from + k) (get_or xs k d) (get_or ys k d)
