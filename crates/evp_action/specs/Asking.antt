-- The pairs of formats between which an action converts, and what a cache pass knows afterwards.
use Rattle.std.specs.Prelude.{◌≡◌, ℕ, ◌+◌, ◌≤◌, Bool, true, false, if◌then◌else◌, List, [], ◌∷◌}
use Rattle.std.specs.Prelude.{length, Option, Some, None, IsSome, slice_get}
use Rattle.std.specs.List.{Contains}
use Rattle.evp_action.specs.declared.action.Action.{Action}
use Rattle.evp_action.specs.declared.action.Action.TheVariants.{Filter, Router, Transform, Split}
use Rattle.evp_action.specs.declared.action.Action.TheVariants.{Terminal}
use Rattle.evp_cache.specs.declared.found.Found.{Found}
use Rattle.evp_cache.specs.Known.{Cells, Known, found_for, IsPassOf}
use Rattle.evp_format.specs.Conversion.{Answer, clashes, converted, unfit_at, large_at, conversion}
use Rattle.evp_format.specs.Datum.{Datum}
use Rattle.evp_format.specs.Layout.{Layout}

abbrev pub is_converted : Answer → Bool
is_converted (converted value size) = true
is_converted (clashes path) = false
is_converted (unfit_at path) = false
is_converted (large_at path) = false

-- a value of the one format has a conversion into the other. Both are there
abbrev pub converts : Option Layout → Option Layout → ℕ → Datum → Bool
converts None to limit value = false
converts (Some from) None limit value = false
converts (Some from) (Some to) limit value = is_converted (conversion from to value limit)

-- the numbers of the formats from and into which a transform converts a record: into the second
-- only where it has a conversion into the first
abbrev pub transform_pairs : List Layout → ℕ → ℕ → ℕ → ℕ → Datum → List (ℕ × ℕ)
transform_pairs formats limit format into from value =
    (from, format)
    ∷ (if converts (slice_get formats from) (slice_get formats format) limit value
    then (format, into) ∷ [] else [])

-- those of an action, for a record of the format of this number
abbrev pub pairs_of : List Layout → ℕ → Action → ℕ → Datum → List (ℕ × ℕ)
pairs_of formats limit (Filter format test) from value = (from, format) ∷ []
pairs_of formats limit (Router format choose) from value = (from, format) ∷ []
pairs_of formats limit (Transform format into set) from value =
    transform_pairs formats limit format into from value
pairs_of formats limit Split from value = []
pairs_of formats limit (Terminal format) from value = (from, format) ∷ []

-- the pass is still one of this cache, and what it knew stays
pub record Keeps (cells : Cells) (formats : List Layout) (old new : List Known) : Type 0 where
  pub right : IsPassOf cells formats new
  pub kept : (from to : ℕ) (earlier : Found) → found_for old from to ≡ Some earlier
      → found_for new from to ≡ Some earlier

-- what the pass newly knows are pairs of these
abbrev pub Asks : List (ℕ × ℕ) → List Known → List Known → Type 0
Asks pairs old new =
    (from to : ℕ) → found_for old from to ≡ None → IsSome (found_for new from to)
    → Contains pairs (from, to)

-- of the plans that were built at most so many are for no pair that the pass newly knows
abbrev pub BuildsFor : ℕ → List Known → List Known → ℕ → ℕ → Type 0
BuildsFor spare old new before after = after + length old ≤ before + length new + spare

-- the pass newly knows no pair but this one
abbrev pub AsksOnly : ℕ → ℕ → List Known → List Known → Type 0
AsksOnly from to old new =
    (a b : ℕ) → found_for old a b ≡ None → IsSome (found_for new a b) → (a ≡ from) × (b ≡ to)
