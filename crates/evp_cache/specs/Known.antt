-- What a pass knows of a cache.
use Rattle.std.specs.Prelude.{◌≡◌, ◌⊎◌, ℕ, ◌+◌, ◌*◌, ◌≤◌, ◌==◌, Bool, false, List, [], ◌∷◌, ◌++◌}
use Rattle.std.specs.Prelude.{Option, Some, None, IfSome, length, is_some, slice_get, IsSome}
use Rattle.std.specs.Prelude.{if◌then◌else◌}
use Rattle.std.specs.List.{All}
use Rattle.evp_format.specs.Layout.{Layout}
use Rattle.evp_cache.specs.declared.found.Found.{Found}
use Rattle.evp_cache.specs.Finding.{IsFound}

-- how many formats are receivers, and the names of the cells: one for each format and receiver
pub record Cells : Type 0 where
  pub declared : ℕ
  pub names : List ℕ

-- a pair that a pass knows: the numbers of its two formats, the name of the cell that keeps what
-- was found for it, unless the pass does so itself, and what was found
pub record Known : Type 0 where
  pub from : ℕ
  pub to : ℕ
  pub cell : Option ℕ
  pub found : Found

abbrev pub known : ℕ → ℕ → Option ℕ → Found → Known
known from to cell found = record { from = from; to = to; cell = cell; found = found }

abbrev pub is_pair : ℕ → ℕ → Known → Bool
is_pair from to k = if k.from == from then k.to == to else false

-- what is known for the pair
abbrev pub found_for : List Known → ℕ → ℕ → Option Found
found_for [] from to = None
found_for (k ∷ ks) from to = if is_pair from to k then Some k.found else found_for ks from to

-- no pair is there twice
abbrev pub AreApart : List Known → Type 0
AreApart [] = Unit {0}
AreApart (k ∷ ks) = (found_for ks k.from k.to ≡ None) × AreApart ks

-- the name is that of the pair's cell
abbrev pub IsCellOf : Cells → ℕ → ℕ → ℕ → Type 0
IsCellOf cells from to name = slice_get cells.names (from * cells.declared + to) ≡ Some name

-- the cells are those for these formats: one for each and each of the receivers, which are the
-- first of them
pub record IsCacheOf (cells : Cells) (formats : List Layout) : Type 0 where
  pub receivers : cells.declared ≤ length formats
  pub whole : length cells.names ≡ length formats * cells.declared

-- what was found is right for the formats of these numbers
pub record IsFoundFor (formats : List Layout) (from to : ℕ) (found : Found) : Type 0 where
  pub sender : Layout
  pub receiver : Layout
  pub sender_is : slice_get formats from ≡ Some sender
  pub receiver_is : slice_get formats to ≡ Some receiver
  pub right : IsFound sender receiver found

-- a pair is known by its cell, and rightly
pub record IsRight (cells : Cells) (formats : List Layout) (k : Known) : Type 0 where
  pub cell : IfSome k.cell (IsCellOf cells k.from k.to)
  pub found : IsFoundFor formats k.from k.to k.found

-- a pass of this cache that knows what is right for these formats
pub record IsPassOf (cells : Cells) (formats : List Layout) (ks : List Known) : Type 0 where
  pub each : All (IsRight cells formats) ks
  pub apart : AreApart ks

-- the pair is there, at this place
pub record HasAt (ks : List Known) (place from to : ℕ) : Type 0 where
  pub entry : Known
  pub there : slice_get ks place ≡ Some entry
  pub from_is : entry.from ≡ from
  pub to_is : entry.to ≡ to
  pub first : found_for ks from to ≡ Some entry.found

-- what a pass knows after it was asked for a pair and answered what was found: that, all that it
-- knew, and no pair beside
pub record Learned (old new : List Known) (from to : ℕ) (found : Found) : Type 0 where
  pub knows : found_for new from to ≡ Some found
  pub kept : (a b : ℕ) (earlier : Found) → found_for old a b ≡ Some earlier
      → found_for new a b ≡ Some earlier
  pub alone : (a b : ℕ) → found_for old a b ≡ None → IsSome (found_for new a b)
      → (a ≡ from) × (b ≡ to)
  pub count : length new ≡ length old + (if is_some (found_for old from to) then 0 else 1)

-- the pair is at this place: it was known, or is added behind the others with what is right for
-- these formats and kept by the cell of this name or the pass
pub record IsMeeting (old new : List Known) (from to name : ℕ) (sender receiver : Layout)
    (place : ℕ) : Type 0 where
  pub at : HasAt new place from to
  pub how : ((new ≡ old) × IsSome (found_for old from to))
      ⊎ ((found_for old from to ≡ None) × (new ≡ old ++ at.entry ∷ [])
      × IfSome at.entry.cell (λ cell. cell ≡ name) × IsFound sender receiver at.entry.found)
