-- The search for a cycle: a mark on each stone, and the visits that are open.
use Rattle.std.specs.Prelude.{ℕ, ◌≡◌, ◌≢◌, ◌<◌, ◌≤◌, ◌⊎◌, List, ◌∷◌, ◌++◌, length, map, reverse}
use Rattle.std.specs.Prelude.{drop, take, slice_index, slice_index_or}
use Rattle.evp_graph.specs.Shape.{Reaches}
use Rattle.evp_graph.specs.declared.search.Mark.{Mark}
use Rattle.evp_graph.specs.declared.search.Mark.TheVariants.{New, Open, Done}
use Rattle.evp_graph.specs.declared.search.Visit.{Visit}

-- neither the stone nor one that it reaches reaches itself
abbrev pub IsSafe : List (List ℕ) → ℕ → Type 0
IsSafe targets a = (b : ℕ) → (a ≡ b) ⊎ Reaches targets a b → Reaches targets b b → ⊥

abbrev pub mark_of : List Mark → ℕ → Mark
mark_of marks stone = slice_index_or marks stone New

-- between two searches: no stone is open, and each that is done is safe
pub record IsSettled (targets : List (List ℕ)) (marks : List Mark) : Type 0 where
  pub lengths : length marks ≡ length targets
  pub closed : (stone : ℕ) → mark_of marks stone ≢ Open
  pub safe : (stone : ℕ) → mark_of marks stone ≡ Done → IsSafe targets stone

-- each stone that was done still is
abbrev pub StayDone : List Mark → List Mark → Type 0
StayDone old new = (stone : ℕ) → mark_of old stone ≡ Done → mark_of new stone ≡ Done

-- the stones of the open visits, the newest first
abbrev pub stones_back : List Visit → ℕ → List ℕ
stones_back path here = here ∷ map (λ visit. visit.stone) (reverse path)

-- the stones from the first one on, the first one in front, where back has the newest in front
pub record IsTurned (back : List ℕ) (first : ℕ) (stones : List ℕ) : Type 0 where
  pub behind : List ℕ
  pub rest : List ℕ
  pub split : back ≡ behind ++ first ∷ rest
  pub turned : stones ≡ first ∷ reverse behind

-- the list, begun at another place, from where the smallest stands on
pub record IsRotated (stones rotated : List ℕ) : Type 0 where
  pub place : ℕ
  pub within : place < length stones
  pub least : (k : ℕ) → k < length stones → slice_index stones place ≤ slice_index stones k
  pub joined : rotated ≡ drop place stones ++ take place stones
