-- Entries are lined up: one for each target position where something goes, in their order.
use Rattle.std.specs.Prelude.{◌≡◌, ℕ, ◌+◌, ◌⊎◌, Bool, true, false, if◌then◌else◌, List, [], ◌∷◌}
use Rattle.std.specs.Arc.{arc_value}
use Rattle.evp_record.specs.OwnedBytes.{OwnedBytes}
use Rattle.evp_stone.specs.declared.entry.Entry.{Entry}
use Rattle.evp_stone.specs.declared.entry.Entry.TheVariants.{Item, Mark}
use Rattle.evp_stone.specs.Entries.{route_of, position_of}
use Rattle.evp_stone.specs.State.{Outlet}

-- what is sent on: a record with its index, or the end of a round
pub data Sending : Type 0 where
  a_record : ℕ → OwnedBytes → Sending
  an_end : ℕ → Sending

-- the entry is one of it
abbrev pub IsOf : Sending → Entry → Type 0
IsOf (a_record index owned) (Item route position i arc) = (i ≡ index) × (arc_value arc ≡ owned)
IsOf (a_record index owned) (Mark route position round) = ⊥
IsOf (an_end ended) (Item route position i arc) = ⊥
IsOf (an_end ended) (Mark route position round) = round ≡ ended

-- the entry is the next one at the outlet, and is such a one
pub record IsAt (IsOne : Entry → Type 0) (outlet : Outlet) (entry : Entry) : Type 0 where
  pub on : route_of entry ≡ outlet.route
  pub at : position_of entry ≡ outlet.lined
  pub is : IsOne entry

module _ (IsOne : Entry → Type 0) (goes : ℕ → Bool) where
  -- these are lined up at the outlets of the positions from this one on
  abbrev pub AreLined : ℕ → List Outlet → List Entry → Type 0
  AreLined position [] entries = entries ≡ []
  AreLined position (outlet ∷ outlets) entries =
      ((goes position ≡ true) × ((entry : Entry) × (others : List Entry)
      × (entries ≡ entry ∷ others) × IsAt IsOne outlet entry
      × AreLined (position + 1) outlets others))
      ⊎ ((goes position ≡ false) × AreLined (position + 1) outlets entries)

-- one entry more is lined up at an outlet
abbrev pub one_more : Outlet → Outlet
one_more outlet = record { route = outlet.route; lined = outlet.lined + 1 }

module _ (goes : ℕ → Bool) where
  -- the outlets behind that
  abbrev pub lengthened : ℕ → List Outlet → List Outlet
  lengthened position [] = []
  lengthened position (outlet ∷ outlets) =
      (if goes position then one_more outlet else outlet) ∷ lengthened (position + 1) outlets
