-- Gathers that are run four at a time.
use Rattle.std.specs.Prelude.{◌≡◌, List, [], ◌∷◌, ◌++◌, length}
use Rattle.evp_plan.specs.declared.gather.Four.{Four}
use Rattle.evp_plan.specs.declared.gather.Gather.{Gather}
use Rattle.evp_plan.specs.declared.gather.Gathers.{Gathers}
use Rattle.evp_plan.specs.declared.gather.Two.{Two}

-- all of them, one after another
abbrev pub in_fours : List Four → List Gather
in_fours [] = []
in_fours (four ∷ fours) = four.one ∷ four.two ∷ four.three ∷ four.four ∷ in_fours fours

-- the fours and the rest are these gathers
abbrev pub AreParted : List Gather → List Four → List Gather → Type 0
AreParted gathers fours rest = in_fours fours ++ rest ≡ gathers

-- plain gathers are all that a record has
pub record AreOnlyPlain (gathers : Gathers) : Type 0 where
  pub no_pairs : length gathers.pairs.items ≡ 0
  pub no_mixed : length gathers.mixed.items ≡ 0

-- fours are, where this is the rest of its plain gathers
pub record AreOnlyFours (gathers : Gathers) (rest : List Gather) : Type 0 where
  pub no_rest : length rest ≡ 0
  pub only_plain : AreOnlyPlain gathers

-- these two are all plain gathers
abbrev pub AreTwo : List Gather → Two → Type 0
AreTwo plain two = plain ≡ two.one ∷ two.two ∷ []
