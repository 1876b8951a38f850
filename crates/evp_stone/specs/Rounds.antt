-- Rounds: what comes to a stone on a route in each round, what it acts on and what it keeps.
use Rattle.std.specs.Prelude.{ℕ, Bool, true, false, List, [], ◌∷◌, ◌++◌, map}
use Rattle.std.specs.List.{fold}
use Rattle.evp_stone.specs.Carried.{Carried, Acts, sent_on}

-- one round of a route at its last stone: the records that the stone acts on, and those that it
-- keeps at the round's end, each in order
pub record Worked : Type 0 where
  pub done : List Carried
  pub held : List Carried

-- a round in which these records wait, kept ones before new ones: a frozen stone keeps them all,
-- and another acts on all
abbrev pub round_of : Bool → List Carried → Worked
round_of true records = record { done = []; held = records }
round_of false records = record { done = records; held = [] }

-- the rounds one after another, the stone having kept these records so far: for each round
-- whether the stone is frozen in it, and the records that come
abbrev pub rounds_from : List Carried → List Bool → List (List Carried) → List Worked
rounds_from kept [] arrivals = []
rounds_from kept (frozen ∷ later) [] = []
rounds_from kept (frozen ∷ later) (new ∷ arrivals) =
    let round = round_of frozen (kept ++ new) in
    round ∷ rounds_from round.held later arrivals

-- what was kept at the end of the last of these rounds, where this was kept before them
abbrev pub held_after : List Carried → List Worked → List Carried
held_after kept [] = kept
held_after kept (round ∷ rounds) = held_after round.held rounds

-- one step of a route: its stone, and the position of the target where it goes on
pub record Step : Type 0 where
  pub stone : ℕ
  pub position : ℕ

module _ (act : Acts) (freezes : ℕ → List Bool) where
  -- what comes to the target in each round, where this comes to the stone
  abbrev pub passed_on : List (List Carried) → Step → List (List Carried)
  passed_on arrivals step =
      map (λ (round : Worked). sent_on act step.stone step.position round.done)
      (rounds_from [] (freezes step.stone) arrivals)

  -- what comes to a route's last stone in each round, where the source submits this
  abbrev pub arrivals_of : List (List Carried) → List Step → List (List Carried)
  arrivals_of submitted steps = fold passed_on submitted steps
