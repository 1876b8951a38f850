-- The definitions, computed on a diamond and on a stone that is frozen for a round.
use Rattle.std.proofs.Common.{◌≡◌, ℕ, zero, suc, Bool, true, false, List, [], ◌∷◌, map, refl}
use Rattle.std.specs.Prelude.{pos}
use Rattle.evp_format.specs.Datum.{Datum, num}
use Rattle.evp_graph.specs.declared.route.Route.{Route}
use Rattle.evp_action.specs.declared.acted.To.TheVariants.{All, One}
use Rattle.evp_stone.specs.Carried.{Carried}
use Rattle.evp_stone.specs.Flow.{Part, item, mark, flow_from}
use Rattle.evp_action.specs.Outcome.{Outcome, sent, dropped, arrived}
use Rattle.evp_stone.specs.Route.{last_stone, steps_of, cut}
use Rattle.evp_stone.specs.Rounds.{Worked, rounds_from, arrivals_of}
use Rattle.evp_stone.specs.Tally.{Tally, account_of}
use Rattle.evp_stone.specs.Through.{through}

abbrev route : List ℕ → List ℕ → Route
route positions stones = record { source = 0; positions = positions; stones = stones }

-- record n of a file has the number n + 1
abbrev number : ℕ → Carried
number n = record { index = n; format = 0; value = num (pos (suc n)) }

abbrev tally : ℕ → List Carried → ℕ → Tally
tally passed came held = record { passed = passed; dropped = 0; refused = []; arrived = came; held = held }

module _ (act : ℕ → ℕ → Datum → Outcome) (freezes : ℕ → List Bool) (submitted : List (List Carried)) where
  abbrev rounds : Route → List Worked
  rounds r = rounds_from [] (freezes (last_stone r)) (arrivals_of act freezes submitted (steps_of r))

  abbrev accounts : Route → List Tally
  accounts r = map (account_of act (last_stone r)) (rounds r)

  abbrev flow : Route → List Part
  flow r = flow_from 0 (arrivals_of act freezes submitted (steps_of r))

-- a split to two filters, both of which lead to one terminal: one record goes each way, and is received twice
abbrev diamond : ℕ → ℕ → Datum → Outcome
diamond (suc (suc (suc stone))) format value = arrived 0 value
diamond stone format value = sent All 0 value

abbrev never : ℕ → List Bool
never stone = false ∷ []

abbrev one : List (List Carried)
one = (number 0 ∷ []) ∷ []

diamond_accounts : map (accounts diamond never one)
    (route [] (0 ∷ []) ∷ route (0 ∷ []) (0 ∷ 1 ∷ []) ∷ route (0 ∷ 0 ∷ []) (0 ∷ 1 ∷ 3 ∷ []) ∷ route (1 ∷ []) (0 ∷ 2 ∷ [])
    ∷ route (1 ∷ 0 ∷ []) (0 ∷ 2 ∷ 3 ∷ []) ∷ [])
    ≡ (tally 1 [] 0 ∷ []) ∷ (tally 1 [] 0 ∷ []) ∷ (tally 1 (number 0 ∷ []) 0 ∷ []) ∷ (tally 1 [] 0 ∷ [])
    ∷ (tally 1 (number 0 ∷ []) 0 ∷ []) ∷ []
diamond_accounts = refl

diamond_flow : flow diamond never one (route (1 ∷ 0 ∷ []) (0 ∷ 2 ∷ 3 ∷ [])) ≡ item (number 0) ∷ mark 0 ∷ []
diamond_flow = refl

-- a split to one terminal; three records in the first round, two in the second
abbrev line : ℕ → ℕ → Datum → Outcome
line zero format value = sent All 0 value
line (suc stone) format value = arrived 0 value

abbrev three_and_two : List (List Carried)
three_and_two = (number 0 ∷ number 1 ∷ number 2 ∷ []) ∷ (number 3 ∷ number 4 ∷ []) ∷ []

abbrev five : List Carried
five = number 0 ∷ number 1 ∷ number 2 ∷ number 3 ∷ number 4 ∷ []

abbrev first_route : Route
first_route = route [] (0 ∷ [])

abbrev last_route : Route
last_route = route (0 ∷ []) (0 ∷ 1 ∷ [])

-- the terminal is frozen in the first round: it keeps three, and then receives all five in order
abbrev once : ℕ → List Bool
once zero = false ∷ false ∷ []
once (suc stone) = true ∷ false ∷ []

frozen_once : map (accounts line once three_and_two) (first_route ∷ last_route ∷ [])
    ≡ (tally 3 [] 0 ∷ tally 2 [] 0 ∷ []) ∷ (tally 0 [] 3 ∷ tally 5 five 0 ∷ []) ∷ []
frozen_once = refl

-- it is frozen in both rounds, and keeps all
abbrev twice : ℕ → List Bool
twice zero = false ∷ false ∷ []
twice (suc stone) = true ∷ true ∷ []

frozen_twice : accounts line twice three_and_two last_route ≡ tally 0 [] 3 ∷ tally 0 [] 5 ∷ []
frozen_twice = refl

-- the ends of rounds travel behind the records of their rounds, also where the terminal keeps these
line_flow : flow line once three_and_two last_route
    ≡ item (number 0) ∷ item (number 1) ∷ item (number 2) ∷ mark 0 ∷ item (number 3) ∷ item (number 4) ∷ mark 1 ∷ []
line_flow = refl

-- and where the split is frozen in the first round, the end of that round goes on alone
abbrev split_once : ℕ → List Bool
split_once zero = true ∷ false ∷ []
split_once (suc stone) = false ∷ false ∷ []

split_flow : flow line split_once three_and_two last_route
    ≡ mark 0 ∷ item (number 0) ∷ item (number 1) ∷ item (number 2) ∷ item (number 3) ∷ item (number 4) ∷ mark 1 ∷ []
split_flow = refl

line_through : through line five (steps_of last_route) ≡ five
line_through = refl

-- a router sends to one position, drops, and refuses; a refused record goes nowhere and later ones go on
abbrev router : ℕ → ℕ → Datum → Outcome
router stone format (num (pos (suc zero))) = sent (One 1) 0 (num (pos 1))
router stone format value = dropped

routed : map (λ r. arrivals_of router (λ stone. false ∷ false ∷ []) three_and_two (steps_of r))
    (route (0 ∷ []) (0 ∷ 1 ∷ []) ∷ route (1 ∷ []) (0 ∷ 2 ∷ []) ∷ [])
    ≡ ([] ∷ [] ∷ []) ∷ ((number 0 ∷ []) ∷ [] ∷ []) ∷ []
routed = refl

-- a route of three stones, cut after one step
shorter : cut 1 (route (1 ∷ 0 ∷ []) (0 ∷ 2 ∷ 3 ∷ [])) ≡ route (1 ∷ []) (0 ∷ 2 ∷ [])
shorter = refl
