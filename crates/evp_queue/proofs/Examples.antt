-- The definitions, computed on a queue of one route whose flow is an item and then a mark.
use Rattle.std.proofs.Common.{◌≡◌, ℕ, false, List, [], ◌∷◌, Some, None, refl, arith}
use Rattle.evp_queue.specs.Counts.{count_at, zeroed, raised, those, others}
use Rattle.evp_queue.specs.Flow.{between, entries_of, StandFor}
use Rattle.evp_queue.specs.Rule.{progress, IsNext}
use Rattle.evp_queue.specs.Passes.{counted}

-- an entry is its route, its position and what it stands for: 7 is the item, and 8 the mark
abbrev Sample : Type 0
Sample = ℕ × ℕ × ℕ

abbrev route_of : Sample → ℕ
route_of e = e.0

abbrev position_of : Sample → ℕ
position_of e = e.1

abbrev flow : ℕ → ℕ → List ℕ
flow whole route = 7 ∷ 8 ∷ []

abbrev stands_for : Sample → ℕ → Type 0
stands_for e fact = e.2 ≡ fact

abbrev item : Sample
item = (0, 0, 7)

abbrev mark : Sample
mark = (0, 1, 8)

-- the counts of a pass with routes 0 and 1, split by route 0
both : those (0 ∷ []) (zeroed (0 ∷ 1 ∷ [])) ≡ (0, 0) ∷ []
both = refl

rest : others (0 ∷ []) (zeroed (0 ∷ 1 ∷ [])) ≡ (1, 0) ∷ []
rest = refl

-- a split by a route that the pass hasn't leaves all in the second
stray : others (5 ∷ []) ((0, 3) ∷ (1, 4) ∷ []) ≡ (0, 3) ∷ (1, 4) ∷ []
stray = refl

counts : count_at 1 (raised 1 ((0, 3) ∷ (1, 4) ∷ [])) ≡ Some 5
counts = refl

no_count : count_at 2 ((0, 3) ∷ (1, 4) ∷ []) ≡ None
no_count = refl

-- a queue of one place: the item was given, so the giver's count is 1 and the taker's 0
one_given : StandFor position_of stands_for 0 (entries_of route_of 0 (item ∷ [])) (between 0 1 (flow 0 0))
one_given = (refl, refl, tt)

-- the item was taken and the mark given
one_taken : StandFor position_of stands_for 1 (entries_of route_of 0 (mark ∷ [])) (between 1 2 (flow 0 0))
one_taken = (refl, refl, tt)

-- both were taken
all_taken : StandFor position_of stands_for 2 (entries_of route_of 0 []) (between 2 2 (flow 0 0))
all_taken = tt

-- a queue that holds the mark before the item breaks the rule, and so does one that lost the item or has it twice
swapped : StandFor position_of stands_for 0 (entries_of route_of 0 (mark ∷ item ∷ [])) (between 0 2 (flow 0 0)) → ⊥
swapped stand = let wrong = stand.0 in omega arith

lost : StandFor position_of stands_for 0 (entries_of route_of 0 (mark ∷ [])) (between 0 2 (flow 0 0)) → ⊥
lost stand = stand.2

doubled : StandFor position_of stands_for 0 (entries_of route_of 0 (item ∷ item ∷ mark ∷ [])) (between 0 2 (flow 0 0)) → ⊥
doubled stand = stand.2.2

-- entries of other routes stand between without touching it
other_route : entries_of route_of 0 ((1, 0, 7) ∷ mark ∷ (1, 1, 8) ∷ []) ≡ mark ∷ []
other_route = refl

-- after the item comes the mark
next : IsNext route_of position_of flow stands_for (progress (Some 0) false ((0, 1) ∷ [])) mark
next = (refl, (0, refl, (8, refl, refl)))

again : IsNext route_of position_of flow stands_for (progress (Some 0) false ((0, 1) ∷ [])) item → ⊥
again is = let wrong = is.0 in cc

-- a count rises, and stays at its last value
rises : counted 4 ≡ 5
rises = refl

stays : counted 18446744073709551615 ≡ 18446744073709551615
stays = refl
