-- Actors before their first turn and behind some, computed: what a source has still to give, and what a stone and a turn count.
use Rattle.std.proofs.Common.{◌≡◌, ℕ, ◌-◌, ◌^◌, List, [], ◌∷◌, drop, refl}
use Rattle.evp_graph.specs.declared.route.Route.{Route}
use Rattle.evp_stone.specs.declared.account.RoundAccount.{RoundAccount}
use Rattle.evp_stone.specs.declared.turn.Turn.TheVariants.{Moved, Idle, Blocked, Closed, Memory}
use Rattle.evp_stone.specs.Accounts.{flow_of}
use Rattle.evp_stone.specs.Actor.{count_unended}
use Rattle.evp_stone.specs.Feeding.{SourceWork, to_come}
use Rattle.evp_stone.specs.Flow.{item, mark}
use Rattle.evp_stone.specs.JobShape.{JobShape}
use Rattle.evp_stone.specs.State.{RouteWork}
use Rattle.evp_stone.specs.Turned.{starved_by}
use Rattle.evp_stone.specs.Turning.{nothing_done}
use Rattle.evp_stone.proofs.JobExamples.{line, as_sent}

-- five records, three in the first round and two in the second
abbrev job : JobShape
job = line []

abbrev first : Route
first = record { source = 0; positions = []; stones = 0 ∷ [] }

abbrev source : ℕ → ℕ → ℕ → ℕ → SourceWork
source given round left index = record { source = 0; route = 0; given = given; round = round; left = left; index = index }

-- before its first turn a source has all of its flow to give
whole : to_come job (source 0 0 3 0) ≡ flow_of job first
whole = refl

whole_is : to_come job (source 0 0 3 0)
    ≡ item (as_sent 0 1) ∷ item (as_sent 1 2) ∷ item (as_sent 2 3) ∷ mark 0 ∷ item (as_sent 3 4) ∷ item (as_sent 4 5) ∷ mark 1 ∷ []
whole_is = refl

-- behind two entries, the third, the first round's end, and the last
behind_two : to_come job (source 2 0 1 2) ≡ drop 2 (flow_of job first)
behind_two = refl

at_the_mark : to_come job (source 3 0 0 3) ≡ mark 0 ∷ item (as_sent 3 4) ∷ item (as_sent 4 5) ∷ mark 1 ∷ []
at_the_mark = refl

behind_the_mark : to_come job (source 4 1 2 3) ≡ drop 4 (flow_of job first)
behind_the_mark = refl

behind_all : to_come job (source 7 2 0 5) ≡ []
behind_all = refl

abbrev work : List RoundAccount → RouteWork
work ended = record { route = 0; outlets = []; kept = []; ended = ended; running = nothing_done }

-- a route has rounds to come until as many have ended as there are
none_ended : count_unended 2 (work [] ∷ work [] ∷ work [] ∷ []) ≡ 3
none_ended = refl

one_ended : (a b c : RoundAccount) → count_unended 2 (work [] ∷ work (a ∷ b ∷ []) ∷ work (c ∷ []) ∷ []) ≡ 2
one_ended a b c = refl

all_ended : (a b : RoundAccount) → count_unended 1 (work (a ∷ []) ∷ work (b ∷ []) ∷ []) ≡ 0
all_ended a b = refl

no_routes : count_unended 2 [] ≡ 0
no_routes = refl

-- only want of memory starves a turn, and the last value stays
fed : starved_by Moved 3 ∷ starved_by Idle 3 ∷ starved_by (Blocked 1) 3 ∷ starved_by Closed 3 ∷ [] ≡ 3 ∷ 3 ∷ 3 ∷ 3 ∷ []
fed = refl

starved : starved_by Memory 3 ≡ 4
starved = refl

starved_last : starved_by Memory (2 ^ 64 - 1) ≡ 2 ^ 64 - 1
starved_last = refl
