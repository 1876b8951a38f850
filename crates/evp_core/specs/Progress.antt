-- How many turns were made for the entries so far, and how many are still due for those that were
-- taken. An entry has four turns at most: it is given, it is taken, it is dealt with, and its
-- record is acted on later where it was kept.
use Rattle.std.specs.Prelude.{ℕ, ◌+◌, ◌-◌, ◌*◌, ◌≤◌, List, length, Option, Some, None}
use Rattle.std.specs.List.{sum, sum_by}
use Rattle.evp_stone.specs.declared.entry.Entry.{Entry}
use Rattle.evp_core.specs.Lists.{ListsShape}
use Rattle.evp_core.specs.Turns.{entries_in}
use Rattle.evp_core.specs.WorldShape.{WorldShape}
use Rattle.evp_stone.specs.Actor.{Role, feeds, works, ActorShape}
use Rattle.evp_stone.specs.State.{RouteWork}

-- one turn for each entry that was given, and three more once it was taken
abbrev pub counted_turns : ListsShape → ℕ
counted_turns lists = sum lists.given + 3 * sum lists.taken

-- of these an entry in hand still has two before it
abbrev pub due_in_hand : Option Entry → ℕ
due_in_hand None = 0
due_in_hand (Some entry) = 2

-- and a record that is kept one
abbrev pub due_of : Role → ℕ
due_of (feeds work) = 0
due_of (works work unended) =
    due_in_hand work.hand + sum_by (λ (here : RouteWork). length here.kept) work.routes

abbrev pub due_turns : List ActorShape → ℕ
due_turns actors = sum_by (λ (actor : ActorShape). due_of actor.role) actors

-- no more are due than were counted
abbrev pub IsCounted : WorldShape → Type 0
IsCounted world = due_turns world.actors ≤ counted_turns world.lists

-- how many turns there can still be that move
abbrev pub turns_left : WorldShape → ℕ
turns_left world =
    4 * entries_in world.lists.job + due_turns world.actors - counted_turns world.lists
