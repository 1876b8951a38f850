-- What one turn of a world does.
use Rattle.std.specs.Prelude.{◌≡◌, ◌≢◌, ℕ, ◌+◌, ◌-◌, ◌^◌, min, ◌==◌, if◌then◌else◌, List, [], ◌∷◌}
use Rattle.std.specs.Prelude.{length, Option}
use Rattle.std.specs.Prelude.{Some, None, slice_get, slice_set}
use Rattle.evp_plan.specs.Counts.{raised}
use Rattle.evp_stone.specs.declared.entry.Entry.{Entry}
use Rattle.evp_stone.specs.declared.turn.Turn.{Turn}
use Rattle.evp_stone.specs.declared.turn.Turn.TheVariants.{Moved, Idle, Blocked, Closed, Memory}
use Rattle.evp_core.specs.Lists.{ListsShape, ListsGo, taken_on, given_on}
use Rattle.evp_core.specs.WorldShape.{WorldShape, own_of}
use Rattle.evp_stone.specs.Actor.{ActorShape}
use Rattle.evp_stone.specs.Turned.{Counted, counted, HasTurned}

abbrev pub one_if_empty : Option (List Entry) → ℕ
one_if_empty None = 0
one_if_empty (Some []) = 1
one_if_empty (Some (entry ∷ entries)) = 0

-- 1 where there is nothing to take; for a source there never is
abbrev pub lacks : ListsShape → Option ℕ → ℕ
lacks lists None = 1
lacks lists (Some stone) = one_if_empty (slice_get lists.lists stone)

abbrev pub one_if_long : ℕ → Option (List Entry) → ℕ
one_if_long queue None = 0
one_if_long queue (Some entries) = if length entries == queue then 1 else 0

-- 1 where there is no room at a stone
abbrev pub crowds : ListsShape → ℕ → ℕ
crowds lists stone = one_if_long lists.job.queue (slice_get lists.lists stone)

-- the counts of an actor's port before a turn, which begins with no empty and no full list
abbrev pub counts_before : ListsShape → Option ℕ → Counted
counts_before lists own = counted (taken_on lists own) (given_on lists) 0 (λ _. 0)

-- and behind it, where a list counts that is empty or full in the old lists
abbrev pub counts_behind : ListsShape → ListsShape → Option ℕ → Counted
counts_behind old new own =
    counted (taken_on new own) (given_on new) (lacks old own) (λ stone. crowds old stone)

-- how many turns were done, behind this one
abbrev pub done_by : Turn → ℕ → ℕ
done_by Moved done = raised done
done_by Idle done = raised done
done_by (Blocked target) done = raised done
done_by Closed done = raised done
done_by Memory done = done

-- and behind so many, each with memory
abbrev pub done_after : ℕ → ℕ → ℕ
done_after turns done = min (done + turns) (2 ^ 64 - 1)

-- when the actor of this number has become another, and the lists these
abbrev pub turned_by : WorldShape → ℕ → ActorShape → ListsShape → Turn → WorldShape
turned_by old number actor lists turn = record {
  cells = old.cells;
  lists = lists;
  actors = slice_set old.actors number actor;
  done = done_by turn old.done;
}

-- The actor of this number did its turn, and nothing else happened.
pub record WorldTurned (old new : WorldShape) (number : ℕ) (turn : Turn) : Type 0 where
  pub was : ActorShape
  pub now : ActorShape
  pub after : ListsShape
  pub there : slice_get old.actors number ≡ Some was
  pub lists : ListsGo (own_of was.role) old.lists after
  pub turned : HasTurned old.lists.job (counts_before old.lists (own_of was.role))
      (counts_behind old.lists after (own_of was.role)) was now turn
  pub is : new ≡ turned_by old number now after turn

-- the actors of these numbers did their turns, one after another, each with memory
abbrev pub HaveTurned : WorldShape → WorldShape → List ℕ → Type 0
HaveTurned old new [] = new ≡ old
HaveTurned old new (number ∷ numbers) =
    (between : WorldShape) × ((turn : Turn) × (turn ≢ Memory)
    × WorldTurned old between number turn) × HaveTurned between new numbers
