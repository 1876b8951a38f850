-- Turns of a list of numbers, one more behind the others.
use Rattle.std.proofs.Common.{◌≡◌, ◌≢◌, ℕ, ◌+◌, ◌^◌, ◌<◌, List, length, take, sym, subst, arith}
use Rattle.std.specs.Prelude.{get_or, Ok, Bool, true, false}
use Rattle.std.proofs.lemmas.Option.{slice_get-get_or}
use Rattle.std.proofs.lemmas.List.{take_more, length-take-le}
use Rattle.evp_stone.specs.declared.turn.Turn.{Turn}
use Rattle.evp_stone.specs.declared.turn.Turn.TheVariants.{Moved, Memory}
use Rattle.evp_core.specs.Held.{HasStopped, Steps}
use Rattle.evp_core.specs.WorldShape.{WorldShape}
use Rattle.evp_core.specs.WorldTurned.{WorldTurned, HaveTurned}
use Rattle.evp_core.proofs.Behind.{have_more, stopped_done}
use Rattle.evp_core.proofs.Rotation.{same_actors}

pub runs_on : (old between new : WorldShape) (numbers : List ℕ) (k : ℕ) (turn : Turn) → k < length numbers
    → HaveTurned old between (take k numbers) → turn ≢ Memory → WorldTurned between new (get_or numbers k 0) turn
    → HaveTurned old new (take (k + 1) numbers)
runs_on old between new numbers k turn below have memory turned =
    subst (HaveTurned old new) (sym (take_more numbers k 0 below))
    (have_more old between new (take k numbers) (get_or numbers k 0) turn have memory turned)

pub moved_on : (old between new : WorldShape) (numbers : List ℕ) (k : ℕ) → k < length numbers
    → HaveTurned old between (take k numbers) → WorldTurned between new (get_or numbers k 0) Moved
    → HaveTurned old new (take (k + 1) numbers)
moved_on old between new numbers k below have turned = runs_on old between new numbers k Moved below have (λ e. cc) turned

pub stops : (old between new : WorldShape) (numbers : List ℕ) (k : ℕ) → old.done < 2 ^ 64 → k < length numbers
    → HaveTurned old between (take k numbers) → WorldTurned between new (get_or numbers k 0) Memory → HasStopped old new numbers
stops old between new numbers k few below have turned = record {
  count = k;
  between = between;
  turned = have;
  number = get_or numbers k 0;
  there = slice_get-get_or numbers k 0 below;
  stopped = turned;
  done = stopped_done old between new (take k numbers) k (get_or numbers k 0) few (length-take-le k numbers (omega arith)) have turned;
}

-- one more turn was done, with memory
pub ran_on : (old between new : WorldShape) (numbers : List ℕ) (k : ℕ) (moved : Bool) → k < length numbers
    → HaveTurned old between (take k numbers) → Steps between new (get_or numbers k 0) (Ok moved)
    → HaveTurned old new (take (k + 1) numbers)
ran_on old between new numbers k true below have steps = moved_on old between new numbers k below have steps
ran_on old between new numbers k false below have steps =
    runs_on old between new numbers k steps.0 below have steps.2 steps.3

pub as_many : (old new : WorldShape) (number : ℕ) (moved : Bool) → Steps old new number (Ok moved)
    → length new.actors ≡ length old.actors
as_many old new number true steps = same_actors old new number Moved steps
as_many old new number false steps = same_actors old new number steps.0 steps.3
