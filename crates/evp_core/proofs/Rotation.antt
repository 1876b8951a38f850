-- A pass of one turn for each actor: one of them moves, or all are closed.
use Rattle.std.proofs.Common.{◌^◌, ◌≡◌, ◌≢◌, ℕ, ◌+◌, ◌<◌, ◌≤◌, Bool, true, false, length, Some, set, refl, sym, ap, subst, ◌∙◌, arith}
use Rattle.std.proofs.Common.{⊎_elim}
use Rattle.std.proofs.Math.ListN.{length-set}
use Rattle.std.proofs.lemmas.Bool.Decides.{eqb_tells}
use Rattle.std.proofs.lemmas.Option.{same_Some, slice_get_within}
use Rattle.std.specs.List.{slice_get, range_with_len}
use Rattle.evp_stone.specs.declared.turn.Turn.{Turn}
use Rattle.evp_stone.specs.declared.turn.Turn.TheVariants.{Moved, Idle, Blocked, Closed, Memory}
use Rattle.evp_stone.specs.Actor.{Role, feeds, works, ActorShape}
use Rattle.evp_stone.specs.Feeding.{SourceWork}
use Rattle.evp_stone.specs.JobShape.{JobShape}
use Rattle.evp_stone.specs.State.{StoneWork}
use Rattle.evp_stone.proofs.Change.{set_here, set_elsewhere}
use Rattle.evp_core.specs.Held.{IsHeld, IsOfSame, HasPassed, HasStopped}
use Rattle.evp_core.specs.Lists.{ListsShape}
use Rattle.evp_core.specs.Progress.{turns_left}
use Rattle.evp_core.specs.Rotation.{all_numbers}
use Rattle.evp_core.specs.Turns.{entries_in}
use Rattle.evp_core.specs.WorldShape.{WorldShape, own_of}
use Rattle.evp_core.specs.WorldTurned.{WorldTurned, HaveTurned, counts_before, counts_behind, done_by}
use Rattle.evp_core.proofs.Behind.{one_further, stops_in_order}
use Rattle.evp_core.proofs.Bounded.{few_turns}
use Rattle.evp_core.proofs.GoOn.{closed_or_moves}
use Rattle.evp_core.proofs.HeldOn.{rest_counts, turned_job}
use Rattle.evp_core.proofs.MovesOn.{moves_on}
use Rattle.evp_core.proofs.Progress.{moved_counts}
use Rattle.evp_core.proofs.Rests.{IsSameWork, role_rests, lists_rest}
use Rattle.evp_core.proofs.Stages.{CanMove}

can_same : (lists : ListsShape) (old new : Role) → IsSameWork old new → CanMove lists new → CanMove lists old
can_same lists (feeds old) (feeds new) same can = subst (λ (w : SourceWork). CanMove lists (feeds w)) same can
can_same lists (feeds old) (works new unended) same can = absurd same
can_same lists (works old unended) (feeds new) same can = absurd same
can_same lists (works old unended) (works new still) same can = subst (λ (w : StoneWork). CanMove lists (works w unended)) same can

-- none of the first so many actors can move
abbrev pub AreStuck : WorldShape → ℕ → Type 0
AreStuck world bound =
    (number : ℕ) (actor : ActorShape) → number < bound → slice_get world.actors number ≡ Some actor → CanMove world.lists actor.role → ⊥

module _ (old new : WorldShape) (number : ℕ) (turn : Turn) (turned : WorldTurned old new number turn) where
  -- a turn that neither moves nor wants memory shows that its actor can't move
  pub stuck_on : IsHeld old → turn ≢ Moved → turn ≢ Memory → AreStuck old number → AreStuck new (number + 1)
  stuck_on held moved memory stuck other actor below at can =
      let rests = role_rests old.lists.job (counts_before old.lists (own_of turned.was.role))
      (counts_behind old.lists turned.after (own_of turned.was.role)) turned.was.role turned.now.role turn moved turned.turned.role in
      let lists : new.lists ≡ old.lists = ap (λ (w : WorldShape). w.lists) turned.is
      ∙ lists_rest (own_of turned.was.role) old.lists turned.after held.rules.lists turned.lists rests.0 in
      let was_can : CanMove old.lists actor.role = subst (λ (l : ListsShape). CanMove l actor.role) lists can in
      let now_at : slice_get (set old.actors number turned.now) other ≡ Some actor =
      ap (λ (w : WorldShape). slice_get w.actors other) (sym turned.is) ∙ at in
      ⊎_elim
      (λ e.
      let is : turned.now ≡ actor = same_Some turned.now actor
      (sym (set_here old.actors number turned.was turned.now turned.there) ∙ ap (slice_get (set old.actors number turned.now)) (sym e.1)
      ∙ now_at) in
      let now_can : CanMove old.lists turned.now.role = subst (λ (a : ActorShape). CanMove old.lists a.role) (sym is) was_can in
      let could = can_same old.lists turned.was.role turned.now.role rests.1 now_can in
      ⊎_elim moved memory (moves_on old number turned.was turned.there could new turn turned))
      (λ e. let apart = e.1 in
      stuck other actor (omega arith) (sym (set_elsewhere old.actors number other turned.now e.1) ∙ now_at) was_can)
      (eqb_tells other number)

  pub same_actors : length new.actors ≡ length old.actors
  same_actors = ap (λ (w : WorldShape). length w.actors) turned.is ∙ length-set old.actors number turned.now

  rest_left : IsHeld new → turn ≢ Moved → turns_left new ≤ turns_left old
  rest_left held rests =
      let counts = rest_counts old new number turn turned rests in
      let due = counts.0 in
      let more = counts.1 in
      let job = ap (λ (j : JobShape). entries_in j) (turned_job old new number turn turned) in
      omega arith

done_more : (turn : Turn) (done : ℕ) → done_by turn done ≤ done + 1
done_more Moved done = omega arith
done_more Idle done = omega arith
done_more (Blocked target) done = omega arith
done_more Closed done = omega arith
done_more Memory done = omega arith

pub moved_left : (old new : WorldShape) (number : ℕ) → WorldTurned old new number Moved → IsHeld new → turns_left new < turns_left old
moved_left old new number turned held =
    let counts = moved_counts old new number turned in
    let job = ap (λ (j : JobShape). entries_in j) (turned_job old new number Moved turned) in
    let few = few_turns new.lists held.rules.lists held.job in
    omega arith

abbrev pub HasGone : WorldShape → WorldShape → ℕ → Bool → Type 0
HasGone start now bound true = turns_left now < turns_left start
HasGone start now bound false = AreStuck now bound

-- a pass that has come so far
pub record InPass (start now : WorldShape) (bound : ℕ) (moved : Bool) : Type 0 where
  pub held : IsHeld now
  pub same : IsOfSame start now
  pub done : now.done ≤ start.done + bound
  pub gone : HasGone start now bound moved
  pub turned : HaveTurned start now (range_with_len 0 bound)

pub pass_starts : (world : WorldShape) → IsHeld world → InPass world world 0 false
pass_starts world held = record {
  held = held;
  same = record { job = refl; count = refl; left = omega arith };
  done = omega arith;
  gone = λ number actor below at can. absurd (omega arith);
  turned = refl;
}

same_on : (start old new : WorldShape) (number : ℕ) (turn : Turn) → WorldTurned old new number turn → IsOfSame start old
    → turns_left new ≤ turns_left old → IsOfSame start new
same_on start old new number turn turned same left = record {
  job = turned_job old new number turn turned ∙ same.job;
  count = same_actors old new number turn turned ∙ same.count;
  left = let more = same.left in omega arith;
}

done_on : (start old new : WorldShape) (number : ℕ) (turn : Turn) → WorldTurned old new number turn → old.done ≤ start.done + number
    → new.done ≤ start.done + (number + 1)
done_on start old new number turn turned done =
    let is = ap (λ (w : WorldShape). w.done) turned.is in
    let more = done_more turn old.done in omega arith

not_memory : Moved ≢ Memory
not_memory e = cc

-- one more turn, which moved
pub pass_moved : (start old new : WorldShape) (number : ℕ) (moved : Bool) → InPass start old number moved
    → WorldTurned old new number Moved
    → IsHeld new → InPass start new (number + 1) true
pass_moved start old new number moved pass turned held =
    let less = moved_left old new number turned held in
    record {
      held = held;
      same = same_on start old new number Moved turned pass.same (omega arith);
      done = done_on start old new number Moved turned pass.done;
      gone = let left = pass.same.left in omega arith;
      turned = one_further start old new number Moved not_memory pass.turned turned;
    }

-- one more, which didn't
pub pass_rests : (start old new : WorldShape) (number : ℕ) (moved : Bool) (turn : Turn) → InPass start old number moved → turn ≢ Moved
    → turn ≢ Memory
    → WorldTurned old new number turn → IsHeld new → InPass start new (number + 1) moved
pass_rests start old new number moved turn pass rests memory turned held =
    let left = rest_left old new number turn turned held rests in
    record {
      held = held;
      same = same_on start old new number turn turned pass.same left;
      done = done_on start old new number turn turned pass.done;
      gone = gone_on moved pass.gone left;
      turned = one_further start old new number turn memory pass.turned turned;
    }
  where
    gone_on : (b : Bool) → HasGone start old number b → turns_left new ≤ turns_left old → HasGone start new (number + 1) b
    gone_on true gone left = omega arith
    gone_on false gone left = stuck_on old new number turn turned pass.held rests memory gone

not_moved : Memory ≢ Moved
not_moved e = cc

-- one that found no memory
pub pass_stops : (start old new : WorldShape) (number : ℕ) (moved : Bool) → InPass start old number moved
    → WorldTurned old new number Memory
    → IsHeld new → number < length start.actors → IsOfSame start new × (new.done ≤ start.done + length start.actors)
pass_stops start old new number moved pass turned held below = (
  same_on start old new number Memory turned pass.same (rest_left old new number Memory turned held not_moved),
  let done = done_on start old new number Memory turned pass.done in omega arith,
)

pub stops_so : (start old new : WorldShape) (number : ℕ) (moved : Bool) → start.done < 2 ^ 64 → InPass start old number moved
    → WorldTurned old new number Memory → number < length start.actors → HasStopped start new (all_numbers start)
stops_so start old new number moved few pass turned below =
    stops_in_order start old new (length start.actors) number few below pass.turned turned

-- the end of a pass
pub pass_ends : (start now : WorldShape) (moved : Bool) → InPass start now (length start.actors) moved → HasPassed start now moved
pass_ends start now true pass = pass.gone
pass_ends start now false pass =
    ⊎_elim (λ closed. closed)
    (λ m. let count = pass.same.count in let below = slice_get_within now.actors m.0 m.1 m.2 in
    absurd (pass.gone m.0 m.1 (omega arith) m.2 m.3))
    (closed_or_moves now pass.held.rules pass.held.job)
