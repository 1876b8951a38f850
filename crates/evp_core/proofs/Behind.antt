-- Turns behind others: one more, a list of them, and those of the actors in order.
use Rattle.std.proofs.Common.{◌≡◌, ◌≢◌, ℕ, zero, suc, ◌+◌, ◌^◌, ◌<◌, ◌≤◌, List, [], ◌∷◌, ◌++◌, length, take, Some}
use Rattle.std.proofs.Common.{refl, sym, ap, subst, ◌∙◌, arith}
use Rattle.std.proofs.Math.Seq.{take-append-add}
use Rattle.std.proofs.lemmas.List.FromFn.{length-range_with_len, get_or-range_with_len}
use Rattle.std.proofs.lemmas.Option.{slice_get-get_or}
use Rattle.std.specs.List.{slice_get, range_with_len}
use Rattle.evp_stone.specs.declared.turn.Turn.{Turn}
use Rattle.evp_stone.specs.declared.turn.Turn.TheVariants.{Moved, Idle, Blocked, Closed, Memory}
use Rattle.evp_plan.specs.Counts.{raised}
use Rattle.evp_core.specs.Held.{HasStopped}
use Rattle.evp_core.specs.WorldShape.{WorldShape}
use Rattle.evp_core.specs.WorldTurned.{WorldTurned, HaveTurned, done_by, done_after}

-- one turn more
pub have_more : (old between new : WorldShape) (numbers : List ℕ) (number : ℕ) (turn : Turn) → HaveTurned old between numbers
    → turn ≢ Memory
    → WorldTurned between new number turn → HaveTurned old new (numbers ++ number ∷ [])
have_more old between new [] number turn have memory turned =
    (new, (turn, memory, subst (λ (w : WorldShape). WorldTurned w new number turn) have turned), refl)
have_more old between new (n ∷ numbers) number turn have memory turned =
    (have.0, have.1, have_more have.0 between new numbers number turn have.2 memory turned)

-- turns behind others
pub have_then : (start between end : WorldShape) (front back : List ℕ) → HaveTurned start between front → HaveTurned between end back
    → HaveTurned start end (front ++ back)
have_then start between end [] back first then = subst (λ (w : WorldShape). HaveTurned w end back) first then
have_then start between end (number ∷ front) back first then =
    (first.0, first.1, have_then first.0 between end front back first.2 then)

raised_once : (turn : Turn) (done : ℕ) → turn ≢ Memory → done_by turn done ≡ raised done
raised_once Moved done memory = refl
raised_once Idle done memory = refl
raised_once (Blocked target) done memory = refl
raised_once Closed done memory = refl
raised_once Memory done memory = absurd (memory refl)

-- each turn with memory counts once, until the count stays
pub counts_turns : (old new : WorldShape) (numbers : List ℕ) → old.done < 2 ^ 64 → HaveTurned old new numbers
    → new.done ≡ done_after (length numbers) old.done
counts_turns old new [] below have =
    let same = ap (λ (w : WorldShape). w.done) have in
    let stays : old.done ≡ done_after 0 old.done = grind arith in same ∙ stays
counts_turns old new (number ∷ numbers) below have =
    let once : have.0.done ≡ raised old.done = ap (λ (w : WorldShape). w.done) have.1.2.is ∙ raised_once have.1.0 old.done have.1.1 in
    let under : have.0.done < 2 ^ 64 = grind arith in
    let then = counts_turns have.0 new numbers under have.2 in
    let all : done_after (length numbers) (raised old.done) ≡ done_after (length (number ∷ numbers)) old.done = grind arith in
    then ∙ ap (done_after (length numbers)) once ∙ all

-- a turn that finds no memory doesn't count
pub stopped_done : (start between end : WorldShape) (numbers : List ℕ) (count number : ℕ) → start.done < 2 ^ 64 → length numbers ≡ count
    → HaveTurned start between numbers → WorldTurned between end number Memory → end.done ≡ done_after count start.done
stopped_done start between end numbers count number below long have stopped =
    ap (λ (w : WorldShape). w.done) stopped.is ∙ counts_turns start between numbers below have
    ∙ ap (λ (n : ℕ). done_after n start.done) long

then_done : (front count done : ℕ) → done_after count (done_after front done) ≡ done_after (front + count) done
then_done front count done = grind arith

get_behind : (front back : List ℕ) (k : ℕ) → slice_get (front ++ back) (length front + k) ≡ slice_get back k
get_behind [] back k = let same : 0 + k ≡ k = omega arith in ap (slice_get back) same
get_behind (number ∷ front) back k =
    let same : length (number ∷ front) + k ≡ suc (length front + k) = omega arith in
    ap (slice_get (number ∷ front ++ back)) same ∙ get_behind front back k

pub stopped_then : (start between end : WorldShape) (front back : List ℕ) → start.done < 2 ^ 64 → HaveTurned start between front
    → HasStopped between end back
    → HasStopped start end (front ++ back)
stopped_then start between end front back below first then = record {
  count = length front + then.count;
  between = then.between;
  turned = subst (HaveTurned start then.between) (sym (take-append-add front back then.count))
      (have_then start between then.between front (take then.count back) first then.turned);
  number = then.number;
  there = get_behind front back then.count ∙ then.there;
  stopped = then.stopped;
  done = then.done ∙ ap (done_after then.count) (counts_turns start between front below first)
      ∙ then_done (length front) then.count start.done;
}

-- numbers in order, and one more
range_more : (start count end : ℕ) → start + count ≡ end → range_with_len start (count + 1) ≡ range_with_len start count ++ end ∷ []
range_more start zero end is = let same : start ≡ end = omega arith in ap (λ (n : ℕ). n ∷ []) same
range_more start (suc count) end is =
    let on : start + 1 + count ≡ end = omega arith in
    let long : suc count + 1 ≡ suc (count + 1) = omega arith in
    ap (range_with_len start) long ∙ ap (λ (l : List ℕ). start ∷ l) (range_more (start + 1) count end on)

first_of : (start count front : ℕ) → front ≤ count → take front (range_with_len start count) ≡ range_with_len start front
first_of start count zero within = refl
first_of start zero (suc front) within = absurd (omega arith)
first_of start (suc count) (suc front) within = ap (λ (l : List ℕ). start ∷ l) (first_of (start + 1) count front (omega arith))

-- the turn of the next actor in order
pub one_further : (start old new : WorldShape) (number : ℕ) (turn : Turn) → turn ≢ Memory → HaveTurned start old (range_with_len 0 number)
    → WorldTurned old new number turn → HaveTurned start new (range_with_len 0 (number + 1))
one_further start old new number turn memory have turned =
    let same : 0 + number ≡ number = omega arith in
    subst (HaveTurned start new) (sym (range_more 0 number number same))
    (have_more start old new (range_with_len 0 number) number turn have memory turned)

-- or it found no memory
pub stops_in_order : (start old new : WorldShape) (count number : ℕ) → start.done < 2 ^ 64 → number < count
    → HaveTurned start old (range_with_len 0 number) → WorldTurned old new number Memory → HasStopped start new (range_with_len 0 count)
stops_in_order start old new count number few below have turned =
    let long = length-range_with_len 0 count in
    let same : 0 + number ≡ number = omega arith in
    record {
      count = number;
      between = old;
      turned = subst (HaveTurned start old) (sym (first_of 0 count number (omega arith))) have;
      number = number;
      there = slice_get-get_or (range_with_len 0 count) number 0 (omega arith)
          ∙ ap Some (get_or-range_with_len 0 count number 0 below ∙ same);
      stopped = turned;
      done = stopped_done start old new (range_with_len 0 number) number number few (length-range_with_len 0 number) have turned;
    }
