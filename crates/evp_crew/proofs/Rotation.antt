-- One turn of each seat, one after another.
use Rattle.std.proofs.Common.{◌≡◌, ℕ, ◌+◌, List, length, set, Some, sym, ap, subst, ◌∙◌, ⊎_elim, arith, length-set}
use Rattle.std.proofs.lemmas.Bool.Decides.{eqb_tells}
use Rattle.std.proofs.lemmas.Option.{slice_get_within}
use Rattle.std.specs.List.{slice_get}
use Rattle.evp_stone.proofs.Change.{set_here, set_elsewhere}
use Rattle.evp_crew.specs.declared.three.Three.{Three}
use Rattle.evp_crew.specs.Alone.{IsInOrder, AreInOrder, AreClosed}
use Rattle.evp_crew.specs.Carried.{IsDoneAt, AreFirst}
use Rattle.evp_crew.specs.Seat.{SeatShape}

same_seat : (a b : SeatShape) → Some a ≡ Some b → a ≡ b
same_seat a b same = cc

module _ (three : Three) (seats : List SeatShape) (number : ℕ) (was new : SeatShape) (at : slice_get seats number ≡ Some was) where
  here : (s : SeatShape) → slice_get (set seats number new) number ≡ Some s → new ≡ s
  here s there = same_seat new s (sym (set_here seats number was new at) ∙ there)

  pub order_set : (count : ℕ) → AreInOrder three count seats → IsInOrder three was.number new
      → AreInOrder three count (set seats number new)
  order_set count are is = record {
    long = length-set seats number new ∙ are.long;
    each = λ place s there.
        ⊎_elim (λ e.
        let is' = subst (λ (n : ℕ). IsInOrder three n new) ((are.each number was at).number_is) is in
        subst (IsInOrder three place) (here s (ap (slice_get (set seats number new)) (sym e.1) ∙ there))
        (subst (λ (n : ℕ). IsInOrder three n new) (sym e.1) is'))
        (λ e. are.each place s (sym (set_elsewhere seats number place new e.1) ∙ there))
        (eqb_tells place number);
  }

  pub closed_set : IsDoneAt three number new → AreClosed three number seats → AreClosed three (number + 1) (set seats number new)
  closed_set done are place s below there =
      ⊎_elim (λ e. subst (IsDoneAt three place) (here s (ap (slice_get (set seats number new)) (sym e.1) ∙ there))
      (subst (λ (n : ℕ). IsDoneAt three n new) (sym e.1) done))
      (λ e. let apart = e.1 in are place s (omega (arith, apart)) (sym (set_elsewhere seats number place new e.1) ∙ there))
      (eqb_tells place number)

pub whole_closed : (three : Three) (count : ℕ) (seats : List SeatShape) → AreInOrder three count seats
    → AreClosed three (length seats) seats → AreFirst three count seats
whole_closed three count seats order closed = record {
  long = order.long;
  each = λ number seat at. closed number seat (slice_get_within seats number seat at) at;
}
