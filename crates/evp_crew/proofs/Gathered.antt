-- Seats that were found closed come to their places, and are read from them in order.
use Rattle.std.proofs.Common.{◌≡◌, ◌≢◌, ℕ, ◌+◌, ◌<◌, ◌≤◌, List, [], ◌∷◌, ◌++◌, length, set, Option, Some, None}
use Rattle.std.proofs.Common.{refl, sym, ap, subst, ◌∙◌, ⊎_elim, arith, length-append}
use Rattle.std.proofs.lemmas.Bool.Decides.{eqb_tells}
use Rattle.std.specs.List.{slice_get}
use Rattle.evp_stone.proofs.Change.{set_here, set_elsewhere}
use Rattle.evp_stone.proofs.Elements.{snoc_at, there_below}
use Rattle.evp_crew.specs.declared.rota.Rota.{Rota}
use Rattle.evp_crew.specs.declared.three.Three.{Three}
use Rattle.evp_crew.specs.declared.worker.Worker.{Worker}
use Rattle.evp_crew.specs.Carried.{IsDoneAt, AreSlots, AreFirst}
use Rattle.evp_crew.specs.Done.{IsDone, AreDone, WorksAt}
use Rattle.evp_crew.specs.Gathering.{AllWork}
use Rattle.evp_crew.specs.Seat.{SeatShape}
use Rattle.evp_crew.proofs.Lists.{front_at, last_there}

same_seat : (a b : SeatShape) → Some (Some a) ≡ Some (Some b) → a ≡ b
same_seat a b same = cc

-- a seat comes to its place
pub slot_set : (three : Three) (slots : List (Option SeatShape)) (number : ℕ) (seat : SeatShape) → number ≡ seat.number
    → number < length slots → IsDone three seat → AreSlots three slots → AreSlots three (set slots number (Some seat))
slot_set three slots number seat is below done are place s at =
    ⊎_elim (λ e.
    let was = there_below slots number below in
    let same : seat ≡ s = same_seat seat s
    (sym (set_here slots number was.0 (Some seat) was.1) ∙ ap (slice_get (set slots number (Some seat))) (sym e.1) ∙ at) in
    subst (IsDoneAt three place) same record { number_is = sym is ∙ sym e.1; done = done })
    (λ e. are place s (sym (set_elsewhere slots number place (Some seat) e.1) ∙ at))
    (eqb_tells place number)

-- one place more without a seat
pub slots_none : (three : Three) (slots : List (Option SeatShape)) → AreSlots three slots → AreSlots three (slots ++ None ∷ [])
slots_none three slots are place seat at =
    ⊎_elim (are place seat) (λ e. absurd (let none = e.1 in cc)) (snoc_at slots None (Some seat) place at)

-- the last seat is taken off
pub done_front : (three : Three) (all seats : List SeatShape) (seat : SeatShape) → all ≡ seats ++ seat ∷ [] → AreDone three all
    → AreDone three seats
done_front three all seats seat is are place s at =
    are place s (ap (λ (l : List SeatShape). slice_get l place) is ∙ front_at seats (seat ∷ []) place s at)

pub done_last : (three : Three) (all seats : List SeatShape) (seat : SeatShape) → all ≡ seats ++ seat ∷ [] → AreDone three all
    → IsDone three seat
done_last three all seats seat is are =
    are (length seats) seat (ap (λ (l : List SeatShape). slice_get l (length seats)) is ∙ last_there seats seat (length seats) refl)

pub work_front : (rotas : List Rota) (three : Three) (all workers : List Worker) (worker : Worker) → all ≡ workers ++ worker ∷ []
    → AllWork rotas three all → AllWork rotas three workers
work_front rotas three all workers worker is are place w at =
    are place w (ap (λ (l : List Worker). slice_get l place) is ∙ front_at workers (worker ∷ []) place w at)

pub work_last : (rotas : List Rota) (three : Three) (all workers : List Worker) (worker : Worker) → all ≡ workers ++ worker ∷ []
    → AllWork rotas three all → WorksAt rotas three worker
work_last rotas three all workers worker is are =
    are (length workers) worker
    (ap (λ (l : List Worker). slice_get l (length workers)) is ∙ last_there workers worker (length workers) refl)

pub work_one : (rotas : List Rota) (three : Three) (workers : List Worker) (worker : Worker) → AllWork rotas three workers
    → WorksAt rotas three worker → AllWork rotas three (workers ++ worker ∷ [])
work_one rotas three workers worker are works place w at =
    ⊎_elim (are place w) (λ e. subst (WorksAt rotas three) e.1 works) (snoc_at workers worker w place at)

-- so far the seats of the places below this number were read
pub record SoFar (three : Three) (behind : ℕ) (slots : List (Option SeatShape)) (seats : List SeatShape) : Type 0 where
  pub first : AreFirst three behind seats
  pub slots_are : (place : ℕ) (seat : SeatShape) → behind ≤ place → slice_get slots place ≡ Some (Some seat)
      → IsDoneAt three place seat

pub so_far_none : (three : Three) (slots : List (Option SeatShape)) (seats : List SeatShape) → seats ≡ [] → AreSlots three slots
    → SoFar three 0 slots seats
so_far_none three slots seats none are =
    subst (SoFar three 0 slots) (sym none) record {
      first = record { long = refl; each = λ number seat at. absurd (cc) };
      slots_are = λ place seat from at. are place seat at;
    }

pub so_far_one : (three : Three) (behind : ℕ) (slots : List (Option SeatShape)) (seats : List SeatShape) (seat : SeatShape)
    → slice_get slots behind ≡ Some (Some seat) → SoFar three behind slots seats
    → SoFar three (behind + 1) (set slots behind None) (seats ++ seat ∷ [])
so_far_one three behind slots seats seat at was = record {
  first = record {
    long = omega (arith, length-append seats (seat ∷ []), was.first.long);
    each = λ number s there.
        ⊎_elim (was.first.each number s)
        (λ e. subst (λ (n : ℕ). IsDoneAt three n s) (sym (e.0 ∙ was.first.long))
        (subst (IsDoneAt three behind) e.1 (was.slots_are behind seat (omega arith) at)))
        (snoc_at seats seat s number there);
  };
  slots_are = λ place s from there.
      let apart : place ≢ behind = λ same. absurd (omega arith) in
      was.slots_are place s (omega arith) (sym (set_elsewhere slots behind place None apart) ∙ there);
}

pub none_done : (three : Three) (seats : List SeatShape) → seats ≡ [] → AreDone three seats
none_done three seats none = subst (AreDone three) (sym none) (λ place seat at. absurd (cc))

pub none_work : (rotas : List Rota) (three : Three) (workers : List Worker) → workers ≡ [] → AllWork rotas three workers
none_work rotas three workers none = subst (AllWork rotas three) (sym none) (λ place worker at. absurd (cc))
