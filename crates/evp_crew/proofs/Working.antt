-- What a worker does with a seat keeps what holds of the worker.
use Rattle.std.proofs.Common.{◌≡◌, List, [], ◌∷◌, ◌++◌, Option, Some, sym, subst, ⊎_elim}
use Rattle.evp_stone.specs.declared.turn.Turn.{Turn}
use Rattle.evp_stone.specs.declared.turn.Turn.TheVariants.{Moved, Idle, Blocked, Closed, Memory}
use Rattle.evp_stone.specs.Actor.{Role}
use Rattle.evp_stone.specs.Closed.{IsClosed}
use Rattle.evp_stone.specs.JobShape.{JobShape}
use Rattle.evp_stone.specs.Turned.{Counted, RoleGoes}
use Rattle.evp_stone.proofs.Elements.{snoc_at}
use Rattle.evp_stone.proofs.SameActor.{found_closed}
use Rattle.evp_crew.specs.declared.three.Three.{Three}
use Rattle.evp_crew.specs.Done.{IfClosed, IsDone, AreDone}
use Rattle.evp_crew.specs.Rule.{IsServed, IsOfThree}
use Rattle.evp_crew.specs.Seat.{SeatShape}

pub closed_if : (job : JobShape) (before after : Counted) (old new : Role) (turn : Turn) → RoleGoes job before after old new turn
    → IfClosed turn (IsClosed job new)
closed_if job before after old new Moved goes = tt
closed_if job before after old new Idle goes = tt
closed_if job before after old new (Blocked target) goes = tt
closed_if job before after old new Closed goes = (found_closed job before after old new goes).1
closed_if job before after old new Memory goes = tt

-- the turn was the one that found all done
pub closed_at : (turn : Turn) (P : Type 0) → turn ≡ Closed → IfClosed turn P → P
closed_at turn P is if_closed = subst (λ (t : Turn). IfClosed t P) is if_closed

-- a seat that is taken out is of what the pass serves
pub of_three : (v : Option Three) (three : Three) (seat : SeatShape) → v ≡ Some three → IsServed v seat → IsOfThree three seat
of_three v three seat is served = subst (λ (o : Option Three). IsServed o seat) is served

pub served_by : (v : Option Three) (three : Three) (seat : SeatShape) → v ≡ Some three → IsOfThree three seat → IsServed v seat
served_by v three seat is of = subst (λ (o : Option Three). IsServed o seat) (sym is) of

-- one closed seat more
pub done_one : (three : Three) (seats : List SeatShape) (seat : SeatShape) → IsDone three seat → AreDone three seats
    → AreDone three (seats ++ seat ∷ [])
done_one three seats seat done are place s at =
    ⊎_elim (are place s) (λ e. subst (IsDone three) e.1 done) (snoc_at seats seat s place at)
