-- Workers, and the seats that they found closed.
use Rattle.std.specs.Prelude.{◌≡◌, ◌<◌, ℕ, List, Some, length, slice_get}
use Rattle.evp_stone.specs.declared.turn.Turn.{Turn}
use Rattle.evp_stone.specs.declared.turn.Turn.TheVariants.{Moved, Idle, Blocked, Closed, Memory}
use Rattle.evp_crew.specs.declared.rota.Rota.{Rota}
use Rattle.evp_crew.specs.declared.three.Three.{Three}
use Rattle.evp_crew.specs.declared.worker.Next.{Next}
use Rattle.evp_crew.specs.declared.worker.Next.TheVariants.{Take, Hold, End}
use Rattle.evp_crew.specs.declared.worker.Worker.{Worker}
use Rattle.evp_stone.specs.Closed.{IsClosed}
use Rattle.evp_crew.specs.Rota.{AreServing}
use Rattle.evp_crew.specs.Rule.{IsOfThree}
use Rattle.evp_crew.specs.Seat.{SeatShape, IsSeat}

-- where the turn found that all is done
abbrev pub IfClosed : Turn → Type 0 → Type 0
IfClosed Moved P = Unit {0}
IfClosed Idle P = Unit {0}
IfClosed (Blocked target) P = Unit {0}
IfClosed Closed P = P
IfClosed Memory P = Unit {0}

-- a closed seat of this job, cache and crew
pub record IsDone (three : Three) (seat : SeatShape) : Type 0 where
  pub of : IsOfThree three seat
  pub kept : IsSeat seat
  pub closed : IsClosed three.job seat.actor.role

abbrev pub AreDone : Three → List SeatShape → Type 0
AreDone three seats = (place : ℕ) (seat : SeatShape) → slice_get seats place ≡ Some seat
    → IsDone three seat

-- a worker at these rotas
pub record WorksAt (rotas : List Rota) (three : Three) (worker : Worker) : Type 0 where
  pub desks : AreServing three rotas worker.desks.items
  pub closed : AreDone three worker.closed.items

-- the seat with which a worker goes on is one of theirs, out of a rota that there is
abbrev pub GoesOnWith : List Rota → Three → Next → Type 0
GoesOnWith rotas three Take = Unit {0}
GoesOnWith rotas three (Hold number seat) = (number < length rotas) × IsOfThree three seat
GoesOnWith rotas three End = Unit {0}
