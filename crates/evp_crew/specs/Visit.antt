-- What holds of an actor and its port while a worker does turns with them.
use Rattle.std.specs.Prelude.{◌≡◌, ℕ}
use Rattle.evp_stone.specs.Actor.{ActorShape}
use Rattle.evp_crew.specs.declared.three.Three.{Three}
use Rattle.evp_crew.specs.Ends.{PortShape}
use Rattle.evp_crew.specs.Seat.{IsSeat}

-- the port is at the queues of this job and crew, and its passes with the actor make a seat
pub record Sits (three : Three) (number : ℕ) (actor : ActorShape) (port : PortShape) : Type 0 where
  pub job_is : port.job ≡ three.job
  pub crew_is : port.crew ≡ three.crew
  pub seat : IsSeat record {
    number = number;
    actor = actor;
    passes = port.passes;
    job = three.job;
    cells = three.cache;
    crew = three.crew;
  }
