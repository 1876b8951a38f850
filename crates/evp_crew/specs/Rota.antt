-- What a clause says of a rota and of its passes.
use Rattle.std.specs.Prelude.{◌≡◌, ℕ, List, Option, Some, length, slice_get}
use Rattle.crossbeam_queue.specs.Passes.{view, IsPassOf, ruled_capacity}
use Rattle.evp_cache.specs.Known.{Cells}
use Rattle.evp_stone.specs.JobShape.{JobShape}
use Rattle.evp_crew.specs.declared.crew.Crew.{Crew}
use Rattle.evp_crew.specs.declared.rota.Rota.{Rota}
use Rattle.evp_crew.specs.declared.rota.RotaPass.{RotaPass}
use Rattle.evp_crew.specs.declared.three.Three.{Three}
use Rattle.evp_crew.specs.declared.worker.Desk.{Desk}

abbrev pub three : JobShape → Cells → Crew → Three
three job cells crew = record { job = job; cache = cells; crew = crew }

-- of which job, cache and crew the seats of the pass's rota are
abbrev pub three_of : RotaPass → Option Three
three_of pass = view pass.pass

-- how many seats the rota holds at most
abbrev pub room_of : Rota → ℕ
room_of rota = ruled_capacity rota.ring

-- it is a pass of this rota
abbrev pub ServesIn : Rota → RotaPass → Type 0
ServesIn rota pass = IsPassOf rota.ring pass.pass × ((t : Three) × (three_of pass ≡ Some t))

-- it is a pass of this rota, whose seats are of this job, cache and crew
pub record IsServing (three : Three) (rota : Rota) (pass : RotaPass) : Type 0 where
  pub serves : ServesIn rota pass
  pub knows : three_of pass ≡ Some three

-- a desk at each of these rotas, in their order
pub record AreServing (three : Three) (rotas : List Rota) (desks : List Desk) : Type 0 where
  pub long : length desks ≡ length rotas
  pub each : (place : ℕ) (rota : Rota) (desk : Desk) → slice_get rotas place ≡ Some rota
      → slice_get desks place ≡ Some desk → IsServing three rota desk.pass
