-- What a worker carries may go to another thread, and what all workers share may be seen by several.
use denote.Ref.{NamedLft}
use denote.Param.Send.{IsSend, IsSync, sendable}
use Rattle.std.proofs.Crossing.{crosses}
use Rattle.crossbeam_queue.proofs.array_queue.Slotted.TheSendSync as slotted
use Rattle.atomic_table.proofs.shared.Seat.TheSendSync as table
use Rattle.evp_cache.proofs.plan_cache.PlanCache.TheSendSync as cache
use Rattle.evp_stone.proofs.actor.Actor.TheSendSync as actor
use Rattle.evp_stone.proofs.job.Job.TheSendSync as job
use Rattle.evp_crew.proofs.crew.Crew.TheSendSync as crew
use Rattle.evp_crew.proofs.passes.Passes.TheSendSync as passes
use Rattle.evp_crew.specs.contracts.rota.Rota as Rota
use Rattle.evp_crew.specs.contracts.rota.RotaPass as RotaPass
use Rattle.evp_crew.specs.contracts.seat.Seat as Seat
use Rattle.evp_crew.specs.contracts.worker.Office as Office
use Rattle.evp_crew.specs.contracts.worker.Worker as Worker

seat_send : IsSend Seat.the_row
seat_send = let a = actor.the_send in let p = passes.the_field_send in search (sendable, crosses) depth 20

pass_send : IsSend (RotaPass.the_field).row
pass_send = let s = seat_send in search (sendable, crosses, table.the_send) depth 20

pub worker_send : IsSend Worker.the_row
worker_send = let s = seat_send in let p = pass_send in search (sendable, crosses) depth 20

rota_sync : IsSync (Rota.the_field).row
rota_sync = let s = seat_send in search (sendable, crosses, slotted.the_field_sync) depth 20

pub office_sync : (κ : NamedLft) → IsSync (Office.the_field κ).row
office_sync κ =
    let j = job.the_sync in
    let c = cache.the_sync in
    let w = crew.the_field_sync in
    let r = rota_sync in
    search (sendable, crosses) depth 20
