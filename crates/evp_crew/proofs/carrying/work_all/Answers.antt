use denote.Param.Send.{sendable}
use Rattle.std.proofs.Crossing.{crosses}
use Rattle.std.proofs.Common.{◌<◌, length, refl, subst, ◌∙◌, arith}
use Rattle.std.proofs.lemmas.Option.{slice_get_read, slice_get_within, get_or_from_slice_get}
use Rattle.evp_crew.specs.Done.{WorksAt}
use Rattle.evp_crew.specs.Rota.{three}
use Rattle.evp_crew.proofs.Crossing.{worker_send, office_sync}
use Rattle.evp_crew.proofs.carrying.work_all.Goals as goal

pub each_in-requires-send-T : goal.each_in-requires-send-T
each_in-requires-send-T g c κs within = let s = worker_send in search (sendable, crosses) depth 20

pub each_in-requires-sync-F : goal.each_in-requires-sync-F
each_in-requires-sync-F g c κs within = let o = office_sync in search (sendable, crosses) depth 20

pub each_in-requires-after_bounds : goal.each_in-requires-after_bounds
each_in-requires-after_bounds g c κs within = λ i p below is.
    (c.requires.watch, c.requires.work i p.now (slice_get_read c.args.all.now (length c.args.all.now) i p.now refl below is))

pub returns-clause-work : goal.returns-clause-work
returns-clause-work g c = λ place worker at.
    let all = c.args.all.now in
    let office = c.args.office.now in
    let here = slice_get_within c.each_in.new.all place worker at in
    let below : place < length all = omega arith in
    let change = (c.each_in.ensures place worker below).1 in
    subst (WorksAt office.rotas.now (three office.job.now office.cache.now office.crew.now))
    (change.left ∙ get_or_from_slice_get c.each_in.new.all place worker worker at) change.call
