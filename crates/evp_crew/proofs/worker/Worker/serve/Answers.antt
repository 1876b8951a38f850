use Rattle.std.proofs.Common.{sym, subst}
use Rattle.evp_crew.specs.Done.{IsDone, AreDone}
use Rattle.evp_crew.specs.Rota.{three}
use Rattle.evp_crew.proofs.Serving.{same_pass}
use Rattle.evp_crew.proofs.Working.{done_one, closed_at}
use Rattle.evp_crew.proofs.worker.Worker.serve.Goals.{in-Ok, in-Err}
use Rattle.evp_crew.proofs.worker.Worker.serve.Goals as goal

pub returns-after-push-clause-works : goal.returns-after-push-clause-works
returns-after-push-clause-works g c =
    let office = c.args.office.now in
    let t = three office.job.now office.cache.now office.crew.now in
    let was = c.requires.works in
    let done : IsDone t c.visit-turn.new.seat = record {
      of = c.visit-turn.ensures.of;
      kept = c.number-number.ensures.kept;
      closed = closed_at _ _ c.in-Closed.is c.visit-turn.ensures.closed;
    } in
    let closed : AreDone t c.push.new.self.items = elim c.match-push.branch [
      | in-Ok w ↦
          subst (AreDone t) (sym w.in-Ok.ensures.items)
          (done_one t c.args.self.now.closed.items c.visit-turn.new.seat done was.closed)
      | in-Err w ↦ subst (AreDone t) (sym w.in-Err.ensures.items) was.closed
    ] in
    record {
      desks = same_pass t office.rotas.now c.args.self.now.desks.items c.args.number c.index_mut.result.now _
          was.desks c.requires.number c.index_mut.ensures.value;
      closed = closed;
    }
