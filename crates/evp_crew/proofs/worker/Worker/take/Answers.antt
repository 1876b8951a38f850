use Rattle.std.proofs.Common.{sym, subst}
use Rattle.evp_crew.specs.Done.{WorksAt}
use Rattle.evp_crew.specs.Rota.{three}
use Rattle.evp_crew.proofs.Serving.{serving_at, serving_kept, same_pass}
use Rattle.evp_crew.proofs.Working.{of_three}
use Rattle.evp_crew.proofs.worker.Worker.take.Goals.{then-not-desk+in_default-take, else-not-desk}
use Rattle.evp_crew.proofs.worker.Worker.take.Goals as goal

pub take-requires : goal.take-requires
take-requires g c =
    let office = c.args.office.now in
    let t = three office.job.now office.cache.now office.crew.now in
    (serving_at t office.rotas.now c.args.self.now.desks.items c.in-Some.number c.index-office-number.result
    c.index_mut-desk.result.now c.requires.desks c.in-Some.ensures c.index_mut-desk.ensures.value).serves

pub returns-in-Some-take-clause-works : goal.returns-in-Some-take-clause-works
returns-in-Some-take-clause-works g c =
    let office = c.args.office.now in
    let t = three office.job.now office.cache.now office.crew.now in
    record {
      desks = serving_kept t office.rotas.now c.args.self.now.desks.items c.in-Some.number c.index-office-number.result
          c.index_mut-desk.result.now c.requires.desks c.in-Some.ensures c.index_mut-desk.ensures.value
          record { pass = c.take.new.pass; is_closed = c.index_mut-desk.result.now.is_closed } c.take.ensures.pass;
      closed = c.requires.closed;
    }

pub returns-in-Some-take-clause-next : goal.returns-in-Some-take-clause-next
returns-in-Some-take-clause-next g c =
    let office = c.args.office.now in
    let t = three office.job.now office.cache.now office.crew.now in
    let serving = serving_at t office.rotas.now c.args.self.now.desks.items c.in-Some.number c.index-office-number.result
    c.index_mut-desk.result.now c.requires.desks c.in-Some.ensures c.index_mut-desk.ensures.value in
    (c.in-Some.ensures, of_three _ t c.in-Some-take.seat serving.knows c.in-Some-take.ensures.seat)

pub returns-clause-works : goal.returns-clause-works
returns-clause-works g c =
    let office = c.args.office.now in
    let t = three office.job.now office.cache.now office.crew.now in
    elim c.if-not-desk.branch [
      | then-not-desk+in_default-take w ↦
          subst (WorksAt office.rotas.now t) (sym w.self-is) record {
            desks = serving_kept t office.rotas.now c.args.self.now.desks.items c.in-Some.number w.index-office-number.result
                c.index_mut-desk.result.now c.requires.desks c.in-Some.ensures c.index_mut-desk.ensures.value
                record { pass = w.take.new.pass; is_closed = c.index_mut-desk.result.now.is_closed } w.take.ensures.pass;
            closed = c.requires.closed;
          }
      | else-not-desk w ↦
          subst (WorksAt office.rotas.now t) (sym w.self-is) record {
            desks = same_pass t office.rotas.now c.args.self.now.desks.items c.in-Some.number c.index_mut-desk.result.now
                c.index_mut-desk.result.now.is_closed c.requires.desks c.in-Some.ensures c.index_mut-desk.ensures.value;
            closed = c.requires.closed;
          }
    ]
