use Rattle.evp_crew.specs.Rota.{three}
use Rattle.evp_crew.proofs.Serving.{serving_at, serving_kept}
use Rattle.evp_crew.proofs.Working.{served_by}
use Rattle.evp_crew.proofs.worker.Worker.put_back.Goals as goal

pub put-requires-clause-pass : goal.put-requires-clause-pass
put-requires-clause-pass g c =
    let office = c.args.office.now in
    let t = three office.job.now office.cache.now office.crew.now in
    (serving_at t office.rotas.now c.args.self.now.desks.items c.args.number c.index-office-number.result c.index_mut.result.now
    c.requires.works.desks c.requires.number c.index_mut.ensures.value).serves

pub put-requires-clause-seat : goal.put-requires-clause-seat
put-requires-clause-seat g c =
    let office = c.args.office.now in
    let t = three office.job.now office.cache.now office.crew.now in
    let serving = serving_at t office.rotas.now c.args.self.now.desks.items c.args.number c.index-office-number.result
    c.index_mut.result.now c.requires.works.desks c.requires.number c.index_mut.ensures.value in
    served_by _ t c.args.seat serving.knows c.requires.seat

pub returns-in-Ok-clause-works : goal.returns-in-Ok-clause-works
returns-in-Ok-clause-works g c =
    let office = c.args.office.now in
    let t = three office.job.now office.cache.now office.crew.now in
    record {
      desks = serving_kept t office.rotas.now c.args.self.now.desks.items c.args.number c.index-office-number.result
          c.index_mut.result.now c.requires.works.desks c.requires.number c.index_mut.ensures.value
          record { pass = c.put.new.pass; is_closed = c.index_mut.result.now.is_closed } c.put.ensures.pass;
      closed = c.requires.works.closed;
    }

pub returns-in-Err-clause-works : goal.returns-in-Err-clause-works
returns-in-Err-clause-works g c =
    let office = c.args.office.now in
    let t = three office.job.now office.cache.now office.crew.now in
    record {
      desks = serving_kept t office.rotas.now c.args.self.now.desks.items c.args.number c.index-office-number.result
          c.index_mut.result.now c.requires.works.desks c.requires.number c.index_mut.ensures.value
          record { pass = c.put.new.pass; is_closed = c.index_mut.result.now.is_closed } c.put.ensures.pass;
      closed = c.requires.works.closed;
    }
