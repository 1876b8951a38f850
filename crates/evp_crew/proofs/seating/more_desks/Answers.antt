use Rattle.std.proofs.Common.{sym, ap, subst, ◌∙◌, arith, slice_index_or}
use Rattle.evp_crew.specs.declared.rota.RotaPass.{RotaPass}
use Rattle.evp_crew.specs.Rota.{three, IsServing}
use Rattle.evp_crew.proofs.Serving.{serving_at, serving_kept, serving_next, serving_all}
use Rattle.evp_crew.proofs.seating.more_desks.Goals as goal

pub split-requires : goal.split-requires
split-requires g c =
    let office = c.args.office.now in
    let t = three office.job.now office.cache.now office.crew.now in
    let desk = slice_index_or c.loop-place.desks c.loop-place.place c.index-desks-place.result in
    (serving_at t office.rotas.now c.loop-place.desks c.loop-place.place c.index-office-place.result desk
    c.loop-place.invariant.0 c.loop-place-test.true (ap (slice_index_or c.loop-place.desks c.loop-place.place) c.index-desks-place.is)).serves

pub returns-in_err-pass-clause-kept : goal.returns-in_err-pass-clause-kept
returns-in_err-pass-clause-kept g c =
    let office = c.args.office.now in
    let t = three office.job.now office.cache.now office.crew.now in
    let desk = slice_index_or c.loop-place.desks c.loop-place.place c.index-desks-place.result in
    serving_kept t office.rotas.now c.loop-place.desks c.loop-place.place c.index-office-place.result desk
    c.loop-place.invariant.0 c.loop-place-test.true (ap (slice_index_or c.loop-place.desks c.loop-place.place) c.index-desks-place.is)
    record { pass = c.split.new.pass; is_closed = desk.is_closed } c.split.ensures.pass

pub returns-in_err-add-clause-kept : goal.returns-in_err-add-clause-kept
returns-in_err-add-clause-kept g c =
    let office = c.args.office.now in
    let t = three office.job.now office.cache.now office.crew.now in
    let desk = slice_index_or c.loop-place.desks c.loop-place.place c.index-desks-place.result in
    serving_kept t office.rotas.now c.loop-place.desks c.loop-place.place c.index-office-place.result desk
    c.loop-place.invariant.0 c.loop-place-test.true (ap (slice_index_or c.loop-place.desks c.loop-place.place) c.index-desks-place.is)
    record { pass = c.split.new.pass; is_closed = desk.is_closed } c.split.ensures.pass

pub loop-place-preserved : goal.loop-place-preserved
loop-place-preserved g c =
    let office = c.args.office.now in
    let t = three office.job.now office.cache.now office.crew.now in
    let desk = slice_index_or c.loop-place.desks c.loop-place.place c.index-desks-place.result in
    let serving = serving_at t office.rotas.now c.loop-place.desks c.loop-place.place c.index-office-place.result desk
    c.loop-place.invariant.0 c.loop-place-test.true (ap (slice_index_or c.loop-place.desks c.loop-place.place) c.index-desks-place.is) in
    let more = c.in_ok-pass.ensures.more in
    let rota = slice_index_or office.rotas.now c.loop-place.place c.index-office-place.result in (
      serving_kept t office.rotas.now c.loop-place.desks c.loop-place.place c.index-office-place.result desk
          c.loop-place.invariant.0 c.loop-place-test.true (ap (slice_index_or c.loop-place.desks c.loop-place.place) c.index-desks-place.is)
          record { pass = c.split.new.pass; is_closed = desk.is_closed } c.split.ensures.pass,
      serving_next t office.rotas.now c.loop-place.place c.index-office-place.result c.loop-place.more.items c.add.new.list.items
          c.desk_of.result c.loop-place-test.true c.loop-place.invariant.1
          (subst (λ (p : RotaPass). IsServing t rota p) (sym c.desk_of.ensures) record { serves = more.0; knows = more.1 ∙ serving.knows })
          c.in_ok-add.ensures,
    )

pub returns-clause-more : goal.returns-clause-more
returns-clause-more g c =
    let office = c.args.office.now in
    let t = three office.job.now office.cache.now office.crew.now in
    serving_all t office.rotas.now c.loop-place.place c.loop-place.more.items (let past = c.loop-place-test.false in omega arith)
    c.loop-place.invariant.1
