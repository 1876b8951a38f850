use Rattle.std.proofs.Common.{List, length, sym, ap, subst, arith, length-append}
use Rattle.evp_crew.specs.declared.worker.Worker.{Worker}
use Rattle.evp_crew.specs.Gathering.{AllWork}
use Rattle.evp_crew.specs.Rota.{three}
use Rattle.evp_crew.proofs.Gathered.{work_one, none_done}
use Rattle.evp_crew.proofs.carrying.hired.Goals as goal

pub loop-number-preserved : goal.loop-number-preserved
loop-number-preserved g c =
    let was = c.loop-number.invariant in
    let office = c.args.office.now in
    let t = three office.job.now office.cache.now office.crew.now in (
      c.in_ok-more_desks.ensures.kept,
      (
        subst (λ (l : List Worker). AllWork office.rotas.now t l) (sym c.in_ok-add.ensures)
            (work_one office.rotas.now t c.loop-number.all.items _ was.1.0
            record {
              desks = c.in_ok-more_desks.ensures.more;
              closed = none_done t c.in_ok-with_capacity.field-0.items c.in_ok-with_capacity.ensures.items;
            }),
        let more = ap length c.in_ok-add.ensures in let so_far = was.1.1 in omega (arith, length-append {A = Worker}),
      ),
    )
