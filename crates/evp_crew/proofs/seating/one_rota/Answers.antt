use Rattle.std.proofs.Common.{◌∙◌, ap, arith, length}
use Rattle.evp_crew.specs.Rota.{three}
use Rattle.evp_crew.proofs.Serving.{serving_none}
use Rattle.evp_crew.proofs.Working.{served_by}
use Rattle.evp_crew.proofs.seating.one_rota.Goals as goal

pub put_all-requires-clause-seats : goal.put_all-requires-clause-seats
put_all-requires-clause-seats g c = λ k d below. served_by _ _ _ c.in_ok-rota.ensures.three (c.requires k d below)

pub returns-clause-serving : goal.returns-clause-serving
returns-clause-serving g c =
    let t = three c.args.job.now c.args.cache.now c.args.crew.now in
    let none = serving_none t c.in_ok-rotas.rotas.items c.in_ok-desks.desks.items c.in_ok-rotas.ensures.items c.in_ok-desks.ensures.items in
    c.in_ok-add_rota.ensures.serving t none
    record { serves = c.put_all.ensures.pass.0; knows = c.put_all.ensures.pass.1 ∙ c.in_ok-rota.ensures.three }

pub returns-clause-one : goal.returns-clause-one
returns-clause-one g c =
    let more = c.in_ok-add_rota.ensures.one in
    let none = ap length c.in_ok-rotas.ensures.items in omega arith
