use Rattle.std.proofs.Common.{◌∷◌, [], sym, ap, subst, length, arith, length-append}
use Rattle.evp_crew.specs.declared.rota.RotaPass.{RotaPass}
use Rattle.evp_crew.specs.Rota.{IsServing}
use Rattle.evp_crew.proofs.Serving.{serving_more}
use Rattle.evp_crew.proofs.seating.add_rota.Goals as goal

pub returns-clause-serving : goal.returns-clause-serving
returns-clause-serving c = λ t are is.
    serving_more t c.args.rotas.now.items _ c.args.desks.now.items _ c.args.rota c.desk_of.result c.in_ok-add.ensures c.in_ok-add-2.ensures are
    (subst (λ (p : RotaPass). IsServing t c.args.rota p) (sym c.desk_of.ensures) is)

pub returns-clause-one : goal.returns-clause-one
returns-clause-one c =
    let more = ap length c.in_ok-add.ensures in
    let one = length-append c.args.rotas.now.items (c.args.rota ∷ []) in omega arith
