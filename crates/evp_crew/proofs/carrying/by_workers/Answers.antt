use Rattle.std.proofs.Common.{◌≡◌, ℕ, sym, subst, arith}
use Rattle.std.proofs.lemmas.List.{with_items_is}
use Rattle.std.proofs.lemmas.Option.{get_or_from_slice_get}
use Rattle.std.specs.Prelude.{IfSome}
use Rattle.evp_stone.proofs.Elements.{there_below}
use Rattle.evp_crew.specs.Carried.{AreFirst}
use Rattle.evp_crew.specs.Gathering.{AllWork}
use Rattle.evp_crew.specs.Parting.{actors_of}
use Rattle.evp_crew.specs.Rota.{three}
use Rattle.evp_crew.specs.Rule.{IsOfThree}
use Rattle.evp_crew.proofs.carrying.by_workers.Goals as goal

pub rotas_of-requires : goal.rotas_of-requires
rotas_of-requires g c = λ k d below.
    let t = three c.args.job.now c.args.cache.now c.in_ok-crew.crew in
    let seats = c.in_ok-crew.seats.items in
    let seat = there_below seats k below in
    subst (IsOfThree t) (sym (get_or_from_slice_get seats k seat.0 d seat.1)) (c.in_ok-crew.ensures.each k seat.0 seat.1).of

pub work_all-requires-clause-work : goal.work_all-requires-clause-work
work_all-requires-clause-work g c κs within =
    let t = three c.args.job.now c.args.cache.now c.in_ok-crew.crew in
    subst (AllWork c.as_slice.result.now t) (sym c.as_mut_slice-2.ensures.value) c.in_ok-all.ensures.work

pub new-requires-in-Some-2 : goal.new-requires-in-Some-2
new-requires-in-Some-2 g c =
    let job = c.args.job.now in
    let t = three job c.args.cache.now c.in_ok-crew.crew in
    let rotas = c.as_slice.result.now in
    let after = c.work_all.new.all in
    let long = c.work_all.ensures.long in
    let before = c.as_mut_slice-2.ensures.len in
    let whole = c.in_ok-all.all.ok.0 in
    let items = with_items_is c.in_ok-all.all after (omega arith) in
    let found = c.in_ok-seats.ensures rotas t (subst (AllWork rotas t) (sym items) c.work_all.ensures.work) in
    let opening = c.in_ok-crew.ensures.long in
    let seats = c.in_ok-crew.seats.ok.0 in
    let count : c.len-count.result ≡ actors_of job = omega (arith, c.len-count.ensures) in
    subst (λ (n : ℕ). AreFirst t n c.in-Some-2.seats.items) count
    (subst (λ o. IfSome o (λ seats. AreFirst t c.len-count.result seats.items)) c.in-Some-2.is found)
