use Rattle.std.proofs.Common.{refl, sym, subst}
use Rattle.evp_stone.specs.Fed.{fed}
use Rattle.evp_stone.specs.Feeding.{HasFed}
use Rattle.evp_stone.specs.Port.{Rose}
use Rattle.evp_stone.specs.Turned.{OneFed}
use Rattle.evp_stone.proofs.Backs.{full_back}
use Rattle.evp_stone.proofs.FedStep.{goes_on, may_be_given, fed_more, goes}
use Rattle.evp_stone.proofs.feeder.Feeder.give.Goals as goal

pub give-requires : goal.give-requires
give-requires g c =
    let before = c.args.port.now in
    let job = c.args.job.now in
    let work = fed c.args.self.now in
    let state = c.requires.state in
    let on = goes_on job work c.requires.more in
    may_be_given job (g.P.Port.given before) work state c.args.entry c.requires.next on.part _ on.to (g.P.Port.is_of before)
    c.target_of-target.result c.requires.of (sym (c.target_of-target.ensures state.route state.there))

pub returns-in-Ok-clause-state : goal.returns-in-Ok-clause-state
returns-in-Ok-clause-state g c =
    let before = c.args.port.now in
    let after = c.give.new.self in
    let job = c.args.job.now in
    let work = fed c.args.self.now in
    let on = goes_on job work c.requires.more in
    subst (HasFed job (g.P.Port.given after)) (sym c.go_on.ensures)
    (fed_more job (g.P.Port.given before) work c.requires.state c.args.entry c.requires.next on.part _ on.to
    (g.P.Port.given after) c.in-Ok.ensures.given)

pub returns-in-Ok-clause-turned : goal.returns-in-Ok-clause-turned
returns-in-Ok-clause-turned g c =
    let job = c.args.job.now in
    let work = fed c.args.self.now in
    let on = goes_on job work c.requires.more in
    let next = c.requires.next in
    goes job _ _ work (fed c.go_on.new.self) _ on.part _ on.to.comes (
      (
        c.args.entry,
        record { taken = c.in-Ok.ensures.taken; given = c.in-Ok.ensures.given },
        next.route,
        next.stands on.part _ on.to.comes,
      ),
      subst (OneFed work) (sym c.go_on.ensures) on.to.fed,
    )

pub returns-in-Err-Full-clause-turned : goal.returns-in-Err-Full-clause-turned
returns-in-Err-Full-clause-turned g c =
    let before = c.args.port.now in
    let after = c.give.new.self in
    let job = c.args.job.now in
    let work = fed c.args.self.now in
    let state = c.requires.state in
    let target = c.target_of-target.result in
    let on = goes_on job work c.requires.more in
    let back = c.in-Err-Full.ensures.back in
    let entry = full_back c.args.entry c.in-Err-Full.field-0-0 c.in-Err-Full.field-0
    (Rose (g.P.Port.fulls before target) (g.P.Port.fulls after target)) c.in-Err-Full.field-0-is back.cause in
    goes job _ _ work work _ on.part _ on.to.comes (
      record {
        same = record { taken = c.in-Err-Full.ensures.taken; given = back.same };
        leads = record { route = state.route; there = state.there; last = sym (c.target_of-target.ensures state.route state.there) };
        rose = entry.1;
      },
      refl,
    )

pub returns-clause-turned : goal.returns-clause-turned
returns-clause-turned g c =
    let job = c.args.job.now in
    let work = fed c.args.self.now in
    let on = goes_on job work c.requires.more in
    goes job _ _ work work _ on.part _ on.to.comes
    (record { taken = c.in-Err-Memory.ensures.taken; given = c.in-Err-Memory.ensures.back.same }, refl)
