use Rattle.std.proofs.Common.{◌≡◌, ◌∷◌, List, refl, sym, ap, subst, ◌∙◌}
use Rattle.std.proofs.lemmas.Option.{slice_get_within}
use Rattle.std.specs.List.{slice_get}
use Rattle.evp_stone.specs.declared.entry.Entry.{Entry}
use Rattle.evp_stone.specs.JobShape.{JobShape}
use Rattle.evp_stone.specs.Port.{Counting, Rose}
use Rattle.evp_stone.specs.Seen.{seen, gives}
use Rattle.evp_stone.specs.State.{HasState, StoneWork}
use Rattle.evp_stone.proofs.Backs.{full_back, memory_back}
use Rattle.evp_stone.proofs.GiveStep.{MayGo, may_go, may_give, gave}
use Rattle.evp_stone.proofs.TakeStep.{stayed}
use Rattle.evp_stone.proofs.worker.Worker.give.Goals as goal

first_goes : (job : JobShape) (taken given : Counting) (work : StoneWork) (entry : Entry) → HasState job taken given (gives work entry)
    → MayGo job given entry
first_goes job taken given work entry state = may_go job taken given (gives work entry) entry work.waiting state refl

pub target_of-target-requires : goal.target_of-target-requires
target_of-target-requires g c =
    let before = c.args.port.now in
    let go = first_goes c.args.job.now (g.P.Port.taken before) (g.P.Port.given before) (seen c.args.self.now) c.args.entry
    c.requires.state in
    slice_get_within c.args.job.now.routes c.route.result go.longer
    (ap (slice_get c.args.job.now.routes) c.route.ensures ∙ go.there)

pub give-requires : goal.give-requires
give-requires g c =
    let before = c.args.port.now in
    let go = first_goes c.args.job.now (g.P.Port.taken before) (g.P.Port.given before) (seen c.args.self.now) c.args.entry
    c.requires.state in
    may_give c.args.job.now (g.P.Port.is_of before) (g.P.Port.given before) c.args.entry c.target_of-target.result c.requires.of go
    (sym (c.target_of-target.ensures go.longer (ap (slice_get c.args.job.now.routes) c.route.ensures ∙ go.there)))

pub returns-in-Ok-clause-state : goal.returns-in-Ok-clause-state
returns-in-Ok-clause-state g c =
    let before = c.args.port.now in
    let after = c.give.new.self in
    let old = gives (seen c.args.self.now) c.args.entry in
    let given = gave c.args.job.now (g.P.Port.given before) (g.P.Port.given after) c.args.entry (seen c.args.self.now).waiting
    c.in-Ok.ensures.given (g.P.Port.taken before) old (seen c.args.self.now) c.requires.state refl refl in
    stayed c.args.job.now (g.P.Port.taken before) (g.P.Port.taken after) (g.P.Port.given after) (g.P.Port.given after)
    (seen c.args.self.now) c.in-Ok.ensures.taken (λ route. refl) given

-- handed back, it waits first again
waits_again : (old : StoneWork) (entry e : Entry) (waiting : List Entry) → e ≡ entry → waiting ≡ e ∷ old.waiting
    → record { stone = old.stone; waiting = waiting; hand = old.hand; routes = old.routes } ≡ gives old entry
waits_again old entry e waiting same is =
    ap (λ (l : List Entry). record { stone = old.stone; waiting = l; hand = old.hand; routes = old.routes }) is
    ∙ ap (gives old) same

pub returns-in-Err-Full-clause-state : goal.returns-in-Err-Full-clause-state
returns-in-Err-Full-clause-state g c =
    let before = c.args.port.now in
    let after = c.give.new.self in
    let job = c.args.job.now in
    let back = c.in-Err-Full.ensures.back in
    let target = c.target_of-target.result in
    let entry = full_back c.args.entry c.in-Err-Full.entry c.in-Err-Full.field-0
    (Rose (g.P.Port.fulls before target) (g.P.Port.fulls after target)) c.in-Err-Full.field-0-is back.cause in
    let again = waits_again (seen c.args.self.now) c.args.entry c.in-Err-Full.entry c.push_front_reserved.new.self.items entry.0
    c.push_front_reserved.ensures.items in
    subst (HasState job (g.P.Port.taken after) (g.P.Port.given after)) (sym again)
    (stayed job (g.P.Port.taken before) (g.P.Port.taken after) (g.P.Port.given before) (g.P.Port.given after)
    (gives (seen c.args.self.now) c.args.entry) c.in-Err-Full.ensures.taken back.same c.requires.state)

pub returns-in-Err-Full-clause-gave : goal.returns-in-Err-Full-clause-gave
returns-in-Err-Full-clause-gave g c =
    let before = c.args.port.now in
    let after = c.give.new.self in
    let job = c.args.job.now in
    let target = c.target_of-target.result in
    let entry = full_back c.args.entry c.in-Err-Full.entry c.in-Err-Full.field-0
    (Rose (g.P.Port.fulls before target) (g.P.Port.fulls after target)) c.in-Err-Full.field-0-is c.in-Err-Full.ensures.back.cause in
    let go = first_goes job (g.P.Port.taken before) (g.P.Port.given before) (seen c.args.self.now) c.args.entry c.requires.state in (
      record {
        same = record { taken = c.in-Err-Full.ensures.taken; given = c.in-Err-Full.ensures.back.same };
        leads = record {
          route = go.longer;
          there = go.there;
          last = sym (c.target_of-target.ensures go.longer (ap (slice_get job.routes) c.route.ensures ∙ go.there));
        };
        rose = entry.1;
      },
      waits_again (seen c.args.self.now) c.args.entry c.in-Err-Full.entry c.push_front_reserved.new.self.items entry.0
          c.push_front_reserved.ensures.items,
    )

pub returns-in-Err-Memory-clause-state : goal.returns-in-Err-Memory-clause-state
returns-in-Err-Memory-clause-state g c =
    let before = c.args.port.now in
    let after = c.give.new.self in
    let job = c.args.job.now in
    let back = c.in-Err-Memory.ensures.back in
    let target = c.target_of-target.result in
    let entry = memory_back c.args.entry c.in-Err-Memory.entry c.in-Err-Memory.field-0
    (Rose (g.P.Port.fulls before target) (g.P.Port.fulls after target)) c.in-Err-Memory.field-0-is back.cause in
    let again = waits_again (seen c.args.self.now) c.args.entry c.in-Err-Memory.entry c.push_front_reserved-in-Err-Memory.new.self.items
    entry c.push_front_reserved-in-Err-Memory.ensures.items in
    subst (HasState job (g.P.Port.taken after) (g.P.Port.given after)) (sym again)
    (stayed job (g.P.Port.taken before) (g.P.Port.taken after) (g.P.Port.given before) (g.P.Port.given after)
    (gives (seen c.args.self.now) c.args.entry) c.in-Err-Memory.ensures.taken back.same c.requires.state)

pub returns-in-Err-Memory-clause-gave : goal.returns-in-Err-Memory-clause-gave
returns-in-Err-Memory-clause-gave g c =
    let before = c.args.port.now in
    let after = c.give.new.self in
    let back = c.in-Err-Memory.ensures.back in
    let target = c.target_of-target.result in
    let entry = memory_back c.args.entry c.in-Err-Memory.entry c.in-Err-Memory.field-0
    (Rose (g.P.Port.fulls before target) (g.P.Port.fulls after target)) c.in-Err-Memory.field-0-is back.cause in (
      record { taken = c.in-Err-Memory.ensures.taken; given = back.same },
      waits_again (seen c.args.self.now) c.args.entry c.in-Err-Memory.entry c.push_front_reserved-in-Err-Memory.new.self.items entry
          c.push_front_reserved-in-Err-Memory.ensures.items,
    )
