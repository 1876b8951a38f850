use Rattle.std.proofs.Common.{◌≡◌, List, [], ap, subst, ◌∙◌}
use Rattle.evp_stone.specs.Acted.{IsActedOn}
use Rattle.evp_stone.specs.State.{Received}
use Rattle.evp_stone.specs.Settling.{work_of}
use Rattle.evp_stone.proofs.Dealt.{first_has_dealt, keeping_all}
use Rattle.evp_stone.proofs.dealing.deal_kept.Goals as goal

pub returns-in-Ok : goal.returns-in-Ok
returns-in-Ok c =
    let job = c.args.shared.now.job.now in
    let stone = c.args.stone in
    let here = work_of c.args.work.now in
    let others = c.pop_front.new.self.items in
    let received : Received = (c.in-Some.index, c.in-Some.owned) in
    let aside : c.replace-others.result.items ≡ others = ap (λ q. q.items) c.replace-others.ensures.value in
    let none : c.replace-others.new.dest.items ≡ [] = ap (λ q. q.items) c.replace-others.ensures.after ∙ c.new.ensures.items in
    first_has_dealt job c.args.shared.now.cache.now stone here (work_of c.act_on.new.work) _ received others
    c.act_on.new.waiting.items c.args.entry c.args.learnt.now.pass c.act_on.new.learnt.pass c.args.learnt.now.builds
    c.act_on.new.learnt.builds
    c.in-Some.ensures.items
    (subst (λ (l : List Received). IsActedOn job stone (keeping_all here l) (work_of c.act_on.new.work) received
    c.act_on.new.waiting.items)
    none c.in-Ok.ensures.acted)
    (ap (keeping_all (work_of c.act_on.new.work)) aside)
    c.in-Ok.ensures.learns
