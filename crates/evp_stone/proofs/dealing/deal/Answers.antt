use Rattle.std.proofs.Common.{◌≡◌, length, sym, ap, ◌∙◌, rules}
use Rattle.evp_stone.specs.Settling.{work_of}
use Rattle.evp_stone.specs.State as state
use Rattle.evp_stone.proofs.Dealt.{frozen_dealt}
use Rattle.evp_stone.proofs.dealing.deal.Goals as goal

pub returns-then-is_frozen : goal.returns-then-is_frozen
returns-then-is_frozen c =
    let job = c.args.shared.now.job.now in
    let stone = c.args.stone in
    let ended : c.len.result ≡ length c.args.work.now.ended.items = search rules in
    frozen_dealt job c.args.shared.now.cache.now stone (work_of c.args.work.now) (work_of c.deal_frozen.new.work)
    c.deal_frozen.new.waiting.items c.args.learnt.now.pass c.args.learnt.now.builds c.deal_frozen.result _ c.args.entry
    (ap (state.is_frozen job stone) (sym ended) ∙ sym c.is_frozen.ensures ∙ c.if-is_frozen.true) (c.deal_frozen.ensures job stone)
