use Rattle.std.proofs.Common.{false, sym, subst}
use Rattle.evp_stone.specs.declared.entry.Entry.{Entry}
use Rattle.evp_stone.specs.Dealing.{HasDealt}
use Rattle.evp_stone.specs.Settling.{work_of}
use Rattle.evp_stone.proofs.Dealt.{mark_has_dealt}
use Rattle.evp_stone.proofs.dealing.deal_new.Goals as goal

pub returns-in-Mark : goal.returns-in-Mark
returns-in-Mark c =
    let job = c.args.shared.now.job.now in
    let cells = c.args.shared.now.cache.now in
    let stone = c.args.stone in
    let here = work_of c.args.work.now in
    let new = work_of c.deal_mark.new.work in
    let waiting = c.deal_mark.new.waiting.items in
    let known = c.args.learnt.now.pass in
    let built = c.args.learnt.now.builds in
    let result = c.deal_mark.result in
    subst (λ (e : Entry). HasDealt job cells stone false here new waiting e known known built built result) (sym c.in-Mark.is)
    (mark_has_dealt job cells stone here new waiting known built result c.in-Mark.route c.in-Mark.position c.in-Mark.round c.requires.kept
    (c.deal_mark.ensures job stone))
