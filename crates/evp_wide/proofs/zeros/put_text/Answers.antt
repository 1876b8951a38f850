use Rattle.std.proofs.Common.{◌+◌, drop, arith}
use Rattle.std.proofs.lemmas.List.{length-drop}
use Rattle.evp_wide.proofs.Gaps.{fewer_put}
use Rattle.evp_wide.proofs.zeros.put_text.Goals as goal

pub returns-clause-front : goal.returns-clause-front
returns-clause-front c =
    let behind = c.in_ok-behind.behind in
    let count = c.in_ok-count.count in
    let bytes = c.args.bytes.now in
    let from = c.args.from in
    fewer_put c.args.size c.args.to (count + 1) (behind + 16) (drop from bytes) c.args.out.now c.put_windows.new.out c.requires.behind
    (omega (arith, c.requires.behind, c.requires.near)) (omega (arith, c.in_ok-count.ensures.within))
    (omega (arith, c.put_windows.ensures.length, c.if-out-to.false))
    (omega (arith, length-drop from bytes, c.in_ok-behind.ensures.inside)) c.put_windows.ensures.front
