use Rattle.std.proofs.Common.{◌+◌, ◌≤◌, length, arith}
use Rattle.evp_wide.proofs.Windows.{zeros_more}
use Rattle.evp_wide.proofs.clearing.clear_more.Goals as goal

pub returns-clause-front : goal.returns-clause-front
returns-clause-front c =
    let at = c.if-done-last.at in
    let less : at ≤ c.args.done = search arith in
    let room : at + 16 ≤ length c.args.out.now = search arith in
    zeros_more at c.args.done c.args.out.now less c.requires.within room c.requires.front
