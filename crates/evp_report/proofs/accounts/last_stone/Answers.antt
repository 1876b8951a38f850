use Rattle.std.proofs.Common.{sym}
use Rattle.evp_report.proofs.RouteFound.{last_read, last_missing}
use Rattle.evp_report.proofs.accounts.last_stone.Goals as goal

pub returns-in-Some : goal.returns-in-Some
returns-in-Some c =
    sym (last_read c.args.route.now.stones _ (sym (rw c.as_slice.ensures at c.in-Some.ensures.value)))

pub returns-in-None : goal.returns-in-None
returns-in-None c = sym (last_missing c.args.route.now.stones (sym (rw c.as_slice.ensures at c.in-None.ensures.value)))
