use Rattle.std.proofs.Common.{refl}
use Rattle.evp_stone.specs.declared.account.Account.{Account}
use Rattle.evp_stone.specs.declared.account.RoundAccount.{RoundAccount}
use Rattle.evp_stone.specs.declared.account.RouteAccount.{RouteAccount}
use Rattle.evp_report.proofs.Idle.{idle_accounts}
use Rattle.evp_report_tests.proofs.tests.reports.idle_accounts.Goals as goal

pub returns : goal.returns
returns c = λ layout.
    let round : RoundAccount =
    record { passed = 0; dropped = 0; refused = c.new.result; arrived = c.new-2.result; held = 0 } in
    let route : RouteAccount = record { route = 0; rounds = c.in_ok-vec.field-0 } in
    let account : Account = record { stone = 0; routes = c.in_ok-vec-2.field-0; builds = 0; starved = 0 } in
    idle_accounts layout c.in_ok-vec-3.field-0.items account route round c.in_ok-vec-3.ensures.items refl
    c.in_ok-vec-2.ensures.items refl c.in_ok-vec.ensures.items refl refl c.new.ensures.items c.new-2.ensures.items refl
