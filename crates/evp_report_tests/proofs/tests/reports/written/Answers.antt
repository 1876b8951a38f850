use Rattle.std.proofs.Common.{List, sym, subst}
use Rattle.evp_stone.specs.declared.account.Account.{Account}
use Rattle.evp_stone.specs.JobShape.{JobShape}
use Rattle.evp_stone.specs.WholeAccounts.{AreAccounts}
use Rattle.evp_report.specs.Samples.{idle}
use Rattle.evp_report_tests.proofs.tests.reports.written.Goals as goal

pub write_report-put-requires : goal.write_report-put-requires
write_report-put-requires c =
    let job = c.in_ok-job.ensures in
    let accounts = subst (λ (l : List Account). AreAccounts (idle job.0) l) (sym c.as_slice.ensures.value)
    (c.in_ok-accounts.ensures job.0) in
    subst (λ (j : JobShape). AreAccounts j c.as_slice.result.now) (sym job.1) accounts
