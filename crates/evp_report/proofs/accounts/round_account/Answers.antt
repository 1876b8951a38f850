use Rattle.evp_report.proofs.ShownTallies.{some_round, none_round}
use Rattle.evp_report.proofs.accounts.round_account.Goals as goal

pub returns-clause-some : goal.returns-clause-some
returns-clause-some c =
    let account = c.route_account-account in
    some_round c.args.job.now c.args.number c.args.round account.result.now account.ensures c.as_slice.result.now c.as_slice.ensures.value
    c.get.result c.get.ensures.lookup

pub returns-clause-none : goal.returns-clause-none
returns-clause-none c =
    let account = c.route_account-account in
    none_round c.args.job.now c.args.number c.args.round account.result.now account.ensures c.as_slice.result.now c.as_slice.ensures.value
    c.get.result c.get.ensures.lookup
