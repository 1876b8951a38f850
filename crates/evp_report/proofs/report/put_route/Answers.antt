use Rattle.evp_report.proofs.ShownTallies.{readable_all, told_some}
use Rattle.evp_report.proofs.report.put_route.Goals as goal

pub put_told-requires : goal.put_told-requires
put_told-requires g c =
    let is = c.in-Some.ensures.some in
    let items = c.in-Some.account.now.arrived.items in
    readable_all c.args.job.now.formats items is.tally.arrived is.same.arrived

pub returns : goal.returns
returns g c =
    let job = c.args.job.now in
    let account = c.in-Some.account.now in
    let told = told_some job c.args.number c.args.round c.args.route.now account c.requires.there c.in-Some.ensures.some in
    rw told c.put_told.ensures
