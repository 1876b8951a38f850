use Rattle.evp_stones.proofs.OneReport.{one_report}
use Rattle.evp_stones.proofs.laws.one_report.Goals as goal

pub returns : goal.returns
returns c = one_report
