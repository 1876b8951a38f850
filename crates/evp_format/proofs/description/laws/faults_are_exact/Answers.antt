use Rattle.evp_format.proofs.Descriptions.{exact_law}
use Rattle.evp_format.proofs.description.laws.faults_are_exact.Goals as goal

pub returns : goal.returns
returns c = exact_law
