use Rattle.evp_format.proofs.Descriptions.{distinct_law}
use Rattle.evp_format.proofs.description.laws.descriptions_are_distinct.Goals as goal

pub returns : goal.returns
returns c = distinct_law
