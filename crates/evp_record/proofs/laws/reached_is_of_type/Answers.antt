use Rattle.evp_record.proofs.NumbersRead.{reached_is_of_type}
use Rattle.evp_record.proofs.laws.reached_is_of_type.Goals as goal

pub returns : goal.returns
returns c = reached_is_of_type
