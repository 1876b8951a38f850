use Rattle.evp_record.proofs.NumbersRead.{number_is_its_bytes}
use Rattle.evp_record.proofs.laws.number_is_its_bytes.Goals as goal

pub returns : goal.returns
returns c = number_is_its_bytes
