use Rattle.evp_base.proofs.Numbers.{number-digits}
use Rattle.evp_base.proofs.laws.digits_read_back.Goals as goal

pub returns : goal.returns
returns c = number-digits
