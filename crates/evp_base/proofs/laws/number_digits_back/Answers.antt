use Rattle.evp_base.proofs.Numbers.{digits-number}
use Rattle.evp_base.proofs.laws.number_digits_back.Goals as goal

pub returns : goal.returns
returns c = digits-number
