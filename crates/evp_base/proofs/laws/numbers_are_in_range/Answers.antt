use Rattle.evp_base.proofs.Numbers.{InRange-number}
use Rattle.evp_base.proofs.laws.numbers_are_in_range.Goals as goal

pub returns : goal.returns
returns c = InRange-number
