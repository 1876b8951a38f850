use Rattle.evp_base.proofs.Numbers.{length-digits, AreBytes-digits}
use Rattle.evp_base.proofs.laws.digits_are_bytes.Goals as goal

pub returns : goal.returns
returns c = λ order size n. (length-digits order size n, AreBytes-digits order size n)
