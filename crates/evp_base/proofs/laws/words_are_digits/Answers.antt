use Rattle.evp_base.proofs.Words.{little_bytes-digits, big_bytes-digits}
use Rattle.evp_base.proofs.laws.words_are_digits.Goals as goal

pub returns : goal.returns
returns c = λ size n below. (little_bytes-digits size n below, big_bytes-digits size n below)
