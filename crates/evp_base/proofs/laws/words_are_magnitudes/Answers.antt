use Rattle.evp_base.proofs.Words.{little_number-magnitude, big_number-magnitude}
use Rattle.evp_base.proofs.laws.words_are_magnitudes.Goals as goal

pub returns : goal.returns
returns c = λ bytes. (little_number-magnitude bytes, big_number-magnitude bytes)
