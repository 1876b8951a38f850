use Rattle.evp_gen.proofs.SentLengths.{short_law}
use Rattle.evp_gen.proofs.laws.sent_is_short.Goals as goal

pub returns : goal.returns
returns c = short_law
