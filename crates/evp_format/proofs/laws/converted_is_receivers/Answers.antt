use Rattle.evp_format.proofs.MadeAll.{converted-receivers}
use Rattle.evp_format.proofs.laws.converted_is_receivers.Goals as goal

pub returns : goal.returns
returns c = converted-receivers
