use Rattle.evp_format.proofs.MadeItself.{converted-itself}
use Rattle.evp_format.proofs.laws.converted_to_itself.Goals as goal

pub returns : goal.returns
returns c = converted-itself
