use Rattle.evp_record.proofs.ViewPacked.{view-pack}
use Rattle.evp_record.proofs.laws.packed_is_viewed.Goals as goal

pub returns : goal.returns
returns c = view-pack
