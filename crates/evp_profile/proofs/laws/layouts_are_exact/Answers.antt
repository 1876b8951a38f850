use Rattle.evp_profile.proofs.ExactLayouts.{exact_law}
use Rattle.evp_profile.proofs.laws.layouts_are_exact.Goals as goal

pub returns : goal.returns
returns c = exact_law
