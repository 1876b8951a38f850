use Rattle.std.proofs.Common.{sym, subst}
use Rattle.evp_core.specs.Moving.{AreClosed}
use Rattle.evp_core.specs.WorldShape.{WorldShape}
use Rattle.evp_core.proofs.world.World.accounts.Goals as goal

pub collect-requires-clause-closed : goal.collect-requires-clause-closed
collect-requires-clause-closed c = subst (λ (w : WorldShape). AreClosed w) (sym c.self.view_is) c.requires
