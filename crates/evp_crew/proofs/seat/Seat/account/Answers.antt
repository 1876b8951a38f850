use Rattle.std.proofs.Common.{subst}
use Rattle.crossbeam_utils.specs.Padded.{padded_value}
use Rattle.crossbeam_utils.specs.declared.cache_padded.CachePadded.{CachePadded}
use Rattle.evp_cache.specs.Known.{Cells}
use Rattle.evp_stone.specs.Actor.{HasActed}
use Rattle.evp_stone.specs.Job.{IsJob}
use Rattle.evp_stone.specs.JobShape.{JobShape}
use Rattle.evp_stone.specs.Port.{Counting}
use Rattle.evp_stone.specs.Roles.{IsDone}
use Rattle.evp_stone.specs.Tallied.{IsAccount}
use Rattle.evp_crew.specs.declared.seat.Equipped.{Equipped}
use Rattle.evp_crew.specs.Seat.{SeatShape}
use Rattle.evp_crew.proofs.seat.Seat.account.Goals as goal

pub returns-clause-account : goal.returns-clause-account
returns-clause-account c =
    let inside = subst (λ (e : Equipped). (job : JobShape) (cells : Cells) (taken given : Counting) → IsJob job
    → HasActed job cells taken given e.actor → IsDone job e.actor.role → IsAccount job c.account.result)
    c.into_inner-actor.ensures c.account.ensures.account in
    let held = subst (λ (p : CachePadded Equipped). (job : JobShape) (cells : Cells) (taken given : Counting) → IsJob job
    → HasActed job cells taken given (padded_value p).actor → IsDone job (padded_value p).actor.role
    → IsAccount job c.account.result) c.into_inner.ensures inside in
    subst (λ (s : SeatShape). (job : JobShape) (cells : Cells) (taken given : Counting) → IsJob job
    → HasActed job cells taken given s.actor → IsDone job s.actor.role → IsAccount job c.account.result)
    c.self.view_is held
