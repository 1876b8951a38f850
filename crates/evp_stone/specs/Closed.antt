-- When an actor has nothing left to do.
use Rattle.std.specs.Prelude.{◌≡◌, [], None}
use Rattle.evp_stone.specs.Actor.{Role, feeds, works}
use Rattle.evp_stone.specs.Feeding.{to_come}
use Rattle.evp_stone.specs.JobShape.{JobShape}
use Rattle.evp_stone.specs.Turned.{HasEnded}

-- a source has given all; at a stone nothing waits, none is in hand, and each round of each of its
-- routes has ended
abbrev pub IsClosed : JobShape → Role → Type 0
IsClosed job (feeds work) = to_come job work ≡ []
IsClosed job (works work unended) = (work.waiting ≡ []) × (work.hand ≡ None) × HasEnded job work
