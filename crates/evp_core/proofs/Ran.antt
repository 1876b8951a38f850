-- Turns leave the job as it is.
use Rattle.std.proofs.Common.{◌≡◌, ℕ, List, [], ◌∷◌, ◌∙◌, ap}
use Rattle.evp_core.specs.WorldShape.{WorldShape}
use Rattle.evp_core.specs.WorldTurned.{HaveTurned}
use Rattle.evp_core.proofs.HeldOn.{turned_job}

pub ran_job : (old new : WorldShape) (numbers : List ℕ) → HaveTurned old new numbers → new.lists.job ≡ old.lists.job
ran_job old new [] have = ap (λ (w : WorldShape). w.lists.job) have
ran_job old new (number ∷ numbers) have =
    ran_job have.0 new numbers have.2 ∙ turned_job old have.0 number have.1.0 have.1.2
