-- The line of a refusal, as it is put.
use Rattle.std.specs.Prelude.{ℕ, ◌⊎◌, List, Option}
use Rattle.std.specs.Io.KnownBytes.{Appends}
use Rattle.evp_depot.specs.Counts.{Rose}
use Rattle.evp_depot.specs.Put.{AppendsPart}

-- this line was put, or a part of it where the sink's faults rose
abbrev pub WroteLine : ℕ → ℕ → Option (List ℕ) → Option (List ℕ) → List ℕ → Type 0
WroteLine before after old new line =
    Appends old new line ⊎ (Rose before after × AppendsPart old new line)
