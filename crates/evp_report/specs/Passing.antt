-- What a text does that goes to a sink in pieces: some of it waits, and goes out later.
use Rattle.std.specs.Prelude.{◌≡◌, ℕ, ◌≤◌, List, ◌++◌, Option, Result, OnOk, OnErr}
use Rattle.std.specs.Io.KnownBytes.{Appends}
use Rattle.evp_depot.specs.Counts.{Rose}
use Rattle.evp_depot.specs.Put.{AppendsPart}

-- some bytes went out, and those that wait now follow them
pub record WentOut (old new : Option (List ℕ)) (waiting waiting' bytes : List ℕ) : Type 0 where
  pub out : List ℕ
  pub appended : Appends old new out
  pub rest : out ++ waiting' ≡ waiting ++ bytes

-- What a call does that hands on these bytes, while some wait. The sink's faults never fall, and
-- rose where the call failed. Then a part of what waited and of these bytes was put; else all of
-- them were put or wait, in order.
pub record Passes {S T E : Type 0} (faults_of : S → ℕ) (told : S → Option (List ℕ)) (old new : S)
    (waiting waiting' bytes : List ℕ) (result : Result T E) : Type 0 where
  pub faults : faults_of old ≤ faults_of new
  pub failed : OnErr result (Rose (faults_of old) (faults_of new))
  pub passed : OnOk result (WentOut (told old) (told new) waiting waiting' bytes)
  pub part : OnErr result (AppendsPart (told old) (told new) (waiting ++ bytes))
