-- What a line is answered by what a depot holds, and what a call does that answers it.
use Rattle.std.specs.Prelude.{◌≡◌, ◌⊎◌, ℕ, List, Option, IfSome, IfNone, Result, Ok, Err, ⊤}
use Rattle.std.specs.Io.KnownBytes.{Appends}
use Rattle.evp_depot.specs.Counts.{Rose}
use Rattle.evp_depot.specs.Files.{Files}
use Rattle.evp_depot.specs.Put.{AppendsPart}
use Rattle.evp_stones.specs.declared.refusal.Refusal.{Refusal}
use Rattle.evp_stones.specs.declared.refusal.Refusal.TheVariants.{Words, Memory}
use Rattle.evp_stones.specs.Bench.{IsBench}
use Rattle.evp_stones.specs.Check.{IsCheck}
use Rattle.evp_stones.specs.Convert.{IsConvert, IsReadFor}
use Rattle.evp_stones.specs.Fetching.{IsHeld}
use Rattle.evp_stones.specs.Outcome.{WroteLine}
use Rattle.evp_stones.specs.Refusals.{refusal_line, refusal_status}
use Rattle.evp_stones.specs.Run.{IsRun, IsWalk, IsWalkRead}
use Rattle.evp_stones.specs.Show.{show_answer}
use Rattle.evp_stones.specs.Steps.{Works}
use Rattle.evp_stones.specs.WholeJob.{IsJobRead}
use Rattle.evp_stones.specs.Words.{Line, show, check, convert, run, walk, bench}

-- the output of a line, or the first refusal
abbrev pub Reply : Type 0
Reply = Result (List ℕ) Refusal

-- the program's status
abbrev pub status_of : Reply → ℕ
status_of (Ok output) = 0
status_of (Err refusal) = refusal_status refusal

-- what it writes
abbrev pub bytes_of : Reply → List ℕ
bytes_of (Ok output) = output
bytes_of (Err refusal) = refusal_line refusal

-- the reply to a line
abbrev pub IsReply : Line → Files → Reply → Type 0
IsReply (show name) files reply = reply ≡ show_answer files name
IsReply (check name) files reply = IsCheck name files reply
IsReply (convert job format file) files reply = IsConvert job format file files reply
IsReply (run name workers) files reply = IsRun name files reply
IsReply (walk name order) files reply = IsWalk name order files reply
IsReply (bench records workers) files reply = IsBench records reply

-- a read under the name may be one that the line's answer waits for
abbrev pub IsReadBy : Line → Files → List ℕ → Type 0
IsReadBy (show file) files name = IsHeld file files name
IsReadBy (check job) files name = IsHeld job files name
IsReadBy (convert job format file) files name = IsReadFor job format file files name
IsReadBy (run job workers) files name = IsJobRead job files name
IsReadBy (walk job order) files name = IsWalkRead job order files name
IsReadBy (bench records workers) files name = ⊥

-- the reply to a line that reads nothing, whatever the depot tells: its output, unless there was no
-- memory
abbrev pub IsBenched : Line → Reply → Type 0
IsBenched (bench records workers) reply = IsBench records reply ⊎ (reply ≡ Err Memory)
IsBenched other reply = ⊤

-- the status, and what was put
abbrev pub Told : ℕ → ℕ → Option (List ℕ) → Option (List ℕ) → Reply → ℕ → Type 0
Told before after old new (Ok output) status =
    ((status ≡ 0) × Appends old new output)
    ⊎ ((status ≡ 8) × Rose before after × AppendsPart old new output)
Told before after old new (Err refusal) status =
    (status ≡ refusal_status refusal) × WroteLine before after old new (refusal_line refusal)

-- What a call does that writes the line of a refusal, or that of `Memory`, and answers the status
-- that goes with it.
pub record Refuses {K : Type 0} (faults_of : K → ℕ) (put : K → Option (List ℕ)) (sink sink' : K)
    (refusal : Refusal) (status : ℕ) : Type 0 where
  pub refused : Refusal
  pub this : (refused ≡ refusal) ⊎ (refused ≡ Memory)
  pub told : Told (faults_of sink) (faults_of sink') (put sink) (put sink') (Err refused) status

-- What a call does that writes a reply, and answers the status that goes with it.
abbrev pub Tells : {K : Type 0} → (K → ℕ) → (K → Option (List ℕ)) → K → K → Reply → ℕ → Type 0
Tells faults_of put sink sink' (Ok output) status =
    Told (faults_of sink) (faults_of sink') (put sink) (put sink') (Ok output) status
Tells faults_of put sink sink' (Err refusal) status =
    Refuses faults_of put sink sink' refusal status

-- What a call does that answers the line that the words are, where they are one.
pub record Answers {D K : Type 0} (held : D → Option Files) (misses faults_of : D → ℕ)
    (sink_faults : K → ℕ) (put : K → Option (List ℕ)) (line : Option Line) (depot depot' : D)
    (sink sink' : K) (status : ℕ) : Type 0 where
  -- what was worked out
  pub reply : Reply
  pub works : IfSome line (λ asked. Works held misses faults_of depot depot' (IsReply asked)
      (IsReadBy asked) reply)
  pub benched : IfSome line (λ asked. IsBenched asked reply)
  pub no_line : IfNone line (reply ≡ Err Words)
  -- only then something was written
  pub told : Told (sink_faults sink) (sink_faults sink') (put sink) (put sink') reply status
