-- The steps to a job with its files, over a depot.
use Rattle.std.proofs.Common.{◌≡◌, ℕ, List, Option, Result, Ok, Err, inl, inr, refl}
use Rattle.evp_depot.specs.Files.{Files}
use Rattle.evp_job.specs.declared.job_text.JobText.{JobText}
use Rattle.evp_job.specs.TextView.{text_of}
use Rattle.evp_stone.specs.JobShape.{JobShape}
use Rattle.evp_stones.specs.declared.refusal.Refusal.{Refusal}
use Rattle.evp_stones.specs.Fetching.{IsHeld}
use Rattle.evp_stones.specs.JobText.{IsJobOf}
use Rattle.evp_stones.specs.RecordFiles.{IsNext}
use Rattle.evp_stones.specs.Steps.{Works}
use Rattle.evp_stones.specs.WholeJob.{file_names, IsJobRead, IsWholeJob, with_files}
use Rattle.evp_stones.proofs.Joined.{works_both, works_cut}

-- the document states a job
pub with_text : {D : Type 0} (held : D → Option Files) (misses faults_of : D → ℕ) (old mid new : D) (name : List ℕ) (text : JobText)
    (answer : Result JobShape Refusal) → Works held misses faults_of old mid (IsJobOf name) (IsHeld name) (Ok (text_of text))
    → Works held misses faults_of mid new (λ files (a : Result JobShape Refusal). a ≡ with_files text files)
    (IsNext text.formats.items text.limit (file_names text)) answer
    → Works held misses faults_of old new (IsWholeJob name) (IsJobRead name) answer
with_text held misses faults_of old mid new name text answer first second =
    works_both held misses faults_of old mid new (IsJobOf name) (λ files (a : Result JobShape Refusal). a ≡ with_files text files)
    (IsWholeJob name) (IsHeld name) (IsNext text.formats.items text.limit (file_names text)) (IsJobRead name) (text_of text) answer
    (λ files is a made. record { text = Ok text; is = is; answered = made })
    (λ files is wanted next. inr (record { text = text; is = is; next = next })) first second

-- it is refused
pub no_text : {D : Type 0} (held : D → Option Files) (misses faults_of : D → ℕ) (old new : D) (name : List ℕ) (refusal : Refusal)
    → Works held misses faults_of old new (IsJobOf name) (IsHeld name) (Err refusal)
    → Works held misses faults_of old new (IsWholeJob name) (IsJobRead name) (Err refusal)
no_text held misses faults_of old new name refusal works =
    works_cut held misses faults_of old new (IsJobOf name) (IsWholeJob name) (IsHeld name) (IsJobRead name) refusal
    (λ files r is. record { text = Err r; is = is; answered = refl }) (λ files wanted is. inl is) works
