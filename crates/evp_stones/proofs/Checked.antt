-- A job whose formats and routes are told.
use Rattle.std.proofs.Common.{◌≡◌, ℕ, List, Option, Result, Ok, Err, refl}
use Rattle.evp_depot.specs.Files.{Files}
use Rattle.evp_job.specs.declared.job_text.JobText.{JobText}
use Rattle.evp_job.specs.TextView.{text_of}
use Rattle.evp_stones.specs.declared.refusal.Refusal.{Refusal}
use Rattle.evp_stones.specs.Check.{IsCheck, check_text}
use Rattle.evp_stones.specs.Fetching.{IsHeld}
use Rattle.evp_stones.specs.JobText.{IsJobOf}
use Rattle.evp_stones.specs.Steps.{Works, seen_by}
use Rattle.evp_stones.proofs.Mapped.{works_on}

-- seen twice, one after the other
seen_twice : {X Y Z : Type 0} (f : Y → Z) (h : X → Y) (answer : Result X Refusal)
    → seen_by f (seen_by h answer) ≡ seen_by (λ x. f (h x)) answer
seen_twice f h (Ok x) = refl
seen_twice f h (Err refusal) = refl

pub checked : {D : Type 0} (held : D → Option Files) (misses faults_of : D → ℕ) (old new : D) (name : List ℕ)
    (answer : Result JobText Refusal)
    → Works held misses faults_of old new (IsJobOf name) (IsHeld name) (seen_by text_of answer)
    → Works held misses faults_of old new (IsCheck name) (IsHeld name) (seen_by (λ text. check_text (text_of text)) answer)
checked held misses faults_of old new name answer works =
    rw (seen_twice check_text text_of answer) at
    (works_on held misses faults_of old new check_text (IsJobOf name) (IsCheck name) (IsHeld name) (IsHeld name) (seen_by text_of answer)
    (λ files job is. record { job = job; is = is; answered = refl }) (λ files one reads. reads) works)
