-- The steps to a report, over a depot.
use Rattle.std.proofs.Common.{◌≡◌, ℕ, List, Option, Result, Ok, Err, inl, inr, refl}
use Rattle.evp_depot.specs.Files.{Files}
use Rattle.evp_report.specs.Report.{report}
use Rattle.evp_stone.specs.JobShape.{JobShape}
use Rattle.evp_stones.specs.declared.refusal.Refusal.{Refusal}
use Rattle.evp_stones.specs.Fetching.{IsHeld}
use Rattle.evp_stones.specs.Run.{actors_of, IsRun, IsWalk, IsWalkRead, turns_named, walked}
use Rattle.evp_stones.specs.Steps.{◌>>=◌, Works, seen_by}
use Rattle.evp_stones.specs.WholeJob.{IsJobRead, IsWholeJob}
use Rattle.evp_stones.proofs.Joined.{works_both, works_cut}
use Rattle.evp_stones.proofs.Mapped.{works_on}

-- what a run answers, by the job or its refusal
pub run_is : {D : Type 0} (held : D → Option Files) (misses faults_of : D → ℕ) (old new : D) (name : List ℕ) (job : Result JobShape Refusal)
    → Works held misses faults_of old new (IsWholeJob name) (IsJobRead name) job
    → Works held misses faults_of old new (IsRun name) (IsJobRead name) (seen_by report job)
run_is held misses faults_of old new name job works =
    works_on held misses faults_of old new report (IsWholeJob name) (IsRun name) (IsJobRead name) (IsJobRead name) job
    (λ files a is. record { job = a; is = is; answered = refl }) (λ files wanted reads. reads) works

-- a walk, where the job is whole
pub walk_with : {D : Type 0} (held : D → Option Files) (misses faults_of : D → ℕ) (old mid new : D) (name order : List ℕ) (job : JobShape)
    (answer : Result (List ℕ) Refusal) → Works held misses faults_of old mid (IsWholeJob name) (IsJobRead name) (Ok job)
    → Works held misses faults_of mid new (λ files (a : Result (List ℕ) Refusal). a ≡ walked order files job) (IsHeld order) answer
    → Works held misses faults_of old new (IsWalk name order) (IsWalkRead name order) answer
walk_with held misses faults_of old mid new name order job answer first second =
    works_both held misses faults_of old mid new (IsWholeJob name) (λ files (a : Result (List ℕ) Refusal). a ≡ walked order files job)
    (IsWalk name order) (IsJobRead name) (IsHeld order) (IsWalkRead name order) job answer
    (λ files is a made. record { job = Ok job; is = is; answered = made })
    (λ files is wanted reads. inr (record { whole = job; is = is; held = reads })) first second

-- and where it isn't
pub no_walk : {D : Type 0} (held : D → Option Files) (misses faults_of : D → ℕ) (old new : D) (name order : List ℕ) (refusal : Refusal)
    → Works held misses faults_of old new (IsWholeJob name) (IsJobRead name) (Err refusal)
    → Works held misses faults_of old new (IsWalk name order) (IsWalkRead name order) (Err refusal)
no_walk held misses faults_of old new name order refusal works =
    works_cut held misses faults_of old new (IsWholeJob name) (IsWalk name order) (IsJobRead name) (IsWalkRead name order) refusal
    (λ files r is. record { job = Err r; is = is; answered = refl }) (λ files wanted reads. inl reads) works

-- the report, or the refusal of the turns
pub walked_by : {D : Type 0} (held : D → Option Files) (misses faults_of : D → ℕ) (old new : D) (order : List ℕ) (job : JobShape)
    (turns : Result (List ℕ) Refusal)
    → Works held misses faults_of old new (λ files (a : Result (List ℕ) Refusal). a ≡ turns_named (actors_of job) order files)
    (IsHeld order) turns
    → Works held misses faults_of old new (λ files (a : Result (List ℕ) Refusal). a ≡ walked order files job) (IsHeld order)
    (seen_by (λ numbers. report job) turns)
walked_by held misses faults_of old new order job turns works =
    works_on held misses faults_of old new (λ numbers. report job)
    (λ files (a : Result (List ℕ) Refusal). a ≡ turns_named (actors_of job) order files)
    (λ files (a : Result (List ℕ) Refusal). a ≡ walked order files job) (IsHeld order) (IsHeld order) turns
    (λ files a is. by (turns_named (actors_of job) order files) a is) (λ files wanted reads. reads) works where
      by : (said a : Result (List ℕ) Refusal) → a ≡ said → seen_by (λ numbers. report job) a ≡ (said >>= λ numbers. Ok (report job))
      by (Ok numbers) a is = rw is refl
      by (Err refusal) a is = rw is refl
