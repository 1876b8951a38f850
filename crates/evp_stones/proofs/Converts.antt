-- The steps of a conversion over a depot.
use Rattle.std.proofs.Common.{◌≡◌, ℕ, List, [], Option, Some, None, IfSome, OnSome, Result, Ok, Err, inl, inr, refl, arith}
use Rattle.evp_depot.specs.Files.{Files}
use Rattle.evp_file.specs.declared.file.KnownFormat.{KnownFormat}
use Rattle.evp_job.specs.declared.fault.JobFault.TheVariants.{UnknownFormat}
use Rattle.evp_job.specs.TextShape.{TextShape}
use Rattle.evp_stones.specs.Convert.{format_named, file_answer, converts, IsConvert, IsFileBy, IsReadFor}
use Rattle.evp_stones.specs.declared.refusal.Refusal.{Refusal}
use Rattle.evp_stones.specs.declared.refusal.Refusal.TheVariants.{Job}
use Rattle.evp_stones.specs.Fetching.{IsHeld}
use Rattle.evp_stones.specs.JobText.{IsJobOf}
use Rattle.evp_stones.specs.Steps.{Works}
use Rattle.evp_stones.proofs.Joined.{works_as, works_cut, works_both}

-- no format has the name, and nothing was read
pub no_format : {D : Type 0} (held : D → Option Files) (misses faults_of : D → ℕ) (depot : D) (format file : List ℕ) (text : TextShape)
    → format_named text.names text.formats format ≡ None
    → Works held misses faults_of depot depot (λ files (a : Result (List ℕ) Refusal). a ≡ converts format file files text)
    (IsFileBy format file text) (Err (Job (UnknownFormat [])))
no_format held misses faults_of depot format file text none = record {
  on_line = λ e. e;
  misses_stay = omega arith;
  faults_stay = omega arith;
  still_held = same (held depot);
  missed = λ e. absurd e;
  failed = λ e. absurd e;
  told = told_none (held depot);
} where
  same : (told : Option Files) → OnSome told (told ≡ told)
  same None = tt
  same (Some files) = refl

  told_none : (told : Option Files) → IfSome told (λ files. Err (Job (UnknownFormat [])) ≡ converts format file files text)
  told_none None = tt
  told_none (Some files) = rw none refl

-- one does
pub with_format : {D : Type 0} (held : D → Option Files) (misses faults_of : D → ℕ) (old new : D) (format file : List ℕ) (text : TextShape)
    (to : KnownFormat) (answer : Result (List ℕ) Refusal) → format_named text.names text.formats format ≡ Some to
    → Works held misses faults_of old new (λ files (a : Result (List ℕ) Refusal). a ≡ file_answer text to.format file files)
    (IsHeld file) answer
    → Works held misses faults_of old new (λ files (a : Result (List ℕ) Refusal). a ≡ converts format file files text)
    (IsFileBy format file text) answer
with_format held misses faults_of old new format file text to answer found works =
    works_as held misses faults_of old new (λ files (a : Result (List ℕ) Refusal). a ≡ file_answer text to.format file files)
    (λ files (a : Result (List ℕ) Refusal). a ≡ converts format file files text) (IsHeld file) (IsFileBy format file text) answer
    (λ files a is. rw found is) (λ files name is. record { to = to; found = found; held = is }) works

-- the job was read
pub with_job : {D : Type 0} (held : D → Option Files) (misses faults_of : D → ℕ) (old mid new : D) (job format file : List ℕ)
    (text : TextShape)
    (answer : Result (List ℕ) Refusal) → Works held misses faults_of old mid (IsJobOf job) (IsHeld job) (Ok text)
    → Works held misses faults_of mid new (λ files (a : Result (List ℕ) Refusal). a ≡ converts format file files text)
    (IsFileBy format file text) answer
    → Works held misses faults_of old new (IsConvert job format file) (IsReadFor job format file) answer
with_job held misses faults_of old mid new job format file text answer first second =
    works_both held misses faults_of old mid new (IsJobOf job) (λ files (a : Result (List ℕ) Refusal). a ≡ converts format file files text)
    (IsConvert job format file) (IsHeld job) (IsFileBy format file text) (IsReadFor job format file) text answer
    (λ files is a made. record { text = Ok text; is = is; answered = made })
    (λ files is name by. inr (record { text = text; is = is; by = by })) first second

-- the job was refused
pub no_job : {D : Type 0} (held : D → Option Files) (misses faults_of : D → ℕ) (old new : D) (job format file : List ℕ) (refusal : Refusal)
    → Works held misses faults_of old new (IsJobOf job) (IsHeld job) (Err refusal)
    → Works held misses faults_of old new (IsConvert job format file) (IsReadFor job format file) (Err refusal)
no_job held misses faults_of old new job format file refusal works =
    works_cut held misses faults_of old new (IsJobOf job) (IsConvert job format file) (IsHeld job) (IsReadFor job format file) refusal
    (λ files r is. record { text = Err r; is = is; answered = refl }) (λ files name is. inl is) works
