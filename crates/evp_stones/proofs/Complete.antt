-- An answer is the defined one, but where a read or a write failed or memory ran out.
use Rattle.std.proofs.Common.{◌≡◌, ◌≢◌, ◌⊎◌, inl, inr, ℕ, List, Option, Some, None, IfSome, Ok, Err, refl, sym, subst}
use Rattle.std.specs.Io.KnownBytes.{Appends}
use Rattle.evp_depot.specs.Counts.{Rose}
use Rattle.evp_depot.specs.Files.{Files}
use Rattle.evp_stones.specs.Answer.{Answers, Reply, IsReply, IsReadBy, Told, bytes_of}
use Rattle.evp_stones.specs.Completeness.{IsDefined, WroteReply, Gave, PutLine, IsComplete, Completes}
use Rattle.evp_stones.specs.declared.refusal.Refusal.{Refusal}
use Rattle.evp_stones.specs.declared.refusal.Refusal.TheVariants.{Words, Absent, Read, TooLong, NotJson, Job, Data, Order, Memory}
use Rattle.evp_stones.specs.Outcome.{WroteLine}
use Rattle.evp_stones.specs.Refusals.{refusal_line}
use Rattle.evp_stones.specs.Steps.{IsFailed, Settles}
use Rattle.evp_stones.specs.Words.{Line}

-- ---- by what was worked out

module _ (says : Reply → Type 0) (reads : List ℕ → Type 0) (before after : ℕ) (old new : Option (List ℕ)) (status : ℕ) where
  -- the line of a refusal that the definition has
  refused_so : (refusal : Refusal) → says (Err refusal) → Told before after old new (Err refusal) status
      → Gave says (WroteReply before after old new) status
  refused_so refusal said told = record { reply = Err refusal; defined = said; answered = told.0; wrote = told.1 }

  exact : (reply : Reply) → Settles says reads reply → Told before after old new reply status → status ≢ 3 → status ≢ 8 → status ≢ 9
      → Gave says (WroteReply before after old new) status
  exact (Ok output) said (inl told) no_read no_write found = record { reply = Ok output; defined = said; answered = told.0; wrote = told.1 }
  exact (Ok output) said (inr told) no_read no_write found = absurd (no_write told.0)
  exact (Err Words) said told no_read no_write found = refused_so Words said told
  exact (Err (Absent name)) said told no_read no_write found = refused_so (Absent name) said told
  exact (Err (Read name)) said told no_read no_write found = absurd (no_read told.0)
  exact (Err (TooLong name)) said told no_read no_write found = refused_so (TooLong name) said told
  exact (Err NotJson) said told no_read no_write found = refused_so NotJson said told
  exact (Err (Job fault)) said told no_read no_write found = refused_so (Job fault) said told
  exact (Err (Data name fault)) said told no_read no_write found = refused_so (Data name fault) said told
  exact (Err (Order name at)) said told no_read no_write found = refused_so (Order name at) said told
  exact (Err Memory) said told no_read no_write found = absurd (found told.0)

  whole_line : (line : List ℕ) → ¬ Rose before after → WroteLine before after old new line → Appends old new line
  whole_line line sound (inl all) = all
  whole_line line sound (inr part) = absurd (sound part.0)

  line_whole : (reply : Reply) → Told before after old new reply status → ¬ Rose before after → (status ≡ 0) ⊎ PutLine old new status
  line_whole (Ok output) (inl told) sound = inl told.0
  line_whole (Ok output) (inr told) sound = absurd (sound told.1)
  line_whole (Err refusal) told sound =
      inr (record { refusal = refusal; answered = told.0; whole = whole_line (refusal_line refusal) sound told.1 })

  refused_whole : (refusal : Refusal) → says (Err refusal) → Told before after old new (Err refusal) status → ¬ Rose before after
      → (status ≡ 9) ⊎ Gave says (λ reply. Appends old new (bytes_of reply)) status
  refused_whole refusal said told sound =
      inr (record { reply = Err refusal; defined = said; answered = told.0; wrote = whole_line (refusal_line refusal) sound told.1 })

  unfailed : (reply : Reply) → Settles says reads reply → Told before after old new reply status → ¬ IsFailed reply → ¬ Rose before after
      → (status ≡ 9) ⊎ Gave says (λ reply. Appends old new (bytes_of reply)) status
  unfailed (Ok output) said (inl told) read sound = inr (record { reply = Ok output; defined = said; answered = told.0; wrote = told.1 })
  unfailed (Ok output) said (inr told) read sound = absurd (sound told.1)
  unfailed (Err Words) said told read sound = refused_whole Words said told sound
  unfailed (Err (Absent name)) said told read sound = refused_whole (Absent name) said told sound
  unfailed (Err (Read name)) said told read sound = absurd (read tt)
  unfailed (Err (TooLong name)) said told read sound = refused_whole (TooLong name) said told sound
  unfailed (Err NotJson) said told read sound = refused_whole NotJson said told sound
  unfailed (Err (Job fault)) said told read sound = refused_whole (Job fault) said told sound
  unfailed (Err (Data name fault)) said told read sound = refused_whole (Data name fault) said told sound
  unfailed (Err (Order name at)) said told read sound = refused_whole (Order name at) said told sound
  unfailed (Err Memory) said told read sound = inl told.0

-- ---- words that are a line, and others

-- a read under the name may be one that the words ask for
IsAskedFor : Option Line → Files → List ℕ → Type 0
IsAskedFor None files name = ⊥
IsAskedFor (Some line) files name = IsReadBy line files name

module _ {D K : Type 0} (held : D → Option Files) (misses faults_of : D → ℕ) (sink_faults : K → ℕ) (put : K → Option (List ℕ))
    (depot depot' : D) (sink sink' : K) (status : ℕ) where
  settled : (line : Option Line) (answers : Answers held misses faults_of sink_faults put line depot depot' sink sink' status)
      (files : Files) → held depot ≡ Some files → Settles (IsDefined line files) (IsAskedFor line files) answers.reply
  unfolding IsAskedFor
  settled None answers files told = subst (λ (reply : Reply). Settles (IsDefined None files) (IsAskedFor None files) reply)
      (sym answers.no_line) refl
  settled (Some line) answers files told =
      subst (λ (told : Option Files). IfSome told (λ files. Settles (IsReply line files) (IsReadBy line files) answers.reply)) told
      answers.works.told

  failed : (line : Option Line) (answers : Answers held misses faults_of sink_faults put line depot depot' sink sink' status)
      → IsFailed answers.reply → Rose (faults_of depot) (faults_of depot')
  failed None answers read = absurd (subst (λ (reply : Reply). IsFailed reply) answers.no_line read)
  failed (Some line) answers read = answers.works.failed read

  complete_at : (line : Option Line) → Answers held misses faults_of sink_faults put line depot depot' sink sink' status
      → (files : Files) → held depot ≡ Some files
      → IsComplete (IsDefined line files) (faults_of depot) (faults_of depot') (sink_faults sink) (sink_faults sink') (put sink)
      (put sink') status
  complete_at line answers files told =
      let says = IsDefined line files in
      let reads = IsAskedFor line files in
      let said = settled line answers files told in record {
        exact = exact says reads (sink_faults sink) (sink_faults sink') (put sink) (put sink') status answers.reply said answers.told;
        line = line_whole says reads (sink_faults sink) (sink_faults sink') (put sink) (put sink') status answers.reply answers.told;
        unfailed = λ read sound. unfailed says reads (sink_faults sink) (sink_faults sink') (put sink) (put sink') status answers.reply
            said answers.told (λ fault. read (failed line answers fault)) sound;
      }

  complete_where : (line : Option Line) → Answers held misses faults_of sink_faults put line depot depot' sink sink' status
      → (told : Option Files) → held depot ≡ told
      → IfSome told (λ files. IsComplete (IsDefined line files) (faults_of depot) (faults_of depot') (sink_faults sink) (sink_faults sink')
      (put sink) (put sink') status)
  complete_where line answers None is = tt
  complete_where line answers (Some files) is = complete_at line answers files is

  pub completes : (line : Option Line) → Answers held misses faults_of sink_faults put line depot depot' sink sink' status
      → Completes held faults_of sink_faults put line depot depot' sink sink' status
  completes line answers = complete_where line answers (held depot) refl
