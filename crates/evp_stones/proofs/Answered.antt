-- How the answer to a line comes together.
use Rattle.std.proofs.Common.{◌≡◌, ◌≢◌, ◌⊎◌, ◌↔◌, inl, inr, ℕ, List, Option, Some, None, IsSome, Result, Ok, Err}
use Rattle.std.proofs.Common.{refl, subst, arith}
use Rattle.std.proofs.lemmas.Bool.{false≢true}
use Rattle.evp_depot.specs.Files.{Files}
use Rattle.evp_depot.specs.Put.{Puts}
use Rattle.evp_stones.specs.Answer.{Answers, Reply, IsBenched, IsReply, IsReadBy, Tells, Told, Refuses}
use Rattle.evp_stones.specs.declared.refusal.Refusal.{Refusal}
use Rattle.evp_stones.specs.declared.refusal.Refusal.TheVariants.{Words, Absent, Read, TooLong, NotJson, Job, Data, Order, Memory}
use Rattle.evp_stones.specs.Refusals.{refusal_line, refusal_status}
use Rattle.evp_stones.specs.Steps.{Works, IsWords}
use Rattle.evp_stones.specs.Words.{Line}
use Rattle.evp_stones.proofs.BenchWorks.{benched_starved}
use Rattle.evp_stones.proofs.Joined.{starved}

-- a line was put, or a part of it
pub line_told : {S T E : Type 0} (faults_of : S → ℕ) (put : S → Option (List ℕ)) (old new : S) (refusal : Refusal) (result : Result T E)
    → Puts faults_of put old new (refusal_line refusal) result
    → Told (faults_of old) (faults_of new) (put old) (put new) (Err refusal) (refusal_status refusal)
line_told faults_of put old new refusal (Ok x) puts = (refl, inl puts.all)
line_told faults_of put old new refusal (Err e) puts = (refl, inr (puts.failed, puts.part))

-- a line's refusal, which was written
pub refused_told : {D K : Type 0} (held : D → Option Files) (misses faults_of : D → ℕ) (sink_faults : K → ℕ)
    (put : K → Option (List ℕ)) (asked : Line) (line : Option Line) (depot depot' : D) (sink sink' : K) (refusal : Refusal) (status : ℕ)
    → line ≡ Some asked → Works held misses faults_of depot depot' (IsReply asked) (IsReadBy asked) (Err refusal)
    → IsBenched asked (Err refusal) → Refuses sink_faults put sink sink' refusal status
    → Answers held misses faults_of sink_faults put line depot depot' sink sink' status
refused_told held misses faults_of sink_faults put asked line depot depot' sink sink' refusal status is works bench refuses = record {
  reply = Err refuses.refused;
  works = rw is (by refuses.refused refuses.this);
  benched = rw is (benched_by refuses.refused refuses.this);
  no_line = rw is tt;
  told = refuses.told;
} where
  by : (refused : Refusal) → (refused ≡ refusal) ⊎ (refused ≡ Memory)
      → Works held misses faults_of depot depot' (IsReply asked) (IsReadBy asked) (Err refused)
  by refused (inl same) = rw same works
  by refused (inr none) =
      rw none (starved held misses faults_of depot depot' (IsReply asked) (IsReply asked) (IsReadBy asked) (IsReadBy asked)
      (Err refusal) works)

  benched_by : (refused : Refusal) → (refused ≡ refusal) ⊎ (refused ≡ Memory) → IsBenched asked (Err refused)
  benched_by refused (inl same) = rw same bench
  benched_by refused (inr none) = rw none (benched_starved asked)

-- a line's reply, which was written
pub line_told_by : {D K : Type 0} (held : D → Option Files) (misses faults_of : D → ℕ) (sink_faults : K → ℕ)
    (put : K → Option (List ℕ)) (asked : Line) (line : Option Line) (depot depot' : D) (sink sink' : K) (reply : Reply) (status : ℕ)
    → line ≡ Some asked → Works held misses faults_of depot depot' (IsReply asked) (IsReadBy asked) reply
    → IsBenched asked reply → Tells sink_faults put sink sink' reply status
    → Answers held misses faults_of sink_faults put line depot depot' sink sink' status
line_told_by held misses faults_of sink_faults put asked line depot depot' sink sink' (Ok output) status is works bench told = record {
  reply = Ok output;
  works = rw is works;
  benched = rw is bench;
  no_line = rw is tt;
  told = told;
}
line_told_by held misses faults_of sink_faults put asked line depot depot' sink sink' (Err refusal) status is works bench told =
    refused_told held misses faults_of sink_faults put asked line depot depot' sink sink' refusal status is works bench told

-- words that are no line
pub no_line_told : {D K : Type 0} (held : D → Option Files) (misses faults_of : D → ℕ) (sink_faults : K → ℕ)
    (put : K → Option (List ℕ)) (line : Option Line) (depot depot' : D) (sink sink' : K) (status : ℕ)
    → line ≡ None → Told (sink_faults sink) (sink_faults sink') (put sink) (put sink') (Err Words) status
    → Answers held misses faults_of sink_faults put line depot depot' sink sink' status
no_line_told held misses faults_of sink_faults put line depot depot' sink sink' status is told = record {
  reply = Err Words;
  works = rw is tt;
  benched = rw is tt;
  no_line = rw is refl;
  told = told;
}

-- ---- which status the words alone have

-- of a line that is one the status isn't 1
not_words : (reply : Reply) (before after : ℕ) (old new : Option (List ℕ)) (status : ℕ) → (¬ IsWords reply)
    → Told before after old new reply status → status ≢ 1
not_words (Ok output) before after old new status kind (inl told) e = absurd (omega (arith, e, told.0))
not_words (Ok output) before after old new status kind (inr told) e = absurd (omega (arith, e, told.0))
not_words (Err Words) before after old new status kind told e = absurd (kind tt)
not_words (Err (Absent name)) before after old new status kind told e = absurd (omega (arith, e, told.0))
not_words (Err (Read name)) before after old new status kind told e = absurd (omega (arith, e, told.0))
not_words (Err (TooLong name)) before after old new status kind told e = absurd (omega (arith, e, told.0))
not_words (Err NotJson) before after old new status kind told e = absurd (omega (arith, e, told.0))
not_words (Err (Job fault)) before after old new status kind told e = absurd (omega (arith, e, told.0))
not_words (Err (Data name fault)) before after old new status kind told e = absurd (omega (arith, e, told.0))
not_words (Err (Order name at)) before after old new status kind told e = absurd (omega (arith, e, told.0))
not_words (Err Memory) before after old new status kind told e = absurd (omega (arith, e, told.0))

are_words : (reply : Reply) (before after : ℕ) (old new : Option (List ℕ)) (status : ℕ) → reply ≡ Err Words
    → Told before after old new reply status → status ≡ 1
are_words reply before after old new status is told =
    (subst (λ (r : Reply). Told before after old new r status) is told).0

-- 1 exactly where the words are no line
pub words_exactly : {D K : Type 0} (held : D → Option Files) (misses faults_of : D → ℕ) (sink_faults : K → ℕ)
    (put : K → Option (List ℕ)) (line : Option Line) (depot depot' : D) (sink sink' : K) (status : ℕ)
    → Answers held misses faults_of sink_faults put line depot depot' sink sink' status → (status ≡ 1) ↔ ¬ IsSome line
words_exactly held misses faults_of sink_faults put None depot depot' sink sink' status answers = (
  λ e. λ is. absurd (false≢true is),
  λ none. are_words answers.reply (sink_faults sink) (sink_faults sink') (put sink) (put sink') status answers.no_line answers.told,
)
words_exactly held misses faults_of sink_faults put (Some asked) depot depot' sink sink' status answers = (
  λ e. absurd (not_words answers.reply (sink_faults sink) (sink_faults sink') (put sink) (put sink') status answers.works.on_line
      answers.told e),
  λ none. absurd (none refl),
)
