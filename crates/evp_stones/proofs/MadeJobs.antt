-- The job that the generator's document and files make.
use Rattle.std.proofs.Common.{◌≡◌, ℕ, ◌+◌, ◌<◌, ◌≤◌, ◌^◌, List, [], ◌∷◌, ◌++◌, length, map, take, get_or}
use Rattle.std.proofs.Common.{Some, None, Result, Ok, Err, IsOk, IsUtf8, refl, sym, ap, ◌∙◌, subst, arith}
use Rattle.std.proofs.lemmas.List.{length-map, map_more}
use Rattle.std.proofs.lemmas.List.Elements.{All-nil, All-cons}
use Rattle.std.proofs.lemmas.Slice.Zip.{all_zipped_more}
use Rattle.std.specs.List.{All}
use Rattle.evp_file.specs.declared.file.KnownFormat.{KnownFormat}
use Rattle.evp_file.specs.declared.file.RecordFile.{RecordFile}
use Rattle.evp_file.specs.Reading.{file_of}
use Rattle.evp_gen.specs.Document.{job_value}
use Rattle.evp_gen.specs.Laws.{SentIsRead, SentIsShort}
use Rattle.evp_format.specs.Layout.{Layout}
use Rattle.evp_gen.specs.Senders.{all_sent, sent_bytes, sent_file, sent_layout}
use Rattle.evp_job.specs.declared.fault.JobFault.{JobFault}
use Rattle.evp_job.specs.declared.job.ReadJob.TheVariants.{NotJson, Job, Memory}
use Rattle.evp_job.specs.declared.job_text.JobText.{JobText}
use Rattle.evp_job.specs.Filling.{agree, all_layouts, AreFilesOf, bare_job, filled, job_with_files}
use Rattle.evp_job.specs.Job.{IsStatedBy, StatesJob}
use Rattle.evp_job.specs.SourceView.{source_of}
use Rattle.evp_job.specs.Stated.{IsStated, layouts_of}
use Rattle.evp_job.specs.Steps.{◌>>=◌}
use Rattle.evp_job.specs.TextShape.{TextShape}
use Rattle.evp_job.specs.TextView.{text_of}
use Rattle.evp_job.proofs.FilledJobs.{filled_is_job}
use Rattle.evp_profile.specs.declared.profile.Profile.{Profile}
use Rattle.evp_profile.specs.declared.profile.Profile.TheVariants.{Le64, Le32, Be64, Be32}
use Rattle.evp_stone.specs.declared.source.Source.{Source}
use Rattle.evp_stone.specs.Job.{IsJob}
use Rattle.evp_stone.specs.JobShape.{JobShape}
use Rattle.serde_json.specs.Data.{Data}
use Rattle.serde_json.specs.Read.{read}
use Rattle.evp_stones.specs.Accepted.{AreRead, IsAccepted, IsReadable}
use Rattle.evp_stones.specs.BenchJob.{bench_job}
use Rattle.evp_stones.specs.BenchLaws.{bench_files, FillsBenchJob, StatesBenchJob}
use Rattle.evp_stones.specs.declared.bench.made_job.MadeSources.{MadeSources}
use Rattle.evp_stones.specs.MadeFiles.{AreMade, IsOneFile, joined}

-- what was made is one thing
one_ok : {X F : Type 0} (r : Result X F) (a b : X) → r ≡ Ok a → r ≡ Ok b → a ≡ b
one_ok r a b first second = cc

-- ---- the document

-- what bytes state that have the document's value
only_stated : (n : ℕ) (bytes : List ℕ) (answer : Result TextShape JobFault) → StatesBenchJob n → read bytes ≡ Some (job_value n)
    → StatesJob bytes answer → answer ≡ Ok (bench_job n)
only_stated n bytes answer law is states =
    let value : Some states.0 ≡ Some (job_value n) = sym states.1.read_as ∙ is in
    law.alone answer (subst (λ (v : Data). IsStatedBy v answer) (some_same states.0 (job_value n) value) states.2) where
      some_same : (a b : Data) → Some a ≡ Some b → a ≡ b
      some_same a b same = cc

pub text_is : (n : ℕ) (bytes : List ℕ) (text : TextShape) → StatesBenchJob n → read bytes ≡ Some (job_value n) → StatesJob bytes (Ok text)
    → text ≡ bench_job n
text_is n bytes text law is states = one_ok (Ok text) text (bench_job n) refl (only_stated n bytes (Ok text) law is states)

pub accepted : (n : ℕ) (bytes : List ℕ) → StatesBenchJob n → IsUtf8 bytes → read bytes ≡ Some (job_value n) → IsAccepted bytes
accepted n bytes law utf8 is NotJson other refusal = none (sym is ∙ refusal utf8) where
  none : Some (job_value n) ≡ None → ⊥
  none same = cc
accepted n bytes law utf8 is (Job fault) other refusal = no_fault (only_stated n bytes (Err fault) law is refusal) where
  no_fault : Err fault ≡ Ok (bench_job n) → ⊥
  no_fault same = cc
accepted n bytes law utf8 is Memory other refusal = other refl

-- ---- the files

-- one file more was read
pub read_more : {X : Type 0} (known : List KnownFormat) (limit : ℕ) (bytes : X → List ℕ) (xs : List X) (i : ℕ) (x : X)
    (files : List RecordFile)
    (file : RecordFile) → i < length xs → x ≡ get_or xs i x → AreRead known limit (map bytes (take i xs)) files
    → file_of known limit (bytes x) ≡ Ok file → AreRead known limit (map bytes (take (i + 1) xs)) (files ++ file ∷ [])
read_more known limit bytes xs i x files file below is are exact =
    subst (λ all. AreRead known limit all (files ++ file ∷ [])) (sym (map_more bytes xs i x below))
    (all_zipped_more (λ (one : List ℕ) (read : RecordFile). file_of known limit one ≡ Ok read) (map bytes (take i xs)) files
    (bytes (get_or xs i x)) file are (subst (λ y. file_of known limit (bytes y) ≡ Ok file) is exact))

module _ (is_read : SentIsRead) (is_short : SentIsShort) (n : ℕ) (few : n ≤ 20000) (known : List KnownFormat) (limit : ℕ)
    (least : 64 ≤ limit) (below : limit < 2 ^ 32) where
  read_as : (profile : Profile) (s : ℕ) → s < 4 → file_of known limit (sent_bytes profile s n) ≡ Ok (sent_file profile s n)
  read_as profile s sender = is_read profile s n known limit sender few least below

  readable : (profile : Profile) (s : ℕ) → s < 4 → IsReadable known limit (sent_bytes profile s n)
  readable profile s sender = record {
    file = subst IsOk (sym (read_as profile s sender)) refl;
    short = let short = is_short profile s n sender few in omega (arith, short);
  }

  the_file : (profile : Profile) (s : ℕ) (file : RecordFile) → s < 4 → file_of known limit (sent_bytes profile s n) ≡ Ok file
      → file ≡ sent_file profile s n
  the_file profile s file sender is =
      one_ok (file_of known limit (sent_bytes profile s n)) file (sent_file profile s n) is (read_as profile s sender)

  one_file : (profile : Profile) (s : ℕ) → s < 4 → IsOneFile known limit (sent_bytes profile s n)
  one_file profile s sender = (
    readable profile s sender,
    λ file is. (sent_layout profile, ap (λ (f : RecordFile). f.formats) (the_file profile s file sender is)),
  )

  pub all_one_file : All (IsOneFile known limit) (all_sent n)
  all_one_file =
      All-cons (IsOneFile known limit) _ (sent_bytes Le32 1 n ∷ sent_bytes Be64 2 n ∷ sent_bytes Be32 3 n ∷ [])
      (one_file Le64 0 (omega arith))
      (All-cons (IsOneFile known limit) _ (sent_bytes Be64 2 n ∷ sent_bytes Be32 3 n ∷ []) (one_file Le32 1 (omega arith))
      (All-cons (IsOneFile known limit) _ (sent_bytes Be32 3 n ∷ []) (one_file Be64 2 (omega arith))
      (All-cons (IsOneFile known limit) _ [] (one_file Be32 3 (omega arith)) (All-nil (IsOneFile known limit)))))

  pub files_are : (files : List RecordFile) → AreRead known limit (all_sent n) files → files ≡ bench_files n
  files_are [] are = absurd are
  files_are (a ∷ []) are = absurd are.1
  files_are (a ∷ b ∷ []) are = absurd are.1.1
  files_are (a ∷ b ∷ c ∷ []) are = absurd are.1.1.1
  files_are (a ∷ b ∷ c ∷ d ∷ []) are =
      rw (
        the_file Le64 0 a (omega arith) are.0,
        the_file Le32 1 b (omega arith) are.1.0,
        the_file Be64 2 c (omega arith) are.1.1.0,
        the_file Be32 3 d (omega arith) are.1.1.1.0,
      ) refl
  files_are (a ∷ b ∷ c ∷ d ∷ e ∷ files) are = absurd are.1.1.1.1

-- ---- the job

pub source_for_each : (n : ℕ) (text : JobText) → text_of text ≡ bench_job n → length text.sources.items ≡ 4
source_for_each n text same = sym (length-map text.sources.items source_of) ∙ ap (λ (t : TextShape). length t.sources) same

pub file_for_each : (n : ℕ) (text : JobText) (files : List RecordFile) → text_of text ≡ bench_job n → files ≡ bench_files n
    → length files ≡ length text.sources.items
file_for_each n text files same are = ap length are ∙ sym (source_for_each n text same)

pub fills_there : (n : ℕ) (text : JobText) (files : List RecordFile) → FillsBenchJob n → text_of text ≡ bench_job n → files ≡ bench_files n
    → filled (bare_job text) files ≡ Ok (job_with_files (bare_job text) files)
fills_there n text files law same are =
    subst (λ all. filled (bare_job text) all ≡ Ok (job_with_files (bare_job text) all)) (sym are) (law text same)

-- what was filled had no fault
agreed : (passed : Result (Unit {0}) JobFault) (job : JobShape) → (passed >>= λ _. Ok job) ≡ Ok job → passed ≡ Ok tt
agreed (Ok x) job is = refl
agreed (Err fault) job is = absurd (cc)

pub filled_job : (text : JobText) (files : List RecordFile) → IsStated text → AreFilesOf text files
    → filled (bare_job text) files ≡ Ok (job_with_files (bare_job text) files) → IsJob (job_with_files (bare_job text) files)
unfolding filled
filled_job text files stated read fills =
    filled_is_job text files stated read (agreed (agree (bare_job text) files) (job_with_files (bare_job text) files) fills)

-- the document's job with these sources is the one that is filled with their files
pub joined_is : (text : JobText) (records : ℕ) (made : MadeSources) (all : AreMade text records made)
    → joined text made ≡ job_with_files (bare_job text) all.files
joined_is text records made all =
    let layouts = layouts_of text.formats.items in
    ap (λ (own : List Layout). record (bare_job text) { formats = layouts ++ own; sources = made.sources.items }) all.formats
    ∙ ap (λ (sources : List Source). record (bare_job text) { formats = all_layouts layouts all.files; sources = sources }) all.sources
