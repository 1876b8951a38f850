-- The record files of names, one after another.
use Rattle.std.proofs.Common.{◌≡◌, ℕ, ◌+◌, ◌<◌, ◌≤◌, suc, List, [], ◌∷◌, ◌++◌, take, drop, length, Option, Some, None, IfSome, OnSome}
use Rattle.std.proofs.Common.{Result, Ok, Err, refl, sym, ap, ◌∙◌, arith}
use Rattle.std.proofs.lemmas.List.{take-append-drop, take_all}
use Rattle.evp_depot.specs.Files.{Files}
use Rattle.evp_file.specs.declared.file.KnownFormat.{KnownFormat}
use Rattle.evp_file.specs.declared.file.RecordFile.{RecordFile}
use Rattle.evp_stone.proofs.Fronts.{take_more}
use Rattle.evp_stones.specs.declared.refusal.Refusal.{Refusal}
use Rattle.evp_stones.specs.Fetching.{IsHeld}
use Rattle.evp_stones.specs.RecordFiles.{file_named, files_named, IsNext}
use Rattle.evp_stones.specs.Steps.{◌>>=◌, Works, seen_by}
use Rattle.evp_stones.proofs.Joined.{works_as, works_both, works_cut}
use Rattle.evp_stones.proofs.Mapped.{works_on}
use Rattle.std.specs.Prelude.{slice_get, get_or, map, string_bytes, zero}
use Rattle.evp_job.specs.declared.sources.SourceText.{SourceText}

-- ---- the definition, part by part

same_again : (others : Result (List RecordFile) Refusal) → others ≡ (others >>= λ made. Ok made)
same_again (Ok made) = refl
same_again (Err refusal) = refl

one_first : (first : Result RecordFile Refusal) (rest others whole : Result (List RecordFile) Refusal)
    → whole ≡ (rest >>= λ made. others >>= λ more. Ok (made ++ more))
    → (first >>= λ file. whole >>= λ more. Ok (file ∷ more))
    ≡ ((first >>= λ file. rest >>= λ made. Ok (file ∷ made)) >>= λ made. others >>= λ more. Ok (made ++ more))
one_first (Err refusal) rest others whole e = refl
one_first (Ok file) (Err refusal) others whole e = rw e refl
one_first (Ok file) (Ok made) (Err refusal) whole e = rw e refl
one_first (Ok file) (Ok made) (Ok more) whole e = rw e refl

files_joined : (known : List KnownFormat) (limit : ℕ) (files : Files) (names more : List (List ℕ))
    → files_named known limit files (names ++ more)
    ≡ (files_named known limit files names >>= λ made. files_named known limit files more >>= λ others. Ok (made ++ others))
files_joined known limit files [] more = same_again (files_named known limit files more)
files_joined known limit files (name ∷ names) more =
    one_first (file_named known limit files name) (files_named known limit files names) (files_named known limit files more)
    (files_named known limit files (names ++ more)) (files_joined known limit files names more)

one_more : (before : Result (List RecordFile) Refusal) (file : Result RecordFile Refusal) (made : List RecordFile) → Ok made ≡ before
    → (before >>= λ made. (file >>= λ x. Ok [] >>= λ others. Ok (x ∷ others)) >>= λ others. Ok (made ++ others))
    ≡ seen_by (λ x. made ++ x ∷ []) file
one_more before (Ok x) made e = rw (sym e) refl
one_more before (Err refusal) made e = rw (sym e) refl

-- one more
files_next : (known : List KnownFormat) (limit : ℕ) (files : Files) (names : List (List ℕ)) (k : ℕ) (name : List ℕ) (made : List RecordFile)
    → slice_get names k ≡ Some name → Ok made ≡ files_named known limit files (take k names)
    → files_named known limit files (take (k + 1) names) ≡ seen_by (λ file. made ++ file ∷ []) (file_named known limit files name)
files_next known limit files names k name made there e =
    ap (λ n. files_named known limit files (take n names)) {x = k + 1} {y = suc k} (omega arith)
    ∙ ap (files_named known limit files) (take_more names k name there) ∙ files_joined known limit files (take k names) (name ∷ [])
    ∙ one_more (files_named known limit files (take k names)) (file_named known limit files name) made e

still_refused : (before others : Result (List RecordFile) Refusal) (refusal : Refusal) → Err refusal ≡ before
    → (before >>= λ made. others >>= λ more. Ok (made ++ more)) ≡ Err refusal
still_refused before others refusal e = rw (sym e) refl

-- a refusal among the first is that of all
files_cut : (known : List KnownFormat) (limit : ℕ) (files : Files) (names : List (List ℕ)) (k : ℕ) (refusal : Refusal)
    → Err refusal ≡ files_named known limit files (take k names) → Err refusal ≡ files_named known limit files names
files_cut known limit files names k refusal e =
    sym (ap (files_named known limit files) (sym (take-append-drop k names)) ∙ files_joined known limit files (take k names) (drop k names)
    ∙ still_refused (files_named known limit files (take k names)) (files_named known limit files (drop k names)) refusal e)

-- ---- over a depot

-- the first so many files were read
abbrev pub HaveRead : {D : Type 0} → (D → Option Files) → (D → ℕ) → (D → ℕ) → D → D → List KnownFormat → ℕ → List (List ℕ) → ℕ
    → Result (List RecordFile) Refusal → Type 0
HaveRead held misses faults_of old new known limit names k answer =
    Works held misses faults_of old new (λ files (a : Result (List RecordFile) Refusal). a ≡ files_named known limit files (take k names))
    (IsNext known limit names) answer

pub none_read : {D : Type 0} (held : D → Option Files) (misses faults_of : D → ℕ) (depot : D) (known : List KnownFormat) (limit : ℕ)
    (names : List (List ℕ)) → HaveRead held misses faults_of depot depot known limit names 0 (Ok [])
none_read held misses faults_of depot known limit names = record {
  on_line = λ e. e;
  misses_stay = omega arith;
  faults_stay = omega arith;
  still_held = same (held depot);
  missed = λ e. absurd e;
  failed = λ e. absurd e;
  told = told_none (held depot);
} where
  same : (told : Option Files) → OnSome told (told ≡ told)
  same None = tt
  same (Some files) = refl

  told_none : (told : Option Files) → IfSome told (λ files. Ok [] ≡ files_named known limit files (take 0 names))
  told_none None = tt
  told_none (Some files) = refl

-- and the next one, or it was refused
pub next_read : {D : Type 0} (held : D → Option Files) (misses faults_of : D → ℕ) (old mid new : D) (known : List KnownFormat) (limit : ℕ)
    (names : List (List ℕ)) (k : ℕ) (name : List ℕ) (made : List RecordFile) (answer : Result RecordFile Refusal)
    → slice_get names k ≡ Some name → HaveRead held misses faults_of old mid known limit names k (Ok made)
    → Works held misses faults_of mid new (λ files (a : Result RecordFile Refusal). a ≡ file_named known limit files name)
    (IsHeld name) answer
    → HaveRead held misses faults_of old new known limit names (k + 1) (seen_by (λ file. made ++ file ∷ []) answer)
next_read held misses faults_of old mid new known limit names k name made answer there before one =
    works_both held misses faults_of old mid new
    (λ files (a : Result (List RecordFile) Refusal). a ≡ files_named known limit files (take k names))
    (λ files (a : Result (List RecordFile) Refusal). a ≡ seen_by (λ file. made ++ file ∷ []) (file_named known limit files name))
    (λ files (a : Result (List RecordFile) Refusal). a ≡ files_named known limit files (take (k + 1) names))
    (IsNext known limit names) (IsHeld name) (IsNext known limit names) made (seen_by (λ file. made ++ file ∷ []) answer)
    (λ files sound a is. is ∙ sym (files_next known limit files names k name made there sound))
    (λ files sound wanted is. record { number = k; before = made; sound = sym sound; wanted = name; there = there; held = is })
    before
    (works_on held misses faults_of mid new (λ file. made ++ file ∷ [])
    (λ files (a : Result RecordFile Refusal). a ≡ file_named known limit files name)
    (λ files (a : Result (List RecordFile) Refusal). a ≡ seen_by (λ file. made ++ file ∷ []) (file_named known limit files name))
    (IsHeld name) (IsHeld name) answer (λ files a is. ap (seen_by (λ file. made ++ file ∷ [])) is) (λ files wanted is. is) one)

-- no more is read behind a refusal
pub read_cut : {D : Type 0} (held : D → Option Files) (misses faults_of : D → ℕ) (old new : D) (known : List KnownFormat) (limit : ℕ)
    (names : List (List ℕ)) (k : ℕ) (refusal : Refusal) → HaveRead held misses faults_of old new known limit names k (Err refusal)
    → Works held misses faults_of old new (λ files (a : Result (List RecordFile) Refusal). a ≡ files_named known limit files names)
    (IsNext known limit names) (Err refusal)
read_cut held misses faults_of old new known limit names k refusal works =
    works_cut held misses faults_of old new
    (λ files (a : Result (List RecordFile) Refusal). a ≡ files_named known limit files (take k names))
    (λ files (a : Result (List RecordFile) Refusal). a ≡ files_named known limit files names) (IsNext known limit names)
    (IsNext known limit names) refusal (λ files r is. files_cut known limit files names k r is) (λ files name is. is) works

-- all were read
pub all_read : {D : Type 0} (held : D → Option Files) (misses faults_of : D → ℕ) (old new : D) (known : List KnownFormat) (limit : ℕ)
    (names : List (List ℕ)) (k : ℕ) (answer : Result (List RecordFile) Refusal) → length names ≤ k
    → HaveRead held misses faults_of old new known limit names k answer
    → Works held misses faults_of old new (λ files (a : Result (List RecordFile) Refusal). a ≡ files_named known limit files names)
    (IsNext known limit names) answer
all_read held misses faults_of old new known limit names k answer long works =
    works_as held misses faults_of old new
    (λ files (a : Result (List RecordFile) Refusal). a ≡ files_named known limit files (take k names))
    (λ files (a : Result (List RecordFile) Refusal). a ≡ files_named known limit files names) (IsNext known limit names)
    (IsNext known limit names) answer (λ files a is. is ∙ ap (files_named known limit files) (take_all k names long))
    (λ files name is. is) works

-- the name of a source's file
pub file_at : (sources : List SourceText) (k : ℕ) (source : SourceText) → k < length sources → source ≡ get_or sources k source
    → slice_get (map (λ (s : SourceText). string_bytes s.file) sources) k ≡ Some (string_bytes source.file)
file_at [] k source below is = absurd (omega arith)
file_at (first ∷ sources) zero source below is = ap (λ (s : SourceText). Some (string_bytes s.file)) (sym is)
file_at (first ∷ sources) (suc k) source below is = file_at sources k source (omega arith) is
