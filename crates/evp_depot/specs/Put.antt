-- What a sink has taken.
use Rattle.std.specs.Prelude.{ℕ, ◌+◌, ◌<◌, ◌≤◌, List, ◌++◌, length, take, Option, Result, Ok, Err}
use Rattle.std.specs.Prelude.{OnOk, OnErr, IsErr}
use Rattle.std.specs.Io.KnownBytes.{Appends}
use Rattle.std.proofs.Common.{arith, length-append}
use Rattle.std.proofs.KnownBytes.{Appends-trans}
use Rattle.std.proofs.lemmas.Bool.{false≢true}
use Rattle.std.proofs.Math.Seq.{take-append-add}
use Rattle.std.proofs.lemmas.List.{take-append-le}
use Rattle.evp_depot.specs.Counts.{Rose, Rose-after}

-- known bytes grow by a front of these, and not by all of them
abbrev pub AppendsPart : Option (List ℕ) → Option (List ℕ) → List ℕ → Type 0
AppendsPart old new bytes = (n : ℕ) × (n < length bytes) × Appends old new (take n bytes)

-- What a call that puts these bytes does to a sink. Its faults never fall, and rose where the call
-- failed. Where the sink tells what it has taken, that grew by all bytes, or by a part of them
-- where the call failed.
pub record Puts {S T E : Type 0} (faults_of : S → ℕ) (told : S → Option (List ℕ))
    (old new : S) (bytes : List ℕ) (result : Result T E) : Type 0 where
  pub faults : faults_of old ≤ faults_of new
  pub failed : OnErr result (Rose (faults_of old) (faults_of new))
  pub all : OnOk result (Appends (told old) (told new) bytes)
  pub part : OnErr result (AppendsPart (told old) (told new) bytes)

-- all of some bytes and a part of what follows them are a part of both
pub AppendsPart-after : (old mid new : Option (List ℕ)) (bytes more : List ℕ)
    → Appends old mid bytes → AppendsPart mid new more → AppendsPart old new (bytes ++ more)
AppendsPart-after old mid new bytes more all part = (
  length bytes + part.0,
  omega (arith, part.1, length-append bytes more),
  rw (take-append-add bytes more part.0)
      (Appends-trans old mid new bytes (take part.0 more) all part.2),
)

-- a part of some bytes is a part of them and what would have followed
pub AppendsPart-before : (old new : Option (List ℕ)) (bytes more : List ℕ)
    → AppendsPart old new bytes → AppendsPart old new (bytes ++ more)
AppendsPart-before old new bytes more part =
    let within : part.0 < length bytes = part.1 in (
      part.0,
      omega (arith, within, length-append bytes more),
      rw (take-append-le part.0 bytes more (omega (arith, within))) part.2,
    )

-- all of some bytes, and then a call that puts more
pub Puts-after : {S T E : Type 0} (faults_of : S → ℕ) (told : S → Option (List ℕ)) (old mid new : S)
    (bytes more : List ℕ) (result : Result T E) → faults_of old ≤ faults_of mid
    → Appends (told old) (told mid) bytes → Puts faults_of told mid new more result
    → Puts faults_of told old new (bytes ++ more) result
Puts-after faults_of told old mid new bytes more (Ok x) later first second = record {
  faults = omega (arith, later, second.faults);
  failed = tt;
  all = Appends-trans (told old) (told mid) (told new) bytes more first second.all;
  part = tt;
}
Puts-after faults_of told old mid new bytes more (Err e) later first second = record {
  faults = omega (arith, later, second.faults);
  failed = Rose-after (faults_of old) (faults_of mid) (faults_of new) later second.faults
      second.failed;
  all = tt;
  part = AppendsPart-after (told old) (told mid) (told new) bytes more first second.part;
}

-- a call that failed put a part of its bytes, and so of them and what would have followed
pub Puts-before : {S T E U F : Type 0} (faults_of : S → ℕ) (told : S → Option (List ℕ))
    (old new : S) (bytes more : List ℕ) (answer : Result T E) (result : Result U F)
    → IsErr answer → IsErr result → Puts faults_of told old new bytes answer
    → Puts faults_of told old new (bytes ++ more) result
Puts-before faults_of told old new bytes more (Err fault) (Err failed) _ _ first = record {
  faults = first.faults;
  failed = first.failed;
  all = tt;
  part = AppendsPart-before (told old) (told new) bytes more first.part;
}
Puts-before faults_of told old new bytes more (Ok x) result is_err _ first =
    absurd (false≢true is_err)
Puts-before faults_of told old new bytes more (Err fault) (Ok y) _ is_err first =
    absurd (false≢true is_err)
