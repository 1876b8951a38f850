-- How calls that hand on text follow each other.
use Rattle.std.proofs.Common.{◌≡◌, ℕ, ◌≤◌, List, [], ◌++◌, Option, Result, Ok, Err, IsErr}
use Rattle.std.proofs.Common.{append_assoc, append-nil, ap, ◌∙◌, sym, arith, subst}
use Rattle.std.proofs.lemmas.Bool.{false≢true}
use Rattle.std.proofs.KnownBytes.{Appends-trans}
use Rattle.evp_depot.specs.Counts.{Rose-after}
use Rattle.evp_depot.specs.Put.{AppendsPart, AppendsPart-after, AppendsPart-before, Puts}
use Rattle.evp_report.specs.Passing.{WentOut, Passes}

-- what went out, and then more
pub WentOut-after : (old mid new : Option (List ℕ)) (w w' w'' bytes more : List ℕ)
    → WentOut old mid w w' bytes → WentOut mid new w' w'' more
    → WentOut old new w w'' (bytes ++ more)
WentOut-after old mid new w w' w'' bytes more first second = record {
  out = first.out ++ second.out;
  appended = Appends-trans old mid new first.out second.out first.appended second.appended;
  rest = append_assoc first.out second.out w'' ∙ ap (λ l. first.out ++ l) second.rest
      ∙ sym (append_assoc first.out w' more) ∙ ap (λ l. l ++ more) first.rest
      ∙ append_assoc w bytes more;
}

-- text handed on, and then more
pub Passes-after : {S T E : Type 0} (faults_of : S → ℕ) (told : S → Option (List ℕ))
    (old mid new : S) (w w' w'' bytes more : List ℕ) (result : Result T E)
    → faults_of old ≤ faults_of mid → WentOut (told old) (told mid) w w' bytes
    → Passes faults_of told mid new w' w'' more result
    → Passes faults_of told old new w w'' (bytes ++ more) result
Passes-after faults_of told old mid new w w' w'' bytes more (Ok x) later first second = record {
  faults = omega (arith, later, second.faults);
  failed = tt;
  passed = WentOut-after (told old) (told mid) (told new) w w' w'' bytes more first second.passed;
  part = tt;
}
Passes-after faults_of told old mid new w w' w'' bytes more (Err e) later first second = record {
  faults = omega (arith, later, second.faults);
  failed = Rose-after (faults_of old) (faults_of mid) (faults_of new) later second.faults
      second.failed;
  passed = tt;
  part = subst (AppendsPart (told old) (told new))
      (sym (append_assoc first.out w' more) ∙ ap (λ l. l ++ more) first.rest
      ∙ append_assoc w bytes more)
      (AppendsPart-after (told old) (told mid) (told new) first.out (w' ++ more) first.appended
      second.part);
}

-- a call that failed handed on a part of its bytes, and so of them and what would have followed
pub Passes-before : {S T E U F : Type 0} (faults_of : S → ℕ) (told : S → Option (List ℕ))
    (old new : S) (w w' w'' bytes more : List ℕ) (answer : Result T E) (result : Result U F)
    → IsErr answer → IsErr result → Passes faults_of told old new w w' bytes answer
    → Passes faults_of told old new w w'' (bytes ++ more) result
Passes-before faults_of told old new w w' w'' bytes more (Err fault) (Err failed) _ _ first = record {
  faults = first.faults;
  failed = first.failed;
  passed = tt;
  part = subst (AppendsPart (told old) (told new)) (append_assoc w bytes more)
      (AppendsPart-before (told old) (told new) (w ++ bytes) more first.part);
}
Passes-before faults_of told old new w w' w'' bytes more (Ok x) result is_err _ first =
    absurd (false≢true is_err)
Passes-before faults_of told old new w w' w'' bytes more (Err fault) (Ok y) _ is_err first =
    absurd (false≢true is_err)

-- what is written at once, where nothing waits
pub Passes-straight : {S T E : Type 0} (faults_of : S → ℕ) (told : S → Option (List ℕ))
    (old new : S)
    (w w' bytes : List ℕ) (result : Result T E) → w ≡ [] → w' ≡ []
    → Puts faults_of told old new bytes result
    → Passes faults_of told old new w w' bytes result
Passes-straight faults_of told old new w w' bytes (Ok x) none no_more puts = record {
  faults = puts.faults;
  failed = tt;
  passed = record {
    out = bytes;
    appended = puts.all;
    rest = ap (λ l. bytes ++ l) no_more ∙ append-nil bytes ∙ ap (λ l. l ++ bytes) (sym none);
  };
  part = tt;
}
Passes-straight faults_of told old new w w' bytes (Err e) none no_more puts = record {
  faults = puts.faults;
  failed = puts.failed;
  passed = tt;
  part = subst (λ l. AppendsPart (told old) (told new) (l ++ bytes)) (sym none) puts.part;
}

-- some of a whole text was handed on, and this is left
pub record SoFar {S : Type 0} (faults_of : S → ℕ) (told : S → Option (List ℕ)) (old now : S)
    (w w' left whole : List ℕ) : Type 0 where
  pub done : List ℕ
  pub faults : faults_of old ≤ faults_of now
  pub went : WentOut (told old) (told now) w w' done
  pub rest : done ++ left ≡ whole

-- the first part was handed on
pub begun : {S : Type 0} (faults_of : S → ℕ) (told : S → Option (List ℕ)) (old now : S)
    (w w' bytes left whole : List ℕ) → faults_of old ≤ faults_of now
    → WentOut (told old) (told now) w w' bytes → bytes ++ left ≡ whole
    → SoFar faults_of told old now w w' left whole
begun faults_of told old now w w' bytes left whole later went rest =
    record { done = bytes; faults = later; went = went; rest = rest }

-- one more part was handed on
pub gone_on : {S : Type 0} (faults_of : S → ℕ) (told : S → Option (List ℕ)) (old mid new : S)
    (w w' w'' bytes left more whole : List ℕ) → SoFar faults_of told old mid w w' left whole
    → bytes ++ more ≡ left → faults_of mid ≤ faults_of new
    → WentOut (told mid) (told new) w' w'' bytes
    → SoFar faults_of told old new w w'' more whole
gone_on faults_of told old mid new w w' w'' bytes left more whole so_far parts later went = record {
  done = so_far.done ++ bytes;
  faults = let earlier = so_far.faults in omega (arith, earlier, later);
  went = WentOut-after (told old) (told mid) (told new) w w' w'' so_far.done bytes so_far.went went;
  rest = append_assoc so_far.done bytes more ∙ ap (λ l. so_far.done ++ l) parts ∙ so_far.rest;
}

-- the last part was handed on, or failed
pub ended : {S T E : Type 0} (faults_of : S → ℕ) (told : S → Option (List ℕ)) (old mid new : S)
    (w w' w'' left whole : List ℕ) (result : Result T E)
    → SoFar faults_of told old mid w w' left whole
    → Passes faults_of told mid new w' w'' left result
    → Passes faults_of told old new w w'' whole result
ended faults_of told old mid new w w' w'' left whole result so_far last =
    subst (λ l. Passes faults_of told old new w w'' l result) so_far.rest
    (Passes-after faults_of told old mid new w w' w'' so_far.done left result so_far.faults
    so_far.went last)

-- a part failed
pub broken : {S T E U F : Type 0} (faults_of : S → ℕ) (told : S → Option (List ℕ)) (old mid new : S)
    (w w' w'' bytes left more whole : List ℕ) (answer : Result T E) (result : Result U F)
    → SoFar faults_of told old mid w w' left whole → bytes ++ more ≡ left → IsErr answer
    → IsErr result
    → Passes faults_of told mid new w' w'' bytes answer
    → Passes faults_of told old new w w'' whole result
broken faults_of told old mid new w w' w'' bytes left more whole answer result so_far parts is_err
    is_failed part =
    ended faults_of told old mid new w w' w'' left whole result so_far
    (subst (λ l. Passes faults_of told mid new w' w'' l result) parts
    (Passes-before faults_of told mid new w' w'' w'' bytes more answer result is_err
    is_failed part))

-- the first part failed
pub broken_first : {S T E U F : Type 0} (faults_of : S → ℕ) (told : S → Option (List ℕ))
    (old new : S)
    (w w' bytes more whole : List ℕ) (answer : Result T E) (result : Result U F)
    → bytes ++ more ≡ whole
    → IsErr answer → IsErr result → Passes faults_of told old new w w' bytes answer
    → Passes faults_of told old new w w' whole result
broken_first faults_of told old new w w' bytes more whole answer result parts is_err is_failed first
    =
    subst (λ l. Passes faults_of told old new w w' l result) parts
    (Passes-before faults_of told old new w w' w' bytes more answer result is_err is_failed
    first)
