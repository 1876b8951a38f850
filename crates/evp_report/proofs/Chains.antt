-- Calls that hand on text, one behind the other: in a chain of them, and once for each element of a list.
use Rattle.std.proofs.Common.{◌≡◌, ℕ, ◌+◌, ◌<◌, ◌≤◌, List, [], ◌++◌, drop, get_or, length, Option, Result, Ok, Err, IsErr}
use Rattle.std.proofs.Common.{append-nil, ap, refl, sym, ◌∙◌, arith, subst, add-one}
use Rattle.std.proofs.KnownBytes.{Appends-nil}
use Rattle.std.proofs.Math.Seq.{drop-cons}
use Rattle.std.proofs.lemmas.List.{drop_all}
use Rattle.std.specs.Io.KnownBytes.{Appends}
use Rattle.std.specs.List.{flat_map}
use Rattle.std.specs.Prelude.{OnOk}
use Rattle.evp_depot.specs.Put.{Puts}
use Rattle.evp_report.specs.Passing.{WentOut, Passes}
use Rattle.evp_report.proofs.Passed.{Passes-after, Passes-before, SoFar, gone_on, broken}

-- text was handed on, and then more
pub then : {S T E U F : Type 0} {faults_of : S → ℕ} {told : S → Option (List ℕ)} {old mid new : S} {w w' w'' bytes more : List ℕ} {x : T}
    {result : Result U F} → Passes {S = S} {T = T} {E = E} faults_of told old mid w w' bytes (Ok x)
    → Passes faults_of told mid new w' w'' more result → Passes faults_of told old new w w'' (bytes ++ more) result
then {bytes = bytes} {more = more} {result = result} first second =
    Passes-after _ _ _ _ _ _ _ _ bytes more result first.faults first.passed second

-- text wasn't handed on whole, and so nothing of what would have followed
pub cut : {S T E U F : Type 0} {faults_of : S → ℕ} {told : S → Option (List ℕ)} {old new : S} {w w' bytes : List ℕ} {fault : E}
    {result : Result U F} (more : List ℕ) → Passes {S = S} {T = T} {E = E} faults_of told old new w w' bytes (Err fault) → IsErr result
    → Passes faults_of told old new w w' (bytes ++ more) result
cut {bytes = bytes} {fault = fault} {result = result} more first failed =
    Passes-before _ _ _ _ _ _ _ bytes more (Err fault) result refl failed first

-- the same of a longer text
pub longer : {S T E : Type 0} {faults_of : S → ℕ} {told : S → Option (List ℕ)} {old new : S} {w w' bytes : List ℕ} {fault : E}
    (more : List ℕ) → Passes {S = S} {T = T} {E = E} faults_of told old new w w' bytes (Err fault)
    → Passes {S = S} {T = T} {E = E} faults_of told old new w w' (bytes ++ more) (Err fault)
longer {bytes = bytes} {fault = fault} more first = Passes-before _ _ _ _ _ _ _ bytes more (Err fault) (Err fault) refl refl first

-- the texts of so many elements of a list were handed on
pub record Through {S X : Type 0} (faults_of : S → ℕ) (told : S → Option (List ℕ)) (old now : S) (w w' : List ℕ) (text : X → List ℕ)
    (xs : List X) (i : ℕ) : Type 0 where
  pub so_far : SoFar faults_of told old now w w' (flat_map text (drop i xs)) (flat_map text xs)

-- nothing was handed on
pub none_passes : {S T E : Type 0} {faults_of : S → ℕ} {told : S → Option (List ℕ)} {old : S} {w : List ℕ} {x : T}
    → Passes {S = S} {T = T} {E = E} faults_of told old old w w [] (Ok x)
none_passes {told = told} {old = old} {w = w} = record {
  faults = omega arith;
  failed = tt;
  passed = record { out = []; appended = Appends-nil (told old); rest = sym (append-nil w) };
  part = tt;
}

-- what waited is out, so all was put
pub all_put : {S T E : Type 0} {faults_of : S → ℕ} {told : S → Option (List ℕ)} {old new : S} {w' bytes : List ℕ} {result : Result T E}
    → Passes {S = S} {T = T} {E = E} faults_of told old new [] w' bytes result
    → OnOk result (w' ≡ []) → Puts faults_of told old new bytes result
all_put {told = told} {old = old} {new = new} {w' = w'} {bytes = bytes} {result = Ok x} passes none =
    let went = passes.passed in
    let out : went.out ≡ bytes = sym (append-nil went.out) ∙ ap (λ l. went.out ++ l) (sym none) ∙ went.rest in
    record { faults = passes.faults; failed = tt; all = subst (Appends (told old) (told new)) out went.appended; part = tt }
all_put {result = Err fault} passes none = record { faults = passes.faults; failed = passes.failed; all = tt; part = passes.part }

-- all of it is left
pub nothing_yet : {S : Type 0} {faults_of : S → ℕ} {told : S → Option (List ℕ)} {old : S} {w whole : List ℕ}
    → SoFar faults_of told old old w w whole whole
nothing_yet {told = told} {old = old} {w = w} = record {
  done = [];
  faults = omega arith;
  went = record { out = []; appended = Appends-nil (told old); rest = sym (append-nil w) };
  rest = refl;
}

-- those of none
pub through_none : {S X : Type 0} {faults_of : S → ℕ} {told : S → Option (List ℕ)} {old : S} {w : List ℕ} {text : X → List ℕ} {xs : List X}
    → Through faults_of told old old w w text xs 0
through_none = record { so_far = nothing_yet }

-- an element's text, and those behind it
next_text : {X : Type 0} (text : X → List ℕ) (xs : List X) (i : ℕ) (d : X) → i < length xs
    → text (get_or xs i d) ++ flat_map text (drop (i + 1) xs) ≡ flat_map text (drop i xs)
next_text text xs i d below =
    ap (λ k. text (get_or xs i d) ++ flat_map text (drop k xs)) (add-one i) ∙ ap (flat_map text) (sym (drop-cons xs i d below))

-- one more was handed on
pub through_one : {S T E X : Type 0} {faults_of : S → ℕ} {told : S → Option (List ℕ)} {old mid new : S} {w w' w'' bytes : List ℕ}
    {text : X → List ℕ} {xs : List X} {i : ℕ} {x : T} (d : X) → Through faults_of told old mid w w' text xs i → i < length xs
    → bytes ≡ text (get_or xs i d) → Passes {S = S} {T = T} {E = E} faults_of told mid new w' w'' bytes (Ok x)
    → Through faults_of told old new w w'' text xs (i + 1)
through_one {bytes = bytes} {text = text} {xs = xs} {i = i} d before below is one = record {
  so_far = gone_on _ _ _ _ _ _ _ _ bytes _ _ _ before.so_far
      (ap (λ b. b ++ flat_map text (drop (i + 1) xs)) is ∙ next_text text xs i d below)
      one.faults one.passed;
}

-- one wasn't handed on whole
pub through_cut : {S T E U F X : Type 0} {faults_of : S → ℕ} {told : S → Option (List ℕ)} {old mid new : S} {w w' w'' bytes : List ℕ}
    {text : X → List ℕ} {xs : List X} {i : ℕ} {fault : E} {result : Result U F} (d : X) → Through faults_of told old mid w w' text xs i
    → i < length xs → bytes ≡ text (get_or xs i d) → Passes {S = S} {T = T} {E = E} faults_of told mid new w' w'' bytes (Err fault)
    → IsErr result → Passes faults_of told old new w w'' (flat_map text xs) result
through_cut {bytes = bytes} {text = text} {xs = xs} {i = i} {fault = fault} {result = result} d before below is one failed =
    broken _ _ _ _ _ _ _ _ bytes _ (flat_map text (drop (i + 1) xs)) _ (Err fault) result before.so_far
    (ap (λ b. b ++ flat_map text (drop (i + 1) xs)) is ∙ next_text text xs i d below) refl failed one

-- nothing is left
pub all_passed : {S U F : Type 0} {faults_of : S → ℕ} {told : S → Option (List ℕ)} {old now : S} {w w' whole : List ℕ} {x : U}
    → SoFar faults_of told old now w w' [] whole → Passes {S = S} {T = U} {E = F} faults_of told old now w w' whole (Ok x)
all_passed {told = told} {old = old} {now = now} {w = w} {w' = w'} so_far = record {
  faults = so_far.faults;
  failed = tt;
  passed = subst (WentOut (told old) (told now) w w') (sym (append-nil so_far.done) ∙ so_far.rest) so_far.went;
  part = tt;
}

-- all were handed on
pub through_all : {S U F X : Type 0} {faults_of : S → ℕ} {told : S → Option (List ℕ)} {old now : S} {w w' : List ℕ} {text : X → List ℕ}
    {xs : List X} {i : ℕ} {x : U} → Through faults_of told old now w w' text xs i → length xs ≤ i
    → Passes {S = S} {T = U} {E = F} faults_of told old now w w' (flat_map text xs) (Ok x)
through_all {faults_of = faults_of} {told = told} {old = old} {now = now} {w = w} {w' = w'} {text = text} {xs = xs} {i = i} through end =
    all_passed (subst (λ l. SoFar faults_of told old now w w' (flat_map text l) (flat_map text xs)) (drop_all i xs end) through.so_far)
