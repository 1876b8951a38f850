-- Texts that are handed on once for each element of a list, by its number.
use Rattle.std.proofs.Common.{◌≡◌, ℕ, ◌+◌, ◌<◌, ◌≤◌, List, ◌++◌, drop, get_or, length, Option, Result, Ok, Err, IsErr}
use Rattle.std.proofs.Common.{[], ◌∷◌, map, ap, refl, sym, ◌∙◌, subst, add-one}
use Rattle.std.proofs.Math.Seq.{drop-cons}
use Rattle.std.proofs.lemmas.List.{drop_all}
use Rattle.evp_report.specs.Passing.{Passes}
use Rattle.evp_report.proofs.Chains.{nothing_yet, all_passed}
use Rattle.evp_report.proofs.Passed.{SoFar, gone_on, broken}
use Rattle.evp_stones.specs.Numbered.{numbered}

-- the texts of so many elements of a list were handed on
pub record Through {S X : Type 0} (faults_of : S → ℕ) (told : S → Option (List ℕ)) (old now : S) (w w' : List ℕ) (text : ℕ → X → List ℕ)
    (xs : List X) (i : ℕ) : Type 0 where
  pub so_far : SoFar faults_of told old now w w' (numbered text i (drop i xs)) (numbered text 0 xs)

-- those of none
pub through_none : {S X : Type 0} {faults_of : S → ℕ} {told : S → Option (List ℕ)} {old : S} {w : List ℕ} {text : ℕ → X → List ℕ}
    {xs : List X} → Through faults_of told old old w w text xs 0
through_none = record { so_far = nothing_yet }

-- an element's text, and those behind it
next_text : {X : Type 0} (text : ℕ → X → List ℕ) (xs : List X) (i : ℕ) (d : X) → i < length xs
    → text i (get_or xs i d) ++ numbered text (i + 1) (drop (i + 1) xs) ≡ numbered text i (drop i xs)
next_text text xs i d below =
    ap (λ k. text i (get_or xs i d) ++ numbered text (i + 1) (drop k xs)) (add-one i)
    ∙ ap (numbered text i) (sym (drop-cons xs i d below))

-- one more was handed on
pub through_one : {S T E X : Type 0} {faults_of : S → ℕ} {told : S → Option (List ℕ)} {old mid new : S} {w w' w'' bytes : List ℕ}
    {text : ℕ → X → List ℕ} {xs : List X} {i : ℕ} {x : T} (d : X) → Through faults_of told old mid w w' text xs i → i < length xs
    → bytes ≡ text i (get_or xs i d) → Passes {S = S} {T = T} {E = E} faults_of told mid new w' w'' bytes (Ok x)
    → Through faults_of told old new w w'' text xs (i + 1)
through_one {bytes = bytes} {text = text} {xs = xs} {i = i} d before below is one = record {
  so_far = gone_on _ _ _ _ _ _ _ _ bytes _ _ _ before.so_far
      (ap (λ b. b ++ numbered text (i + 1) (drop (i + 1) xs)) is ∙ next_text text xs i d below)
      one.faults one.passed;
}

-- one wasn't handed on whole
pub through_cut : {S T E U F X : Type 0} {faults_of : S → ℕ} {told : S → Option (List ℕ)} {old mid new : S} {w w' w'' bytes : List ℕ}
    {text : ℕ → X → List ℕ} {xs : List X} {i : ℕ} {fault : E} {result : Result U F} (d : X) → Through faults_of told old mid w w' text xs i
    → i < length xs → bytes ≡ text i (get_or xs i d) → Passes {S = S} {T = T} {E = E} faults_of told mid new w' w'' bytes (Err fault)
    → IsErr result → Passes faults_of told old new w w'' (numbered text 0 xs) result
through_cut {bytes = bytes} {text = text} {xs = xs} {i = i} {fault = fault} {result = result} d before below is one failed =
    broken _ _ _ _ _ _ _ _ bytes _ (numbered text (i + 1) (drop (i + 1) xs)) _ (Err fault) result before.so_far
    (ap (λ b. b ++ numbered text (i + 1) (drop (i + 1) xs)) is ∙ next_text text xs i d below) refl failed one

-- all were handed on
pub through_all : {S U F X : Type 0} {faults_of : S → ℕ} {told : S → Option (List ℕ)} {old now : S} {w w' : List ℕ} {text : ℕ → X → List ℕ}
    {xs : List X} {i : ℕ} {x : U} → Through faults_of told old now w w' text xs i → length xs ≤ i
    → Passes {S = S} {T = U} {E = F} faults_of told old now w w' (numbered text 0 xs) (Ok x)
through_all {faults_of = faults_of} {told = told} {old = old} {now = now} {w = w} {w' = w'} {text = text} {xs = xs} {i = i} through end =
    all_passed (subst (λ l. SoFar faults_of told old now w w' (numbered text i l) (numbered text 0 xs)) (drop_all i xs end) through.so_far)

-- the texts of what elements are seen as
pub numbered_map : {X Y : Type 0} (text : ℕ → Y → List ℕ) (f : X → Y) (k : ℕ) (xs : List X)
    → numbered (λ n x. text n (f x)) k xs ≡ numbered text k (map f xs)
numbered_map text f k [] = refl
numbered_map text f k (x ∷ xs) = ap (λ rest. text k (f x) ++ rest) (numbered_map text f (k + 1) xs)
