-- What a push leaves, where it succeeded.
use Rattle.std.proofs.Common.{◌≡◌, ℕ, ◌+◌, zero, suc, ◌<◌, false, List, [], ◌∷◌, ◌++◌, length}
use Rattle.std.proofs.Common.{All, get_or, Result, Ok, Err, sym, ap, ◌∙◌, subst, arith}
use Rattle.std.proofs.Common.{if◌then◌else◌}
use Rattle.std.proofs.lemmas.Bool.{false≢true}
use Rattle.std.proofs.lemmas.List.{length-append}
use Rattle.std.proofs.lemmas.List.Elements.{All-append}
use Rattle.std.specs.Result.{is_err, is_ok}

pub pushed : {T E X : Type 0} (result : Result T E) (new more same : List X) → is_err result ≡ false
    → new ≡ (if is_ok result then more else same)
    → new ≡ more
pushed (Ok x) new more same e is = is
pushed (Err x) new more same e is = absurd (false≢true (sym e))

pub length_more : {X : Type 0} (new xs : List X) (x : X) (k : ℕ) → new ≡ xs ++ x ∷ [] → length xs ≡ k → length new ≡ k + 1
length_more new xs x k is count = ap length is ∙ length-append xs (x ∷ []) ∙ ap (λ n. n + 1) count

alone : {X : Type 0} (P : X → Type 0) (x : X) → P x → (k : ℕ) (d : X) → k < 1 → P (get_or (x ∷ []) k d)
alone P x p zero d h = p
alone P x p (suc k) d h = absurd (omega (arith, h))

pub all_more : {X : Type 0} (P : X → Type 0) (new xs : List X) (x : X) → new ≡ xs ++ x ∷ [] → All P xs → P x → All P new
all_more P new xs x is all p = subst (All P) (sym is) (All-append P xs (x ∷ []) all (alone P x p))
