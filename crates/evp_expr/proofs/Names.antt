-- A word that begins as a name may and isn't too long is a name.
use Rattle.std.proofs.Common.{◌≡◌, ℕ, suc, ◌≤◌, Bool, true, false, nat_le, List, [], ◌∷◌, length, take, IsTrue, refl, sym, subst, arith}
use Rattle.std.proofs.lemmas.Bool.{leb-true}
use Rattle.std.proofs.lemmas.Bool.Decides.{nat_tests}
use Rattle.std.proofs.lemmas.List.Folds.{length-prefix_len}
use Rattle.std.specs.List.{list_all, prefix_len}
use Rattle.evp_base.specs.Name.{is_name, begins_name, continues_name}
use Rattle.evp_expr.specs.Lexing.{Missing, word}
use Rattle.evp_expr.specs.Scanning.{BeginsName}

-- one more that passes
pub prefix_more : (p : ℕ → Bool) (x : ℕ) (xs : List ℕ) → p x ≡ true → prefix_len p (x ∷ xs) ≡ suc (prefix_len p xs)
prefix_more p x xs h = rw h (omega arith)

-- all that stand before the first that doesn't pass do
pub list_all-prefix : (p : ℕ → Bool) (xs : List ℕ) → list_all p (take (prefix_len p xs) xs) ≡ true
list_all-prefix p [] = refl
list_all-prefix p (x ∷ xs) =
    let go : (b : Bool) → p x ≡ b → list_all p (take (prefix_len p (x ∷ xs)) (x ∷ xs)) ≡ true =
    λ b. elim b as (λ v. p x ≡ v → list_all p (take (prefix_len p (x ∷ xs)) (x ∷ xs)) ≡ true) [
      | true ↦ λ h. rw (prefix_more p x xs h, h) (list_all-prefix p xs)
      | false ↦ λ h. rw h refl
    ] in
    go (p x) refl

pub word_is_name : (first : ℕ) (others : List ℕ) → begins_name first ≡ true → prefix_len continues_name (first ∷ others) ≤ 64
    → IsTrue (is_name (take (prefix_len continues_name (first ∷ others)) (first ∷ others)))
word_is_name first others begins short =
    let m = prefix_len continues_name others in
    let goes_on : continues_name first ≡ true = rw begins refl in
    let one : prefix_len continues_name (first ∷ others) ≡ suc m = prefix_more continues_name first others goes_on in
    let long : length (take m others) ≡ m = length-prefix_len continues_name others in
    let test : nat_le (length (take m others)) 63 ≡ true = grind (arith, nat_tests) in
    subst (λ k. IsTrue (is_name (take k (first ∷ others)))) (sym one) (rw (begins, list_all-prefix continues_name others, test) refl)

-- what isn't a name is too long
pub word_missing : (bytes : List ℕ) → BeginsName bytes → ¬ IsTrue (is_name (take (prefix_len continues_name bytes) bytes))
    → word (prefix_len continues_name bytes) bytes ≡ Missing
word_missing [] begins none = absurd begins
word_missing (first ∷ others) begins none =
    let n = prefix_len continues_name (first ∷ others) in
    let go : (b : Bool) → nat_le n 64 ≡ b → word n (first ∷ others) ≡ Missing =
    λ b. elim b as (λ v. nat_le n 64 ≡ v → word n (first ∷ others) ≡ Missing) [
      | true ↦ λ h. absurd (none (word_is_name first others begins (leb-true n 64 h)))
      | false ↦ λ h. rw (word, h) refl
    ] in
    go (nat_le n 64) refl
