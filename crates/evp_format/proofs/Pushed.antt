-- A list with one more element at its end, and tests of lists.
use Rattle.std.proofs.Common.{◌≡◌, ℕ, zero, suc, ◌<◌, Bool, true, false, ◌||◌, ◌⊎◌, inl, inr, List, [], ◌∷◌, ◌++◌, length, Some, refl, sym}
use Rattle.std.proofs.Common.{ap, subst, ◌∙◌, arith}
use Rattle.std.specs.Prelude.{slice_get, nat_eq}
use Rattle.std.specs.List.{list_any}
use Rattle.std.proofs.lemmas.Bool.{and_parts, eqb-true, eq-eqb}
use Rattle.evp_format.specs.Bytes.{bytes_equal}

pub slice_get-push : {A : Type 0} (xs : List A) (x : A) (k : ℕ) (y : A) → slice_get (xs ++ x ∷ []) k ≡ Some y
    → ((k < length xs) × (slice_get xs k ≡ Some y)) ⊎ ((k ≡ length xs) × (x ≡ y))
slice_get-push [] x zero y found = inr (refl, cc)
slice_get-push [] x (suc k) y found = absurd (cc)
slice_get-push (z ∷ xs) x zero y found = inl (omega arith, found)
slice_get-push (z ∷ xs) x (suc k) y found = elim (slice_get-push xs x k y found) [
  | inl old ↦ let below = old.0 in inl (omega (arith, below), old.1)
  | inr new ↦ let last = new.0 in inr (omega (arith, last), new.1)
]

pub slice_get-some : {A : Type 0} (xs : List A) (k : ℕ) → k < length xs → (x : A) × (slice_get xs k ≡ Some x)
slice_get-some [] k below = absurd (omega arith)
slice_get-some (x ∷ xs) zero below = (x, refl)
slice_get-some (x ∷ xs) (suc k) below = slice_get-some xs k (omega arith)

-- an element of the front is one of the whole
pub slice_get-front : {A : Type 0} (xs ys : List A) (k : ℕ) (x : A) → slice_get xs k ≡ Some x → slice_get (xs ++ ys) k ≡ Some x
slice_get-front [] ys k x found = absurd (cc)
slice_get-front (z ∷ xs) ys zero x found = found
slice_get-front (z ∷ xs) ys (suc k) x found = slice_get-front xs ys k x found

-- what holds of each element holds of each of the longer list
pub each-push : {A : Type 0} (P : ℕ → A → Type 0) (xs : List A) (x : A) → ((k : ℕ) (y : A) → slice_get xs k ≡ Some y → P k y)
    → P (length xs) x
    → (k : ℕ) (y : A) → slice_get (xs ++ x ∷ []) k ≡ Some y → P k y
each-push {A} P xs x old new k y found = elim (slice_get-push xs x k y found) [
  | inl there ↦ old k y there.1
  | inr here ↦ subst (λ (n : ℕ). P n y) (sym here.0) (subst (λ (z : A). P (length xs) z) here.1 new)
]

-- ---- bytes

pub bytes_equal-true : (a b : List ℕ) → bytes_equal a b ≡ true → a ≡ b
bytes_equal-true [] [] same = refl
bytes_equal-true [] (y ∷ b) same = absurd (cc)
bytes_equal-true (x ∷ a) [] same = absurd (cc)
bytes_equal-true (x ∷ a) (y ∷ b) same =
    let parts = and_parts (nat_eq x y) (bytes_equal a b) same in
    let first = eqb-true x y parts.0 in
    let rest = bytes_equal-true a b parts.1 in
    cc

pub bytes_equal-same : (a : List ℕ) → bytes_equal a a ≡ true
bytes_equal-same [] = refl
bytes_equal-same (x ∷ a) = rw (eq-eqb x x refl) (bytes_equal-same a)

-- ---- tests

pub or_parts : (a b : Bool) → (a || b) ≡ false → (a ≡ false) × (b ≡ false)
or_parts true b neither = absurd (cc)
or_parts false b neither = (refl, neither)

pub list_any-none : {A : Type 0} (p : A → Bool) (xs : List A) (k : ℕ) (x : A) → list_any p xs ≡ false → slice_get xs k ≡ Some x → p x
    ≡ false
list_any-none p [] k x none found = absurd (cc)
list_any-none p (y ∷ xs) zero x none found = let same : y ≡ x = cc in ap p (sym same) ∙ (or_parts (p y) (list_any p xs) none).0
list_any-none p (y ∷ xs) (suc k) x none found = list_any-none p xs k x (or_parts (p y) (list_any p xs) none).1 found
