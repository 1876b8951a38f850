-- The first zero byte by its index, and the text before it.
use Rattle.std.proofs.Common.{◌≡◌, ℕ, zero, suc, ◌<◌, Bool, true, false, nat_eq, List, [], ◌∷◌, length, Option, Some, None, refl, sym, ap}
use Rattle.std.proofs.Common.{arith}
use Rattle.std.specs.Prelude.{option_map, IfSome, if◌then◌else◌}
use Rattle.memchr.specs.Find.{IsFirstByte, is_byte, Nowhere, Passes}
use Rattle.evp_format.specs.Viewing.{until_zero}

-- no byte is zero
none_zero : (bytes : List ℕ) → Nowhere (Passes (is_byte 0) bytes) 0 (length bytes) → until_zero bytes ≡ None
none_zero [] nowhere = refl
none_zero (byte ∷ bytes) nowhere =
    by_test (nat_eq byte 0) (λ is. nowhere 0 (omega arith) (omega arith) is)
    (none_zero bytes (λ k low high is. nowhere (suc k) (omega arith) (omega (arith, high)) is))
  where
    by_test : (is_zero : Bool) → ¬ (is_zero ≡ true) → until_zero bytes ≡ None
        → (if is_zero then Some [] else option_map (λ rest. byte ∷ rest) (until_zero bytes)) ≡ None
    by_test true not_zero later = absurd (not_zero refl)
    by_test false not_zero later = ap (option_map (λ (rest : List ℕ). byte ∷ rest)) later

-- byte k is the first zero
pub first_zero : (bytes : List ℕ) (k : ℕ) → k < length bytes → Nowhere (Passes (is_byte 0) bytes) 0 k → Passes (is_byte 0) bytes k
    → option_map length (until_zero bytes) ≡ Some k
first_zero [] k below nowhere here = absurd (omega (arith, below))
first_zero (byte ∷ bytes) zero below nowhere here =
    ap (λ (is_zero : Bool). option_map length (if is_zero then Some [] else option_map (λ rest. byte ∷ rest) (until_zero bytes))) here
first_zero (byte ∷ bytes) (suc k) below nowhere here =
    by_test (nat_eq byte 0) (λ is. nowhere 0 (omega arith) (omega arith) is)
    (first_zero bytes k (omega (arith, below)) (λ i low high is. nowhere (suc i) (omega arith) (omega (arith, high)) is) here)
  where
    longer : (found : Option (List ℕ)) → option_map length found ≡ Some k
        → option_map length (option_map (λ rest. byte ∷ rest) found) ≡ Some (suc k)
    longer None is = cc
    longer (Some rest) is = let same : length rest ≡ k = cc in ap (λ (n : ℕ). Some (suc n)) same

    by_test : (is_zero : Bool) → ¬ (is_zero ≡ true) → option_map length (until_zero bytes) ≡ Some k
        → option_map length (if is_zero then Some [] else option_map (λ rest. byte ∷ rest) (until_zero bytes)) ≡ Some (suc k)
    by_test true not_zero later = absurd (not_zero refl)
    by_test false not_zero later = longer (until_zero bytes) later

-- the first zero byte ends the text
pub zero_found : (bytes : List ℕ) (found : Option ℕ) → IsFirstByte (is_byte 0) bytes found → found ≡ option_map length (until_zero bytes)
zero_found bytes None nowhere = sym (ap (option_map length) (none_zero bytes nowhere))
zero_found bytes (Some k) is = sym (first_zero bytes k is.0.high is.0.before is.1)

pub zero_within : (bytes : List ℕ) (found : Option ℕ) → IsFirstByte (is_byte 0) bytes found → IfSome found (λ n. n < length bytes)
zero_within bytes None nowhere = tt
zero_within bytes (Some k) is = is.0.high

pub ruleset zeros = (zero_found, zero_within)
