-- Numbers of 16 bytes.
use Rattle.std.proofs.Common.{◌≡◌, ℕ, zero, suc, ◌*◌, ◌/◌, ◌%◌, ◌^◌, ◌<◌, ℤ, pos, negsuc, List, [], ◌∷◌, ◌++◌, reverse, refl, sym, ap, ◌∙◌}
use Rattle.std.proofs.Common.{arith}
use Rattle.std.specs.Int.{w128, byte_at, bytes_high_first, cast_unsigned}
use Rattle.std.specs.Prelude.{FitsSigned}
use Rattle.std.proofs.Math.Nat.{div-div-eq-div-mul, pow-succ', mod-eq_of_lt}
use Rattle.std.proofs.lemmas.Int.{ints}
use Rattle.std.proofs.lemmas.List.{reverse-append}
use Rattle.evp_base.specs.declared.order.Order.TheVariants.{Big}
use Rattle.evp_base.specs.Numbers.{low_digits, residue, digits}

byte_at-suc : (k n : ℕ) → byte_at (suc k) n ≡ byte_at k (n / 256)
byte_at-suc zero n = refl
byte_at-suc (suc k) n =
    let split : 256 ^ suc (suc k) ≡ 256 * 256 ^ suc k = pow-succ' 256 (suc k) in
    ap (λ (m : ℕ). n / m % 256) split ∙ ap (λ (m : ℕ). m % 256) (sym (div-div-eq-div-mul n 256 (256 ^ suc k)))

low_digits-push : (k n : ℕ) → low_digits (suc k) n ≡ low_digits k n ++ byte_at k n ∷ []
low_digits-push zero n = refl
low_digits-push (suc k) n =
    ap (λ (rest : List ℕ). n % 256 ∷ rest) (low_digits-push k (n / 256))
    ∙ ap (λ (byte : ℕ). low_digits (suc k) n ++ byte ∷ []) (sym (byte_at-suc k n))

pub bytes_high_first-digits : (k n : ℕ) → bytes_high_first k n ≡ reverse (low_digits k n)
bytes_high_first-digits zero n = refl
bytes_high_first-digits (suc k) n =
    ap (λ (rest : List ℕ). byte_at k n ∷ rest) (bytes_high_first-digits k n)
    ∙ sym (ap reverse (low_digits-push k n) ∙ reverse-append (low_digits k n) (byte_at k n ∷ []))

residue_is : (z : ℤ) → FitsSigned w128 z → cast_unsigned w128 z ≡ residue z (2 ^ 128)
residue_is (pos n) fits = sym (mod-eq_of_lt (omega (arith, ints)))
residue_is (negsuc n) fits = let small : n < 2 ^ 127 = omega (arith, ints) in let same : n % 2 ^ 128
    ≡ n = mod-eq_of_lt (omega arith) in rw same (omega arith)

-- a number of 16 bytes, the highest first
pub sixteen_bytes : (z : ℤ) → FitsSigned w128 z → bytes_high_first 16 (cast_unsigned w128 z) ≡ digits Big 16 z
sixteen_bytes z fits = bytes_high_first-digits 16 (cast_unsigned w128 z) ∙ ap (λ (n : ℕ). reverse (low_digits 16 n)) (residue_is z fits)
