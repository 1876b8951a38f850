-- Digits never make a number smaller.
use Rattle.std.proofs.Common.{◌≡◌, ℕ, suc, ◌+◌, ◌-◌, ◌*◌, ◌<◌, ◌≤◌, List, [], ◌∷◌, length, drop, get_or, sym, ◌∙◌, ap, arith, drop-cons}
use Rattle.evp_expr.specs.Lexing.{decimal_from}

decimal_from-ge : (n : ℕ) (digits : List ℕ) → n ≤ decimal_from n digits
decimal_from-ge n [] = omega arith
decimal_from-ge n (digit ∷ digits) =
    let h = decimal_from-ge (10 * n + (digit - 48)) digits in omega (arith, h)

-- where a digit passes the largest number, all digits do
pub too_large : (digits : List ℕ) (i v bound : ℕ) → i < length digits → decimal_from v (drop i digits) ≡ decimal_from 0 digits
    → ¬ (10 * v + (get_or digits i 0 - 48) < bound) → ¬ (decimal_from 0 digits < bound)
too_large digits i v bound within same above below =
    let e = ap (λ x. decimal_from v x) (drop-cons digits i 0 within) in
    let h = decimal_from-ge (10 * v + (get_or digits i 0 - 48)) (drop (suc i) digits) in
    let s : decimal_from (10 * v + (get_or digits i 0 - 48)) (drop (suc i) digits) ≡ decimal_from 0 digits = sym e ∙ same in
    above (omega (arith, h, s))
