-- The text of a number below 100: one or two bytes, none of which is zero.
use Rattle.std.proofs.Common.{◌≡◌, ℕ, ◌+◌, ◌/◌, ◌%◌, ◌<◌, ◌≤◌, List, [], ◌∷◌, ◌++◌, length, sym, ap}
use Rattle.std.proofs.Common.{subst, ◌∙◌, ◌⊎◌, inl, inr}
use Rattle.std.proofs.Common.{arith}
use Rattle.std.specs.Fmt.{decimal}
use Rattle.std.specs.List.{All}
use Rattle.std.proofs.lemmas.Bool.{cases_lt}
use Rattle.std.proofs.lemmas.Fmt.{decimal_digit, decimal_step}
use Rattle.std.proofs.lemmas.List.Elements.{All-nil, All-cons}
use Rattle.evp_format.specs.Text.{HasNoZero}

pub record IsShortText (bytes : List ℕ) : Type 0 where
  pub no_zero : HasNoZero bytes
  pub are_bytes : All (λ byte. byte < 256) bytes
  pub few : length bytes ≤ 2

one_digit : (n : ℕ) → n < 10 → IsShortText ((48 + n) ∷ [])
one_digit n below = record {
  no_zero = (λ e. omega (arith, e), tt);
  are_bytes = All-cons (λ byte. byte < 256) (48 + n) [] (omega (arith, below))
      (All-nil (λ byte. byte < 256));
  few = omega arith;
}

two_digits : (m n : ℕ) → m < 10 → n < 10 → IsShortText ((48 + m) ∷ (48 + n) ∷ [])
two_digits m n low below = record {
  no_zero = (λ e. omega (arith, e), (λ e. omega (arith, e), tt));
  are_bytes = All-cons (λ byte. byte < 256) (48 + m) ((48 + n) ∷ []) (omega (arith, low))
      (one_digit n below).are_bytes;
  few = omega arith;
}

pub one_figure : (n : ℕ) → n < 10 → decimal n ≡ (48 + n) ∷ []
one_figure n below = decimal_digit n below

pub two_figures : (n : ℕ) → n < 100 → 10 ≤ n → decimal n ≡ (48 + n / 10) ∷ (48 + n % 10) ∷ []
two_figures n small above =
    let high : n / 10 < 10 = omega (arith, small) in
    decimal_step n above (omega (arith, small))
    ∙ ap (λ (front : List ℕ). front ++ (48 + n % 10) ∷ []) (decimal_digit (n / 10) high)

by_size : (n : ℕ) → n < 100 → (n < 10) ⊎ (10 ≤ n) → IsShortText (decimal n)
by_size n small (inl below) = subst IsShortText (sym (one_figure n below)) (one_digit n below)
by_size n small (inr above) =
    let high : n / 10 < 10 = omega (arith, small) in
    let low : n % 10 < 10 = omega arith in
    subst IsShortText (sym (two_figures n small above)) (two_digits (n / 10) (n % 10) high low)

pub short_decimal : (n : ℕ) → n < 100 → IsShortText (decimal n)
short_decimal n small = by_size n small (cases_lt n 10)
