-- Which texts are numbers.
use Rattle.std.proofs.Common.{◌≡◌, ℕ, ◌<◌, ◌≤◌, ◌^◌, ◌&&◌, Bool, true, false, nat_lt, List, Some, None, Result, Ok, Err}
use Rattle.std.proofs.Common.{if◌then◌else◌, decimal, refl, sym, ap, ◌∙◌, subst, arith}
use Rattle.std.proofs.lemmas.Bool.{and_parts, lt-ltb, ltb-true}
use Rattle.std.proofs.lemmas.Fmt.{decimal_is_IsNumeral, parse-decimal, IsAscii-decimal}
use Rattle.std.proofs.lemmas.Slice.Eq.{bytes_eq-Decides}
use Rattle.std.proofs.lemmas.Str.{IsUtf8-from_ascii}
use Rattle.std.specs.Str.{bytes_eq, IsUtf8}
use Rattle.std.specs.Str.Parse.{digits_value, ParsesUnsigned}
use Rattle.evp_stones.specs.DecimalNumber.{number_if, number_in}

-- what the test decides
tested : (bound n : ℕ) (bytes : List ℕ) (test : Bool) → (nat_lt n bound && bytes_eq (decimal n) bytes) ≡ test
    → number_if bound bytes n ≡ (if test then Some n else None)
tested bound n bytes test e = rw e refl

both_true : (a b : Bool) → a ≡ true → b ≡ true → (a && b) ≡ true
both_true a b e h = rw (e, h) refl

-- the text of a number is that number
pub number_there : (bound n : ℕ) (bytes : List ℕ) → n < bound → n < 2 ^ 64 → bytes ≡ decimal n → number_in bound bytes ≡ Some n
number_there bound n bytes small fits is =
    ap (number_if bound bytes) (ap (digits_value 10) is ∙ (decimal_is_IsNumeral n fits).1)
    ∙ tested bound n bytes true (both_true (nat_lt n bound) (bytes_eq (decimal n) bytes) (lt-ltb n bound small)
    ((bytes_eq-Decides (decimal n) bytes).1 (sym is)))

-- other texts are none
pub no_number : (bound : ℕ) (bytes : List ℕ) → ((n : ℕ) → n < bound → bytes ≡ decimal n → ⊥) → number_in bound bytes ≡ None
no_number bound bytes none =
    by (digits_value 10 bytes) (nat_lt (digits_value 10 bytes) bound && bytes_eq (decimal (digits_value 10 bytes)) bytes) refl where
      by : (n : ℕ) (test : Bool) → (nat_lt n bound && bytes_eq (decimal n) bytes) ≡ test → number_if bound bytes n ≡ None
      by n true e =
          let parts = and_parts _ _ e in
          absurd (none n (ltb-true n bound parts.0) (sym ((bytes_eq-Decides (decimal n) bytes).0 parts.1)))
      by n false e = tested bound n bytes false e

-- a text that isn't UTF-8 is none
pub no_text : (bound : ℕ) (bytes : List ℕ) → bound ≤ 2 ^ 32 → (IsUtf8 bytes → ⊥) → number_in bound bytes ≡ None
no_text bound bytes few bad = no_number bound bytes (λ n small is.
    bad (subst IsUtf8 (sym is) (IsUtf8-from_ascii (decimal n) (IsAscii-decimal n (omega (arith, few, small))))))

-- neither is one that can't be read
pub not_read : {E : Type 0} (bound : ℕ) (bytes : List ℕ) (r : Result ℕ E) (e : E) → bound ≤ 2 ^ 32 → r ≡ Err e
    → ParsesUnsigned 32 10 bytes r
    → number_in bound bytes ≡ None
not_read bound bytes r e few fails parses = no_number bound bytes (λ n small is.
    other n (parse-decimal 32 n bytes r (omega (arith, few, small)) (omega (arith, few, small)) is parses)) where
      other : (n : ℕ) → r ≡ Ok n → ⊥
      other n k = cc

-- and what was read is the only number that it may be
pub number_read : {E : Type 0} (bound number : ℕ) (bytes : List ℕ) (r : Result ℕ E) → bound ≤ 2 ^ 32 → r ≡ Ok number
    → ParsesUnsigned 32 10 bytes r → (number < bound → bytes ≡ decimal number → ⊥) → number_in bound bytes ≡ None
number_read bound number bytes r few reads parses bad = no_number bound bytes (λ n small is.
    let same : number ≡ n = inside n (parse-decimal 32 n bytes r (omega (arith, few, small)) (omega (arith, few, small)) is parses) in
    bad (rw same small) (rw same is)) where
      inside : (n : ℕ) → r ≡ Ok n → number ≡ n
      inside n k = cc
