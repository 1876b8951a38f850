-- Lengths and blocks of lists.
use Rattle.std.proofs.Common.{◌≡◌, int_lt, ℕ, zero, suc, ◌+◌, ◌*◌, ◌<◌, ◌≤◌, ℤ, pos, negsuc, nat_abs, ◌≤ℤ◌, Bool, true, false, not, nat_eq}
use Rattle.std.proofs.Common.{List, [], ◌∷◌, length, get_or, Some, None, Option, if◌then◌else◌, refl, sym, ap, ◌∙◌, arith}
use Rattle.std.proofs.Math.Nat.{mul-le-mul_left}
use Rattle.std.proofs.lemmas.Bool.{eqb-true, lt-ltb, ltb-false, ltb-true, not-false}
use Rattle.std.proofs.lemmas.Int.{ints}
use Rattle.evp_format.specs.declared.value.Value.{Value}
use Rattle.evp_format.specs.Bytes.{next_block}
use Rattle.evp_format.specs.Converting.{has_other_length, number_at}
use Rattle.evp_format.specs.Datum.{Elements, count_of}
use Rattle.evp_format.specs.ValueView.{elements_of_values}
use Rattle.evp_value.specs.Making.{list_end, has_length}

count_above : (n size : ℕ) → 0 < size → n ≤ n * size
count_above n size some = omega (arith, mul-le-mul_left n some)

-- so many elements pass the limit
pub list_end-large : (limit n element_size size : ℕ) → 0 < element_size → limit < n → list_end limit n element_size size ≡ None
list_end-large limit zero element_size size some large = absurd (omega arith)
list_end-large limit (suc n) element_size size some large =
    let above = count_above (suc n) element_size some in
    ap (λ (t : Bool). if t then None else Some (next_block size + suc n * element_size))
    (lt-ltb limit (next_block size + suc n * element_size) (omega (arith, above, large)))

pub count_of-values : (values : List Value) → count_of (elements_of_values values) ≡ length values
count_of-values [] = refl
count_of-values (value ∷ values) = ap suc (count_of-values values)

not_not : (b : Bool) → b ≡ not (not b)
not_not true = refl
not_not false = refl

pub has_length-counted : (count : ℤ) (elements : Elements) → pos 0 ≤ℤ count
    → nat_eq (count_of elements) (nat_abs count) ≡ has_length count (Some elements)
has_length-counted (pos n) elements above = not_not (nat_eq (count_of elements) n)
has_length-counted (negsuc n) elements above = absurd (omega (arith, ints))

pub number_at-within : (numbers : List ℤ) (k : ℕ) (d : ℤ) → k < length numbers → get_or numbers k d ≡ number_at numbers k
number_at-within [] k d below = absurd (omega arith)
number_at-within (n ∷ numbers) zero d below = refl
number_at-within (n ∷ numbers) (suc k) d below = number_at-within numbers k d (omega arith)

pub number_at-past : (numbers : List ℤ) (k : ℕ) → length numbers ≤ k → pos 0 ≡ number_at numbers k
number_at-past [] k past = refl
number_at-past (n ∷ numbers) zero past = absurd (omega arith)
number_at-past (n ∷ numbers) (suc k) past = number_at-past numbers k (omega arith)

-- tests of a count
pub count_over : (count : ℤ) (limit : ℕ) → pos 0 ≤ℤ count → int_lt (pos limit) count ≡ true → limit < nat_abs count
count_over (pos n) limit above over = ltb-true limit n over
count_over (negsuc n) limit above over = absurd (omega (arith, ints))

pub count_within : (count : ℤ) (limit : ℕ) → pos 0 ≤ℤ count → int_lt (pos limit) count ≡ false → nat_abs count ≤ limit
count_within (pos n) limit above within = ltb-false limit n within
count_within (negsuc n) limit above within = absurd (omega (arith, ints))

pub not_below : (count : ℤ) → int_lt count (pos 0) ≡ false → pos 0 ≤ℤ count
not_below (pos n) test = omega (arith, ints)
not_below (negsuc n) test = absurd (cc)

-- a partner of the wanted length
pub length_wanted : (count : ℕ) (partner : Option Elements) (values : List Value) → has_other_length count partner ≡ false
    → Some (elements_of_values values) ≡ partner → length values ≡ count
length_wanted count partner values counted is =
    let here : not (nat_eq (count_of (elements_of_values values)) count) ≡ false = ap (has_other_length count) is ∙ counted in
    sym (count_of-values values) ∙ eqb-true (count_of (elements_of_values values)) count
    (not-false (nat_eq (count_of (elements_of_values values)) count) here)
