-- The least multiple that is a number or more.
use Rattle.std.proofs.Common.{◌≡◌, ℕ, zero, suc, ◌+◌, ◌-◌, ◌*◌, ◌/◌, ◌%◌, ◌<◌, ◌≤◌, refl, ap, ◌∙◌, arith}
use Rattle.std.specs.Int.{next_multiple_of}
use Rattle.std.proofs.lemmas.Nat.{div-add-mod'}
use Rattle.std.proofs.Math.Nat.{mod-eq_of_lt, mod_self, mod-lt, mul-le-mul_right, lt_of_mul-lt-mul_right}
use Rattle.evp_profile.specs.CLayout.{IsLeastMultiple}

-- behind a quotient with a rest, the least multiple is the next one
next_is_least : (n step quotient rest k : ℕ) → quotient * step + rest ≡ n → 0 < rest → n ≤ k * step → suc quotient * step ≤ k * step
next_is_least n step quotient rest k is some from =
    let below : quotient * step < k * step = omega (arith, is, some, from) in
    let before = lt_of_mul-lt-mul_right step {m = quotient} {n = k} below in
    mul-le-mul_right {m = suc quotient} {n = k} step (omega (arith, before))

from_rest : (step n rest : ℕ) → 0 < step → n % step ≡ rest → IsLeastMultiple step n (n + (step - rest) % step)
from_rest step n zero positive is =
    let whole = div-add-mod' n step in
    let all : step - 0 ≡ step = omega arith in
    let none : (step - 0) % step ≡ 0 = ap (λ (k : ℕ). k % step) all ∙ mod_self step in
    let same : n + (step - 0) % step ≡ n / step * step = omega (arith, whole, is, none) in
    record {
      times = n / step;
      is_multiple = same;
      from = omega (arith, none);
      least = λ k from. omega (arith, none, from);
    }
from_rest step n (suc rest) positive is =
    let whole = div-add-mod' n step in
    let few = mod-lt n {m = step} positive in
    let gap : (step - suc rest) % step ≡ step - suc rest = mod-eq_of_lt {n = step - suc rest} {m = step} (omega (arith, positive)) in
    let next : suc (n / step) * step ≡ n / step * step + step = omega arith in
    let same : n + (step - suc rest) % step ≡ suc (n / step) * step = omega (arith, whole, is, gap, few, next) in
    record {
      times = suc (n / step);
      is_multiple = same;
      from = omega (arith, gap);
      least = λ k from. let least = next_is_least n step (n / step) (suc rest) k (omega (arith, whole, is)) (omega arith) from in
          omega (arith, same, least);
    }

pub next_multiple_is_least : (step n : ℕ) → 0 < step → IsLeastMultiple step n (next_multiple_of n step)
next_multiple_is_least step n positive = from_rest step n (n % step) positive refl

-- 0 is a multiple
pub first_multiple : (step : ℕ) → 0 < step → next_multiple_of 0 step ≡ 0
first_multiple step positive =
    let least = next_multiple_is_least step 0 positive in
    let none = least.least 0 (omega arith) in
    omega (arith, none)
