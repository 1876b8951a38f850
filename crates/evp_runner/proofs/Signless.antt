-- Numbers in two's complement as counts.
use Rattle.std.proofs.Common.{◌≡◌, ℕ, ◌-◌, ◌*◌, ◌^◌, ◌<◌, ◌≤◌, pos, negsuc, ◌-ℤ◌, refl, arith}
use Rattle.std.proofs.lemmas.Bool.{lt-ltb, le-ltb}
use Rattle.std.proofs.lemmas.Int.{ints}
use Rattle.evp_base.specs.Numbers.{twos_complement}
use Rattle.evp_format.specs.Zero.{as_count}

pub count-clear : (size word h : ℕ) → 2 * h ≡ 2 ^ (8 * size) → word < h → word ≡ as_count (twos_complement size word)
count-clear size word h half low = rw (lt-ltb (2 * word) (2 ^ (8 * size)) (omega (arith, half, low))) refl

pub count-set : (size word h : ℕ) → 2 * h ≡ 2 ^ (8 * size) → h ≤ word → word < 2 ^ (8 * size) → 0 ≡ as_count (twos_complement size word)
count-set size word h half high below =
    let m = 2 ^ (8 * size) in
    let k = m - 1 - word in
    let number : (pos word -ℤ pos m) ≡ negsuc k = omega (arith, ints, below) in
    rw (le-ltb (2 * word) m (omega (arith, half, high)), number) refl
