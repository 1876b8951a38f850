-- Numbers in two's complement that aren't below 0.
use Rattle.std.proofs.Common.{◌≡◌, ℕ, ◌-◌, ◌*◌, ◌^◌, ◌<◌, ◌≤◌, pos, negsuc, ◌-ℤ◌, Some, None, refl, arith}
use Rattle.std.proofs.lemmas.Bool.{lt-ltb, le-ltb}
use Rattle.std.proofs.lemmas.Int.{ints}
use Rattle.evp_base.specs.Numbers.{twos_complement}
use Rattle.evp_wide.specs.Counts.{natural}

pub count_clear : (size word h : ℕ) → 2 * h ≡ 2 ^ (8 * size) → word < h → Some word ≡ natural (twos_complement size word)
count_clear size word h half low = rw (lt-ltb (2 * word) (2 ^ (8 * size)) (omega (arith, half, low))) refl

pub count_set : (size word h : ℕ) → 2 * h ≡ 2 ^ (8 * size) → h ≤ word → word < 2 ^ (8 * size) → None ≡ natural (twos_complement size word)
count_set size word h half high below =
    let m = 2 ^ (8 * size) in
    let k = m - 1 - word in
    let number : (pos word -ℤ pos m) ≡ negsuc k = omega (arith, ints, below) in
    rw (le-ltb (2 * word) m (omega (arith, half, high)), number) refl

pub ruleset naturals = (count_clear, count_set)
