-- Painting records side by side, one after another.
use Rattle.std.proofs.Common.{◌≡◌, ℕ, zero, suc, ◌+◌, ◌-◌, ◌*◌, ◌<◌, ◌≤◌, List, sym, ap, ◌∙◌, add-mul, arith}
use Rattle.evp_plan.specs.declared.cell.Cell.{Cell}
use Rattle.evp_plan.specs.Cells.{painted_at, painted_each}

-- what is left to be painted from record k on
abbrev pub each_left : List ℕ → ℕ → ℕ → ℕ → ℕ → ℕ → List Cell → ℕ → List ℕ → List ℕ
each_left from at stride t width n cells k out = painted_each from (at + k * stride) stride (t + k * width) width (n - k) cells out

pub none_yet : (from : List ℕ) (at stride t width n : ℕ) (cells : List Cell) (out : List ℕ)
    → each_left from at stride t width n cells 0 out ≡ painted_each from at stride t width n cells out
none_yet from at stride t width n cells out =
    let first : at + 0 * stride ≡ at = omega arith in
    let to : t + 0 * width ≡ t = omega arith in
    let all : n - 0 ≡ n = omega arith in
    ap (λ (a : ℕ). painted_each from a stride (t + 0 * width) width (n - 0) cells out) first
    ∙ ap (λ (b : ℕ). painted_each from at stride b width (n - 0) cells out) to
    ∙ ap (λ (m : ℕ). painted_each from at stride t width m cells out) all

pub one_more : (from : List ℕ) (at stride t width n : ℕ) (cells : List Cell) (k : ℕ) (out : List ℕ) → k < n
    → each_left from at stride t width n cells (k + 1) (painted_at from (at + k * stride) (t + k * width) cells out)
    ≡ each_left from at stride t width n cells k out
one_more from at stride t width n cells k out below =
    let more : n - k ≡ suc (n - (k + 1)) = omega (arith, below) in
    let strides = add-mul k 1 stride in
    let widths = add-mul k 1 width in
    let next : at + (k + 1) * stride ≡ at + k * stride + stride = omega (arith, strides) in
    let next' : t + (k + 1) * width ≡ t + k * width + width = omega (arith, widths) in
    let painted = painted_at from (at + k * stride) (t + k * width) cells out in
    ap (λ (a : ℕ). painted_each from a stride (t + (k + 1) * width) width (n - (k + 1)) cells painted) next
    ∙ ap (λ (b : ℕ). painted_each from (at + k * stride + stride) stride b width (n - (k + 1)) cells painted) next'
    ∙ sym (ap (λ (m : ℕ). painted_each from (at + k * stride) stride (t + k * width) width m cells out) more)

pub no_more : (from : List ℕ) (at stride t width n : ℕ) (cells : List Cell) (k : ℕ) (out : List ℕ) → n ≤ k
    → each_left from at stride t width n cells k out ≡ out
no_more from at stride t width n cells k out past =
    let none : n - k ≡ 0 = omega (arith, past) in
    ap (λ (m : ℕ). painted_each from (at + k * stride) stride (t + k * width) width m cells out) none

-- what is left after the first of them
pub rest_of_all : (from : List ℕ) (at stride t width m n : ℕ) (cells : List Cell) (out : List ℕ) → m ≤ n
    → each_left from at stride t width n cells m (painted_each from at stride t width m cells out)
    ≡ painted_each from at stride t width n cells out
rest_of_all from at stride t width zero n cells out fits = none_yet from at stride t width n cells out
rest_of_all from at stride t width (suc m) zero cells out fits = absurd (omega (arith, fits))
rest_of_all from at stride t width (suc m) (suc n) cells out fits =
    let strides = add-mul m 1 stride in
    let widths = add-mul m 1 width in
    let one : suc m ≡ m + 1 = omega arith in
    let next : at + suc m * stride ≡ at + stride + m * stride = ap (λ (k : ℕ). at + k * stride) one ∙ omega (arith, strides) in
    let next' : t + suc m * width ≡ t + width + m * width = ap (λ (k : ℕ). t + k * width) one ∙ omega (arith, widths) in
    let made = painted_each from (at + stride) stride (t + width) width m cells (painted_at from at t cells out) in
    let left : suc n - suc m ≡ n - m = omega arith in
    ap (λ (a : ℕ). painted_each from a stride (t + suc m * width) width (suc n - suc m) cells made) next
    ∙ ap (λ (b : ℕ). painted_each from (at + stride + m * stride) stride b width (suc n - suc m) cells made) next'
    ∙ ap (λ (k : ℕ). painted_each from (at + stride + m * stride) stride (t + width + m * width) width k cells made) left
    ∙ rest_of_all from (at + stride) stride (t + width) width m n cells (painted_at from at t cells out) (omega (arith, fits))
