-- Records side by side, each made by one gather.
use Rattle.std.proofs.Common.{◌≡◌, ℕ, ◌+◌, ◌*◌, ◌<◌, ◌≤◌, List, ap, ◌∙◌, arith}
use Rattle.evp_plan.specs.declared.cell.Cell.{Cell}
use Rattle.evp_plan.specs.Cells.{painted_at}
use Rattle.evp_plan.proofs.Each.{each_left, one_more}

-- record k is made where that is left from k on
pub gather_more : (from : List ℕ) (at stride t width n k to : ℕ) (cells : List Cell) (out out' : List ℕ) → k < n
    → out' ≡ painted_at from (at + k * stride) (t + k * width + to) cells out
    → each_left from at stride (t + to) width n cells (k + 1) out' ≡ each_left from at stride (t + to) width n cells k out
gather_more from at stride t width n k to cells out out' below made =
    let place : t + k * width + to ≡ t + to + k * width = omega arith in
    ap (each_left from at stride (t + to) width n cells (k + 1))
    (made ∙ ap (λ (p : ℕ). painted_at from (at + k * stride) p cells out) place)
    ∙ one_more from at stride (t + to) width n cells k out below

-- four records are made where those are left from k on
pub four_more : (from : List ℕ) (at stride t width n k to : ℕ) (cells : List Cell) (out one two three four : List ℕ) → k + 4 ≤ n
    → one ≡ painted_at from (at + k * stride) (t + k * width + to) cells out
    → two ≡ painted_at from (at + (k + 1) * stride) (t + (k + 1) * width + to) cells one
    → three ≡ painted_at from (at + (k + 2) * stride) (t + (k + 2) * width + to) cells two
    → four ≡ painted_at from (at + (k + 3) * stride) (t + (k + 3) * width + to) cells three
    → each_left from at stride (t + to) width n cells (k + 4) four ≡ each_left from at stride (t + to) width n cells k out
four_more from at stride t width n k to cells out one two three four below made made' made'' made''' =
    let left = each_left from at stride (t + to) width n cells in
    let to_two : k + 2 ≡ k + 1 + 1 = omega arith in
    let to_three : k + 3 ≡ k + 2 + 1 = omega arith in
    let to_four : k + 4 ≡ k + 3 + 1 = omega arith in
    ap (λ (i : ℕ). left i four) to_four ∙ gather_more from at stride t width n (k + 3) to cells three four (omega (arith, below)) made'''
    ∙ ap (λ (i : ℕ). left i three) to_three ∙ gather_more from at stride t width n (k + 2) to cells two three (omega (arith, below)) made''
    ∙ ap (λ (i : ℕ). left i two) to_two ∙ gather_more from at stride t width n (k + 1) to cells one two (omega (arith, below)) made'
    ∙ gather_more from at stride t width n k to cells out one (omega (arith, below)) made
