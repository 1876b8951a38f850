use Rattle.std.proofs.Common.{ℕ, ◌≡◌, ◌≤◌, ◌<◌, ◌+◌, ◌-◌, ◌%◌, inl, inr, arith}
use Rattle.std.proofs.lemmas.Bool.{cases_lt}
use Rattle.std.proofs.lemmas.Bool.Decides.{nat_tests}
use Rattle.evp_plan.proofs.words.is_among.Goals as goal

-- how far a word is above `top`, and one less
reach : (word top : ℕ) → word < 18446744073709551616 → top < 18446744073709551616 → top < word
    → ((word + (18446744073709551616 - top)) % 18446744073709551616 + 18446744073709551615) % 18446744073709551616 ≡ word - top - 1
reach word top small low above = omega (arith, small, low, above)

-- a word up to `top` is as far as can be
around : (word top : ℕ) → word < 18446744073709551616 → top < 18446744073709551616 → word ≤ top
    → ((word + (18446744073709551616 - top)) % 18446744073709551616 + 18446744073709551615) % 18446744073709551616
    ≡ word + 18446744073709551615 - top
around word top small low up = omega (arith, small, low, up)

pub returns : goal.returns
returns c =
    let word = c.args.word in
    let top = c.args.top in
    let under = c.args.under in
    let apart = c.requires in
    let small : word < 18446744073709551616 = omega (arith, c.ranges.word) in
    let low : top < 18446744073709551616 = omega (arith, c.ranges.top) in
    let high : under < 18446744073709551616 = omega (arith, c.ranges.under) in
    elim (cases_lt top word) [
      | inl above ↦ rw (reach word top small low above) grind (arith, nat_tests, apart, above)
      | inr up ↦ rw (around word top small low up) grind (arith, nat_tests, apart, up, high, small)
    ]
