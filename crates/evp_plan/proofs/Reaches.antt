-- Where the words of tests end.
use Rattle.std.proofs.Common.{◌≡◌, ℕ, ◌+◌, ◌<◌, ◌≤◌, List, [], ◌∷◌, ◌++◌, length, get_or, take, max, IfSome, inl, inr, sym, ap, ◌∙◌, subst, arith}
use Rattle.std.specs.List.{All}
use Rattle.std.proofs.lemmas.Bool.{cases_lt}
use Rattle.std.proofs.lemmas.List.{take_more, take_all}
use Rattle.evp_plan.specs.declared.quick.Quick.{Quick}
use Rattle.evp_plan.specs.Lanes.{IsEndOf, IsReachOf}
use Rattle.evp_plan.specs.Quicks.{IsInside}
use Rattle.evp_plan.proofs.FillLists.{All-front, All-last}

pub reach_more : (tests : List Quick) (k : ℕ) (test : Quick) (before end now : ℕ) → IsReachOf (take k tests) before → k < length tests
    → test ≡ get_or tests k test → IsEndOf test end → now ≡ max end before → IsReachOf (take (k + 1) tests) now
reach_more tests k test before end now so_far below own ends is at bytes inside some =
    let Inside : Quick → Type 0 = λ t. IfSome t.words (IsInside at bytes) in
    let more : take (k + 1) tests ≡ take k tests ++ test ∷ [] =
    take_more tests k test below ∙ ap (λ (t : Quick). take k tests ++ t ∷ []) (sym own) in
    let all = subst (λ (ts : List Quick). All Inside ts) more inside in
    let first = so_far at bytes (All-front Inside (take k tests) test all) in
    let last = ends at bytes (All-last Inside (take k tests) test all) in
    elim (cases_lt before end) [
      | inl less ↦ let reached = last (omega (arith, less)) in omega (arith, reached, is, less)
      | inr past ↦ let reached = first (omega (arith, is, some, past)) in omega (arith, reached, is, past)
    ]

pub reach_all : (tests : List Quick) (k reach : ℕ) → IsReachOf (take k tests) reach → length tests ≤ k → IsReachOf tests reach
reach_all tests k reach so_far past = subst (λ (ts : List Quick). IsReachOf ts reach) (take_all k tests past) so_far
