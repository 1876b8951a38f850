-- What the fills of a number tell.
use Rattle.std.proofs.Common.{◌≡◌, ℕ, ◌+◌, ◌-◌, ◌<◌, ◌≤◌, List, [], ◌∷◌, ◌++◌, length, get_or, take, Option, Some, None, IfSome}
use Rattle.std.proofs.Common.{sym, ap, ◌∙◌, subst, arith}
use Rattle.std.specs.List.{All}
use Rattle.std.proofs.lemmas.List.{take_more, take_all}
use Rattle.std.proofs.lemmas.List.Elements.{All-push}
use Rattle.evp_base.specs.declared.order.Order.{Order}
use Rattle.evp_plan.specs.declared.fill.Cut.{Cut}
use Rattle.evp_plan.specs.declared.fill.Fill.{Fill}
use Rattle.evp_plan.specs.declared.fill.Filling.{Filling}
use Rattle.evp_plan.specs.declared.fill.Filling.TheVariants.{Zeros, Positive, Signed}
use Rattle.evp_plan.specs.declared.quick.Quick.{Quick}
use Rattle.evp_plan.specs.declared.words.Words.{Words}
use Rattle.evp_plan.specs.Cuts.{place_of, AreWide, IsCutOf, AddsAbove, AddsPositive, AddsFillsOf, AddsTestOf}
use Rattle.evp_plan.specs.Fills.{AreFillsOf}
use Rattle.evp_plan.specs.Quicks.{IsInside, IsThere}
use Rattle.evp_plan.proofs.CutWords.{filled_zeros, filled_positive, filled_signed}
use Rattle.evp_plan.proofs.FillLists.{All-front, All-last}

wide_of : (words : Words) (cut : Cut) (filling : Filling) → IsCutOf words cut → cut.filling ≡ filling
    → AreWide filling cut.size words.size words.top words.under
wide_of words cut filling is same =
    subst (λ (f : Filling). AreWide f cut.size words.size words.top words.under) same is.wide

pub zeros_added : (order : Order) (words : Words) (cut : Cut) (old new : List Fill) → IsCutOf words cut → cut.filling ≡ Zeros
    → AddsAbove order words cut.size None old new → AddsFillsOf order words old new
zeros_added order words cut old new is same added at bytes are filled =
    let all = added at bytes filled in
    (all.0, λ inside. filled_zeros order words cut.size at bytes are inside is.less (wide_of words cut Zeros is same) all.1)

pub positive_added : (order : Order) (words : Words) (cut : Cut) (below : ℕ) (old new : List Fill) → IsCutOf words cut
    → cut.filling ≡ Positive → below ≡ place_of order words.offset words.size (cut.size - 1)
    → AddsPositive order words cut.size below old new → AddsFillsOf order words old new
positive_added order words cut below old new is same place added at bytes are filled =
    let all = added at bytes filled in (
      all.0,
      λ inside.
          filled_positive order words cut.size below at bytes are inside is.allowed is.less place (wide_of words cut Positive is same)
          all.1.0 all.1.1,
    )

pub signed_added : (order : Order) (words : Words) (cut : Cut) (below : ℕ) (old new : List Fill) → IsCutOf words cut
    → cut.filling ≡ Signed → below ≡ place_of order words.offset words.size (cut.size - 1)
    → AddsAbove order words cut.size (Some below) old new → AddsFillsOf order words old new
signed_added order words cut below old new is same place added at bytes are filled =
    let all = added at bytes filled in
    let wide = wide_of words cut Signed is same in (
      all.0,
      λ inside. filled_signed order words cut.size below at bytes are inside is.allowed is.less place wide.0 wide.1 all.1,
    )

-- ---- tests

pub none_told : (order : Order) (test : Quick) (fills : List Fill) → test.words ≡ None → AddsTestOf order test fills fills
none_told order test fills same at bytes are filled =
    let Told : Option Words → Type 0 = λ words. IfSome words (IsInside at bytes) → IfSome words (IsThere at order bytes) in
    (filled, subst Told (sym same) (λ _. tt))

pub some_told : (order : Order) (test : Quick) (words : Words) (old new : List Fill) → test.words ≡ Some words
    → AddsFillsOf order words old new → AddsTestOf order test old new
some_told order test words old new same added at bytes are filled =
    let all = added at bytes are filled in
    let Told : Option Words → Type 0 = λ words. IfSome words (IsInside at bytes) → IfSome words (IsThere at order bytes) in
    (all.0, subst Told (sym same) all.1)

pub no_tests : (order : Order) (tests : List Quick) (fills : List Fill) → AreFillsOf order (take 0 tests) fills
no_tests order tests fills at bytes are inside filled = λ k d below. absurd (omega (arith, below))

pub tests_more : (order : Order) (tests : List Quick) (k : ℕ) (test : Quick) (old new : List Fill)
    → AreFillsOf order (take k tests) old → k < length tests → test ≡ get_or tests k test → AddsTestOf order test old new
    → AreFillsOf order (take (k + 1) tests) new
tests_more order tests k test old new so_far below own added at bytes are inside filled =
    let Inside : Quick → Type 0 = λ t. IfSome t.words (IsInside at bytes) in
    let There : Quick → Type 0 = λ t. IfSome t.words (IsThere at order bytes) in
    let more : take (k + 1) tests ≡ take k tests ++ test ∷ [] =
    take_more tests k test below ∙ ap (λ (t : Quick). take k tests ++ t ∷ []) (sym own) in
    let all = subst (λ (ts : List Quick). All Inside ts) more inside in
    let told = added at bytes are filled in
    subst (λ (ts : List Quick). All There ts) (sym more)
    (All-push There (take k tests) test (so_far at bytes are (All-front Inside (take k tests) test all) told.0)
    (told.1 (All-last Inside (take k tests) test all)))

pub tests_all : (order : Order) (tests : List Quick) (k : ℕ) (fills : List Fill) → AreFillsOf order (take k tests) fills
    → length tests ≤ k → AreFillsOf order tests fills
tests_all order tests k fills so_far past = subst (λ (ts : List Quick). AreFillsOf order ts fills) (take_all k tests past) so_far
