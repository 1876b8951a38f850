-- Windows that are looked at one after another.
use Rattle.std.proofs.Common.{◌≡◌, ℕ, ◌+◌, ◌-◌, ◌<◌, ◌≤◌, List, [], ◌∷◌, length, get_or, take, drop, sym, ap, ◌∙◌, subst, Fits, w8, arith}
use Rattle.std.specs.List.{All}
use Rattle.std.proofs.lemmas.List.{get_or-map, length-map, take_all}
use Rattle.std.proofs.lemmas.List.Elements.{All-cons, All-tail, All-from_get_or}
use Rattle.evp_base.specs.declared.order.Order.{Order}
use Rattle.evp_wide.specs.Gathered.{picked, gathered, sign_byte, signs_gathered}
use Rattle.evp_plan.specs.declared.fill.Fill.{Fill}
use Rattle.evp_plan.specs.declared.fill.Window.{Window}
use Rattle.evp_plan.specs.declared.quick.Quick.{Quick}
use Rattle.evp_plan.specs.Fills.{AreFilled, AreWordsInside, AreWordsThere, AreFillsOf}
use Rattle.evp_plan.specs.Lanes.{HaveFills, IsReachOf, AreLanesOf}

-- a lane of two gathers
pub lane_fills : (picks signs bytes : List ℕ) (k pick sign : ℕ) → k < length picks → k < length signs → get_or picks k 0 ≡ pick
    → get_or signs k 0 ≡ sign → gathered picks bytes ≡ signs_gathered signs bytes → picked bytes pick ≡ sign_byte (picked bytes sign)
lane_fills picks signs bytes k pick sign within signs_within pick_is sign_is same =
    let places = gathered signs bytes in
    ap (picked bytes) (sym pick_is) ∙ sym (get_or-map (picked bytes) picks k 0 0 within) ∙ ap (λ (l : List ℕ). get_or l k 0) same
    ∙ get_or-map sign_byte places k 0 0 (subst (λ (n : ℕ). k < n) (sym (length-map signs (picked bytes))) signs_within)
    ∙ ap sign_byte (get_or-map (picked bytes) signs k 0 0 signs_within ∙ ap (picked bytes) sign_is)

-- of each that was looked at
pub all_taken : {X : Type 0} (P : X → Type 0) (xs : List X) (k : ℕ) → length xs ≤ k → All P (take k xs) → All P xs
all_taken {X} P xs k past all = subst (λ (l : List X). All P l) (take_all k xs past) all

-- four more that are looked at, of which those behind them are left
pub four_more : {X : Type 0} (P Q : X → Type 0) (xs : List X) (one two three four : X) → 4 ≤ length xs → one ≡ get_or xs 0 one
    → two ≡ get_or xs 1 two → three ≡ get_or xs 2 three → four ≡ get_or xs 3 four → All Q xs
    → All Q (take (length xs - 4) (drop 4 xs))
    × (P one → P two → P three → P four → All P (take (length xs - 4) (drop 4 xs)) → All P xs)
four_more P Q [] one two three four long one_is two_is three_is four_is all = absurd (omega (arith, long))
four_more P Q (a ∷ []) one two three four long one_is two_is three_is four_is all = absurd (omega (arith, long))
four_more P Q (a ∷ b ∷ []) one two three four long one_is two_is three_is four_is all = absurd (omega (arith, long))
four_more P Q (a ∷ b ∷ c ∷ []) one two three four long one_is two_is three_is four_is all = absurd (omega (arith, long))
four_more {X} P Q (a ∷ b ∷ c ∷ d ∷ xs) one two three four long one_is two_is three_is four_is all =
    let same : take (length (a ∷ b ∷ c ∷ d ∷ xs) - 4) xs ≡ xs = take_all (length (a ∷ b ∷ c ∷ d ∷ xs) - 4) xs (omega arith) in (
      subst (λ (l : List X). All Q l) (sym same)
          (All-tail Q d xs (All-tail Q c (d ∷ xs) (All-tail Q b (c ∷ d ∷ xs) (All-tail Q a (b ∷ c ∷ d ∷ xs) all)))),
      λ first second third fourth rest. All-cons P a (b ∷ c ∷ d ∷ xs) (subst P one_is first)
          (All-cons P b (c ∷ d ∷ xs) (subst P two_is second) (All-cons P c (d ∷ xs) (subst P three_is third)
          (All-cons P d xs (subst P four_is fourth) (subst (λ (l : List X). All P l) same rest)))),
    )

-- windows that look at all fills of the words, and end where the words do
pub lanes_are : (order : Order) (tests : List Quick) (reach : ℕ) (fills : List Fill) (windows : List Window) → IsReachOf tests reach
    → 16 ≤ reach → All (λ (window : Window). window.at + 16 ≤ reach) windows → AreFillsOf order tests fills
    → ((at : ℕ) (bytes : List ℕ) → HaveFills at bytes windows → AreFilled at bytes fills) → AreLanesOf order tests windows
lanes_are order tests reach fills windows reached wide within told looked = record {
  inside = λ at bytes inside k d below.
      let end = reached at bytes inside (omega (arith, wide)) in
      let stands = within k d below in
      omega (arith, end, stands);
  tell = λ at bytes are inside have. told at bytes are inside (looked at bytes have);
}

-- where all windows have their fills, the words are there
pub windows_tell : (order : Order) (tests : List Quick) (windows : List Window) (at : ℕ) (bytes : List ℕ)
    → ((k : ℕ) → Fits w8 (get_or bytes k 0)) → AreLanesOf order tests windows → AreWordsInside at bytes tests
    → HaveFills at bytes windows → AreWordsThere at order bytes tests
windows_tell order tests windows at bytes fit lanes inside have =
    lanes.tell at bytes (All-from_get_or (λ (byte : ℕ). byte < 256) bytes 0 (λ k _. (fit k).fits)) inside have
