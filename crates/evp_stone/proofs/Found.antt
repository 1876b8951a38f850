-- What a binary search finds among keys that rise, as the numbers of the routes that end in a stone do.
use Rattle.std.proofs.Common.{◌≡◌, ℕ, zero, suc, ◌+◌, ◌<◌, ◌≤◌, ◌==◌, Bool, true, false, if◌then◌else◌}
use Rattle.std.proofs.Common.{List, [], ◌∷◌, length, get_or}
use Rattle.std.proofs.Common.{Result, Ok, Err, refl, sym, arith}
use Rattle.std.specs.List.Sorted.{IsSearchInRange, IsBinarySearchResult, IsNonDecreasingBy}
use Rattle.std.specs.Ordering.{nat_cmp, ordering_index}
use Rattle.std.proofs.lemmas.Cmp.{ranked}
use Rattle.std.proofs.lemmas.List.Sorted.{IsNonDecreasingBy-from_default}
use Rattle.std.proofs.lemmas.Bool.Decides.{nat_tests}
use Rattle.evp_graph.specs.declared.route.Route.{Route}
use Rattle.evp_stone.specs.Places.{Rises}
use Rattle.evp_stone.specs.Route.{last_stone}
use Rattle.evp_stone.specs.Tallied.{ending_from}

-- none of the numbers is below this one
abbrev pub Above : ℕ → List ℕ → Type 0
Above n xs = (i : ℕ) → i < length xs → n ≤ get_or xs i 0

abbrev with_front : Bool → ℕ → List ℕ → List ℕ
with_front test n more = if test then n ∷ more else more

front-above : (test : Bool) (n : ℕ) (more : List ℕ) → Above (n + 1) more → Above n (with_front test n more)
front-above true n more above zero within = omega arith
front-above true n more above (suc i) within = let h = above i (omega (arith, within)) in omega (arith, h)
front-above false n more above i within = let h = above i within in omega (arith, h)

front-rises : (test : Bool) (n : ℕ) (more : List ℕ) → Above (n + 1) more → Rises more → Rises (with_front test n more)
front-rises true n more above rises zero zero le within = omega arith
front-rises true n more above rises zero (suc j) le within = let h = above j (omega (arith, within)) in omega (arith, h)
front-rises true n more above rises (suc i) zero le within = absurd (omega (arith, le))
front-rises true n more above rises (suc i) (suc j) le within = rises i j (omega (arith, le)) (omega (arith, within))
front-rises false n more above rises i j le within = rises i j le within

module _ (stone : ℕ) where
  pub ending-above : (start : ℕ) (routes : List Route) → Above start (ending_from stone start routes)
  ending-above start [] i within = absurd (omega (arith, within))
  ending-above start (route ∷ routes) i within =
      front-above (last_stone route == stone) start (ending_from stone (start + 1) routes) (ending-above (start + 1) routes) i within

  -- the numbers of the routes that end in a stone rise
  pub ending-rises : (start : ℕ) (routes : List Route) → Rises (ending_from stone start routes)
  ending-rises start [] i j le within = absurd (omega (arith, within))
  ending-rises start (route ∷ routes) i j le within =
      front-rises (last_stone route == stone) start (ending_from stone (start + 1) routes) (ending-above (start + 1) routes)
      (ending-rises (start + 1) routes) i j le within

-- the place of an element by its key
pub record IsAt {X : Type 0} (key : X → ℕ) (xs : List X) (k : ℕ) (d : X) (r : Result ℕ ℕ) : Type 0 where
  pub at : ℕ
  pub within : at < length xs
  pub is : r ≡ Ok at
  pub key_is : key (get_or xs at d) ≡ k

module _ {X : Type 0} (key : X → ℕ) (xs : List X) (k : ℕ) (d : X)
    (rises : (i j : ℕ) → i ≤ j → j < length xs → key (get_or xs i d) ≤ key (get_or xs j d)) where
  comparisons_rise : IsNonDecreasingBy (λ x. ordering_index (nat_cmp (key x) k)) xs
  comparisons_rise = IsNonDecreasingBy-from_default (λ x. ordering_index (nat_cmp (key x) k)) xs d (λ i j le within.
      let keys_rise = rises i j le within in grind (arith, nat_tests))

  -- a binary search by the key ends at an element that has it, where there is one
  pub found : (i : ℕ) → i < length xs → key (get_or xs i d) ≡ k → (r : Result ℕ ℕ) → IsSearchInRange r (length xs)
      → IsBinarySearchResult (λ x. nat_cmp (key x) k) xs r → IsAt key xs k d r
  found i within is (Ok at) in_range equal = record { at = at; within = in_range; is = refl; key_is = ranked _ k _ (sym (equal d)) }
  found i within is (Err at) in_range parted =
      let before : i < at → key (get_or xs i d) < k = λ lt. ranked _ k _ (sym ((parted comparisons_rise).0 i d (omega arith) lt)) in
      let after : at ≤ i → k < key (get_or xs i d) = λ le. ranked _ k _ (sym ((parted comparisons_rise).1 i d le within)) in
      absurd (grind (arith, before, after, is))
