-- A route that ends in a stone is among the numbers of those that do.
use Rattle.std.proofs.Common.{◌≡◌, ℕ, zero, suc, ◌+◌, ◌==◌, Bool, true, false, if◌then◌else◌}
use Rattle.std.proofs.Common.{List, [], ◌∷◌, Some, refl, ap, ◌∙◌, subst, arith}
use Rattle.std.specs.Prelude.{slice_get}
use Rattle.evp_graph.specs.declared.route.Route.{Route}
use Rattle.evp_stone.specs.Places.{IsIn}
use Rattle.evp_stone.specs.Route.{last_stone}
use Rattle.evp_stone.specs.Tallied.{ending_from}

front-in : (test : Bool) (n m : ℕ) (more : List ℕ) → IsIn more m → IsIn (if test then n ∷ more else more) m
front-in true n m more is_in = record { at = suc is_in.at; within = let h = is_in.within in omega (arith, h); is = is_in.is }
front-in false n m more is_in = is_in

front-here : (test : Bool) (n : ℕ) (more : List ℕ) → test ≡ true → IsIn (if test then n ∷ more else more) n
front-here true n more is = record { at = 0; within = omega arith; is = refl }
front-here false n more is = cc

module _ (stone : ℕ) where
  pub ending-in : (start k : ℕ) (routes : List Route) (route : Route) → slice_get routes k ≡ Some route
      → (last_stone route == stone) ≡ true → IsIn (ending_from stone start routes) (start + k)
  ending-in start k [] route there ends = cc
  ending-in start zero (first ∷ routes) route there ends =
      let same : first ≡ route = cc in
      subst (λ n. IsIn (ending_from stone start (first ∷ routes)) n) (omega arith)
      (front-here (last_stone first == stone) start (ending_from stone (start + 1) routes)
      (ap (λ (r : Route). last_stone r == stone) same ∙ ends))
  ending-in start (suc k) (first ∷ routes) route there ends =
      subst (λ n. IsIn (ending_from stone start (first ∷ routes)) n) (omega arith)
      (front-in (last_stone first == stone) start (start + 1 + k) (ending_from stone (start + 1) routes)
      (ending-in (start + 1) k routes route there ends))
