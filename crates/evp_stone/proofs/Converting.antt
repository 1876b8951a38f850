-- What a stone's pass of the cache of plans knows, and how many plans it built, when it has acted on one record more.
use Rattle.std.proofs.Common.{◌≡◌, ℕ, zero, suc, ◌+◌, ◌≤◌, ◌<◌, ◌^◌, Bool, true, false, List, [], ◌∷◌, length, Option, Some, None}
use Rattle.std.proofs.Common.{refl, sym, subst, arith}
use Rattle.std.proofs.lemmas.List.Elements.{Contains-append_left, Contains-append_right}
use Rattle.std.specs.Prelude.{if◌then◌else◌, IsSome}
use Rattle.std.specs.List.{slice_get, Contains, flat_map}
use Rattle.evp_action.specs.Asking.{Asks, BuildsFor}
use Rattle.evp_cache.specs.declared.found.Found.{Found}
use Rattle.evp_cache.specs.Known.{Known, found_for}
use Rattle.evp_graph.specs.declared.route.Route.{Route}
use Rattle.evp_plan.specs.Counts.{raised}
use Rattle.evp_stone.specs.Accounts.{rounds_of}
use Rattle.evp_stone.specs.Actor.{Converts, pairs_by}
use Rattle.evp_stone.specs.Carried.{Carried}
use Rattle.evp_stone.specs.JobShape.{JobShape}
use Rattle.evp_stone.specs.Laws.{done_of}
use Rattle.evp_stone.specs.Route.{last_stone}
use Rattle.evp_stone.specs.Rounds.{Worked}
use Rattle.evp_stone.proofs.Works.{ActsNext}

-- what a piece contains, all of them contain
in_piece : {X A : Type 0} (f : X → List A) (xs : List X) (k : ℕ) (x : X) (a : A) → slice_get xs k ≡ Some x → Contains (f x) a
    → Contains (flat_map f xs) a
in_piece f [] k x a at has = absurd (cc)
in_piece f (y ∷ ys) zero x a at has =
    let is : x ≡ y = cc in
    Contains-append_left (f y) (flat_map f ys) a (subst (λ z. Contains (f z) a) is has)
in_piece f (y ∷ ys) (suc k) x a at has = Contains-append_right (f y) (flat_map f ys) a (in_piece f ys k x a at has)

-- the stone acts on the record in some round of one of its routes
pub record ActsIn (job : JobShape) (stone : ℕ) (c : Carried) : Type 0 where
  pub number : ℕ
  pub route : Route
  pub there : slice_get job.routes number ≡ Some route
  pub last : last_stone route ≡ stone
  pub acted : Contains (done_of job route) c

-- the record on which a route's last stone acts next is one of all those on which it acts
pub acts_in : (job : JobShape) (route : Route) (round : ℕ) (done : List Carried) (c : Carried)
    → ActsNext (rounds_of job route) round done c
    → Contains (done_of job route) c
acts_in job route round done c next =
    in_piece (λ (r : Worked). r.done) (rounds_of job route) round next.worked c next.there
    (subst (λ (l : List Carried). Contains l c) (sym next.whole)
    (Contains-append_right done (c ∷ next.later) c (0, omega arith, refl)))

-- all that a pass knows are still pairs between which the stone converts, when it was asked for those of such a record
pub still_met : (job : JobShape) (stone : ℕ) (c : Carried) (old new : List Known) → ActsIn job stone c
    → Asks (pairs_by job (slice_get job.stones stone) c) old new
    → ((from to : ℕ) → IsSome (found_for old from to) → Converts job stone from to)
    → (from to : ℕ) → IsSome (found_for new from to) → Converts job stone from to
still_met job stone c old new acts asks met from to known = cases (found_for old from to) refl
  where
    cases : (o : Option Found) → found_for old from to ≡ o → Converts job stone from to
    cases None is = record {
      number = acts.number;
      route = acts.route;
      there = acts.there;
      last = acts.last;
      c = c;
      acted = acts.acted;
      pair = asks from to is known;
    }
    cases (Some found) is = met from to (subst IsSome (sym is) refl)

-- still no more plans were built than one for each pair that is known and for each time that there was no memory
pub still_built : (err : Bool) (old new : List Known) (before after starved : ℕ) → after < 2 ^ 64
    → BuildsFor (if err then 1 else 0) old new before after → before ≤ length old + starved
    → after ≤ length new + (if err then raised starved else starved)
still_built true old new before after starved fits builds were = omega arith
still_built false old new before after starved fits builds were = omega arith
