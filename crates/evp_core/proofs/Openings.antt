-- The opening world has its rules.
use Rattle.std.proofs.Common.{◌≡◌, ℕ, zero, suc, ◌+◌, ◌<◌, Bool, List, [], ◌∷◌, ◌++◌, length, Option, Some, None, refl, sym, ap, subst}
use Rattle.std.proofs.Common.{◌∙◌, arith, ⊎_elim}
use Rattle.std.proofs.Common.{length-append}
use Rattle.std.proofs.lemmas.Bool.Decides.{eqb_tells}
use Rattle.std.proofs.lemmas.List.Sums.{sum_by-cons}
use Rattle.std.proofs.lemmas.Option.{slice_get_within}
use Rattle.std.specs.Prelude.{if◌then◌else◌, replicate}
use Rattle.std.specs.List.{slice_get, sum_by, Contains, AllByRecursion}
use Rattle.evp_graph.specs.declared.route.Route.{Route}
use Rattle.evp_cache.specs.Known.{Cells, IsCacheOf}
use Rattle.evp_stone.specs.Actor.{Role, feeds, works, ActorShape}
use Rattle.evp_stone.specs.Job.{IsJob}
use Rattle.evp_stone.specs.JobShape.{JobShape}
use Rattle.evp_stone.specs.Opening.{IsOpening, IsUntouched, IsFresh}
use Rattle.evp_stone.specs.Route.{last_stone}
use Rattle.evp_stone.specs.State.{RouteWork, Received}
use Rattle.evp_stone.specs.Tallied.{routes_at}
use Rattle.evp_stone.proofs.Elements.{snoc_at}
use Rattle.evp_stone.proofs.Listed.{listed, leads_there}
use Rattle.evp_core.specs.Held.{IsHeld, OpensAs, AreOpening, world_of}
use Rattle.evp_core.specs.Lists.{ListsShape, HasLists, AreEmpty, taken_on, given_on, where_ends}
use Rattle.evp_core.specs.Progress.{due_in_hand, due_of, due_turns}
use Rattle.evp_core.specs.WorldShape.{WorldShape, HasRules, IsOpeningWorld, own_of}
use Rattle.evp_core.proofs.Earlier.{taken_is}

zero_there : (n k : ℕ) → k < n → slice_get {X = ℕ} (replicate n 0) k ≡ Some 0
zero_there zero k below = absurd (omega arith)
zero_there (suc n) zero below = refl
zero_there (suc n) (suc k) below = zero_there n k (omega arith)

module _ (lists : ListsShape) (empty : AreEmpty lists) where
  abbrev job : JobShape
  job = lists.job

  taken_zero : (number : ℕ) (route : Route) → slice_get job.routes number ≡ Some route → slice_get lists.taken number ≡ Some 0
  taken_zero number route at =
      ap (λ (l : List ℕ). slice_get l number) empty.taken ∙ zero_there (length job.routes) number
      (slice_get_within job.routes number route at)

  given_zero : (number : ℕ) (route : Route) → slice_get job.routes number ≡ Some route → slice_get lists.given number ≡ Some 0
  given_zero number route at =
      ap (λ (l : List ℕ). slice_get l number) empty.given ∙ zero_there (length job.routes) number
      (slice_get_within job.routes number route at)

  takes_zero : (stone number : ℕ) → Contains (routes_at job stone) number → taken_on lists (Some stone) number ≡ Some 0
  takes_zero stone number there =
      let leads = leads_there job stone number there in
      taken_is lists stone number 0 leads (taken_zero number leads.route leads.there)

  takes_only : (stone number count : ℕ) (route : Option Route) → slice_get job.routes number ≡ route
      → where_ends stone route (slice_get lists.taken number) ≡ Some count → Contains (routes_at job stone) number
  takes_only stone number count None at takes = absurd (cc)
  takes_only stone number count (Some route) at takes =
      ⊎_elim (λ e. listed job stone number (record { route = route; there = at; last = e.1 }))
      (λ e. absurd (none_some (sym (ap (λ (b : Bool). if b then slice_get lists.taken number else None) e.0) ∙ takes)))
      (eqb_tells (last_stone route) stone)
    where
      none_some : None ≡ Some count → ⊥
      none_some same = cc

  pub fresh : (role : Role) → IsFresh job role (taken_on lists (own_of role)) (given_on lists)
  fresh (feeds work) = record {
    takes = λ number there. absurd (let below = there.1 in omega arith);
    others = λ number count same. absurd (cc);
    gives = λ number route at on. given_zero number route at;
  }
  fresh (works work unended) = record {
    takes = λ number there. takes_zero work.stone number there;
    others = λ number count same. takes_only work.stone number count (slice_get job.routes number) refl same;
    gives = λ number route at on. given_zero number route at;
  }

none_kept : (list : List RouteWork) → AllByRecursion IsUntouched list → sum_by (λ (here : RouteWork). length here.kept) list ≡ 0
none_kept [] all = refl
none_kept (work ∷ list) all =
    let rest = none_kept list all.1 in
    let here = ap (λ (l : List Received). length l) all.0.kept in
    omega (arith, sum_by-cons (λ (w : RouteWork). length w.kept) work list)

opening_due : (role : Role) → IsOpening role → due_of role ≡ 0
opening_due (feeds work) is = refl
opening_due (works work unended) is =
    let hand = ap due_in_hand is.1 in
    let kept = none_kept work.routes is.2 in omega arith

none_due : (actors : List ActorShape) → ((number : ℕ) (actor : ActorShape) → slice_get actors number ≡ Some actor → IsOpening actor.role)
    → due_turns actors ≡ 0
none_due [] each = refl
none_due (actor ∷ actors) each =
    let rest = none_due actors (λ number a at. each (suc number) a at) in
    let here = opening_due actor.role (each 0 actor refl) in
    omega (arith, sum_by-cons (λ (a : ActorShape). due_of a.role) actor actors)

module _ (cells : Cells) (lists : ListsShape) (actors : List ActorShape) (has : HasLists lists) (empty : AreEmpty lists)
    (opening : AreOpening lists.job cells (length lists.job.sources + length lists.job.stones) actors) where
  abbrev world : WorldShape
  world = world_of cells lists actors 0

  pub opening_rules : HasRules world
  opening_rules = record {
    lists = has;
    count = opening.count;
    numbered = λ number actor at. (opening.each number actor at).opens.numbered;
    acted = λ number actor at. (opening.each number actor at).state _ _ (fresh lists empty actor.role);
  }

  pub opening_held : IsJob lists.job → IsCacheOf cells lists.job.formats → cells.declared ≡ lists.job.declared → IsHeld world
  opening_held is cache declared = record {
    job = is;
    rules = opening_rules;
    cache = cache;
    declared = declared;
    counted = let none = none_due actors (λ number actor at. (opening.each number actor at).opens.opening) in omega arith;
  }

  pub opening_world : IsOpeningWorld world
  opening_world = record {
    lists = empty;
    actors = λ number actor at. (opening.each number actor at).opens;
    done = refl;
  }

-- one actor more
pub opens_more : (job : JobShape) (cells : Cells) (bound : ℕ) (actors : List ActorShape) (actor : ActorShape)
    → AreOpening job cells bound actors → OpensAs job cells bound actor → AreOpening job cells (bound + 1) (actors ++ actor ∷ [])
opens_more job cells bound actors actor are opens = record {
  count = let c = are.count in omega (arith, length-append actors (actor ∷ []));
  each = λ number other at. ⊎_elim (λ there. are.each number other there)
      (λ here. subst (λ (a : ActorShape). OpensAs job cells number a) here.1
      (subst (λ (n : ℕ). OpensAs job cells n actor) (sym (here.0 ∙ are.count)) opens))
      (snoc_at actors actor other number at);
}

-- a world that was made of these
module _ (cells : Cells) (lists made : ListsShape) (is_made : made ≡ lists) (actors : List ActorShape) (job : JobShape)
    (of : lists.job ≡ job) (has : HasLists lists) (empty : AreEmpty lists)
    (opening : AreOpening job cells (length job.sources + length job.stones) actors) where
  opens : AreOpening lists.job cells (length lists.job.sources + length lists.job.stones) actors
  opens = subst (λ (j : JobShape). AreOpening j cells (length j.sources + length j.stones) actors) (sym of) opening

  pub made_rules : HasRules (world_of cells made actors 0)
  made_rules = subst (λ (l : ListsShape). HasRules (world_of cells l actors 0)) (sym is_made)
      (opening_rules cells lists actors has empty opens)

  pub made_opening : IsOpeningWorld (world_of cells made actors 0)
  made_opening = subst (λ (l : ListsShape). IsOpeningWorld (world_of cells l actors 0)) (sym is_made)
      (opening_world cells lists actors has empty opens)

  pub made_held : IsJob job → IsCacheOf cells job.formats → cells.declared ≡ job.declared → IsHeld (world_of cells made actors 0)
  made_held is cache declared = subst (λ (l : ListsShape). IsHeld (world_of cells l actors 0)) (sym is_made)
      (opening_held cells lists actors has empty opens (subst IsJob (sym of) is)
      (subst (λ (j : JobShape). IsCacheOf cells j.formats) (sym of) cache)
      (declared ∙ ap (λ (j : JobShape). j.declared) (sym of)))
