-- The actor that gives on a route is that of its source, or of the stone from which it goes on.
use Rattle.std.proofs.Common.{◌≡◌, ℕ, ◌+◌, ◌<◌, List, [], ◌∷◌, ◌++◌, length, Some, None, refl, sym, ap, subst, ◌∙◌, ⊎_elim, arith}
use Rattle.std.specs.List.{slice_get}
use Rattle.evp_graph.specs.declared.route.Route.{Route}
use Rattle.evp_stone.specs.Actor.{Role, feeds, works}
use Rattle.evp_stone.specs.Job.{IsJob}
use Rattle.evp_stone.specs.JobShape.{JobShape}
use Rattle.evp_stone.specs.Opening.{IsNumbered, GivesOn, GoesOnFrom}
use Rattle.evp_stone.specs.Route.{last_of}
use Rattle.evp_stone.proofs.Edges.{first_or_longer, source_below}
use Rattle.evp_stone.proofs.JobFacts.{ends_at}
use Rattle.evp_stone.proofs.LastStones.{last_stone_below}
use Rattle.evp_crew.specs.Parting.{actors_of}
use Rattle.evp_crew.specs.Ways.{before_last, giver_from, giver_number}

before_snoc : (stones : List ℕ) (last : ℕ) → 0 < length stones → before_last (stones ++ last ∷ []) ≡ Some (last_of stones)
before_snoc [] last some = absurd (omega arith)
before_snoc (s ∷ []) last some = refl
before_snoc (s ∷ t ∷ []) last some = refl
before_snoc (s ∷ t ∷ u ∷ stones) last some = before_snoc (t ∷ u ∷ stones) last (omega arith)

before_one : (stones : List ℕ) → length stones ≡ 1 → before_last stones ≡ None
before_one [] one = refl
before_one (s ∷ []) one = refl
before_one (s ∷ t ∷ stones) one = absurd (omega arith)

module _ (job : JobShape) (is : IsJob job) (number : ℕ) (route : Route) (there : slice_get job.routes number ≡ Some route) where
  source_gives : route.positions ≡ [] → giver_number job route ≡ route.source
  source_gives none =
      let long = ap (λ (l : List ℕ). length l) none in
      let ends = (ends_at job is number route there).ends in
      ap (giver_from (length job.sources) route.source) (before_one route.stones (omega arith))

  stone_gives : (stone : ℕ) → GoesOnFrom job stone route → giver_number job route ≡ length job.sources + stone
  stone_gives stone from =
      let ends = (ends_at job is from.number from.route from.there).ends in
      ap (giver_from (length job.sources) route.source)
      (ap before_last from.goes_on.stones ∙ before_snoc from.route.stones from.goes_on.stone (omega arith)
      ∙ ap (λ (n : ℕ). Some n) from.last)

  -- it is one of the job's
  pub giver_below : giver_number job route < actors_of job
  giver_below =
      ⊎_elim (λ none. let giver = source_gives none in let below = source_below job is number route there in omega arith)
      (λ longer. let giver = stone_gives longer.0 longer.1 in
      let below = last_stone_below job is longer.1.number longer.1.route longer.1.there in
      let last = longer.1.last in omega arith)
      (first_or_longer job is number route there)

  -- an actor that gives on the route has its number
  pub giver_of_role : (actor : ℕ) (role : Role) → IsNumbered job actor role → GivesOn job role route → giver_number job route ≡ actor
  giver_of_role actor (feeds work) numbered gives = source_gives gives.1 ∙ gives.0 ∙ numbered.1
  giver_of_role actor (works work unended) numbered gives = stone_gives work.stone gives ∙ sym numbered.1

  -- and the actor of its number gives on it
  pub gives_on : (role : Role) → IsNumbered job (giver_number job route) role → GivesOn job role route
  gives_on (feeds work) numbered =
      ⊎_elim (λ none. (sym (source_gives none) ∙ sym numbered.1, none))
      (λ longer. absurd (let giver = stone_gives longer.0 longer.1 in let below = numbered.0 in omega arith))
      (first_or_longer job is number route there)
  gives_on (works work unended) numbered =
      ⊎_elim (λ none. absurd (let giver = source_gives none in let below = source_below job is number route there in
      let at = numbered.1 in omega arith))
      (λ longer. let giver = stone_gives longer.0 longer.1 in let at = numbered.1 in
      let same : longer.0 ≡ work.stone = omega arith in subst (λ (s : ℕ). GoesOnFrom job s route) same longer.1)
      (first_or_longer job is number route there)
