-- What comes on a route that goes on from another.
use Rattle.std.proofs.Common.{◌≡◌, ℕ, ◌+◌, List, [], ◌∷◌, ◌++◌, length, refl, ap, ◌∙◌, arith}
use Rattle.std.proofs.Common.{length-append}
use Rattle.std.specs.List.{fold}
use Rattle.evp_graph.specs.declared.route.Route.{Route}
use Rattle.evp_stone.specs.Accounts.{act_of, freezes_of, submitted_of, arrivals, rounds_of}
use Rattle.evp_stone.specs.JobShape.{JobShape}
use Rattle.evp_stone.specs.Rounds.{Step, passed_on, arrivals_of}
use Rattle.evp_stone.specs.Route.{last_of, last_stone, steps_of}
use Rattle.evp_stone.specs.State.{GoesOn}
use Rattle.evp_stone.proofs.Routes.{HasEnds, steps, step_of}
use Rattle.evp_stone.proofs.Works.{comes}

steps_longer : (stones positions : List ℕ) (stone position : ℕ) → length stones ≡ length positions + 1
    → steps (stones ++ stone ∷ []) (positions ++ position ∷ []) ≡ steps stones positions ++ step_of (last_of stones, position) ∷ []
steps_longer [] positions stone position same = absurd (omega arith)
steps_longer (s ∷ []) [] stone position same = refl
steps_longer (s ∷ t ∷ stones) [] stone position same = absurd (omega arith)
steps_longer (s ∷ []) (p ∷ positions) stone position same = absurd (omega arith)
steps_longer (s ∷ t ∷ stones) (p ∷ positions) stone position same =
    ap (λ (l : List Step). step_of (s, p) ∷ l) (steps_longer (t ∷ stones) positions stone position (omega arith))

last_longer : (stones : List ℕ) (stone : ℕ) → last_of (stones ++ stone ∷ []) ≡ stone
last_longer [] stone = refl
last_longer (s ∷ []) stone = refl
last_longer (s ∷ t ∷ stones) stone = last_longer (t ∷ stones) stone

fold_longer : {A B : Type 0} (f : A → B → A) (first : A) (xs : List B) (x : B) → fold f first (xs ++ x ∷ []) ≡ f (fold f first xs) x
fold_longer f first [] x = refl
fold_longer f first (y ∷ xs) x = fold_longer f (f first y) xs x

module _ (job : JobShape) (route : Route) (ends : HasEnds route) (position : ℕ) (longer : Route) (on : GoesOn route position longer) where
  pub last_is : last_stone longer ≡ on.stone
  last_is = ap last_of on.stones ∙ last_longer route.stones on.stone

  -- what the route's last stone sends on
  pub comes_longer : arrivals job longer ≡ comes (act_of job) (last_stone route) position (rounds_of job route)
  comes_longer =
      let step : Step = record { stone = last_stone route; position = position } in
      let all : steps_of longer ≡ steps_of route ++ step ∷ [] =
      ap (λ (l : List ℕ). steps l longer.positions) on.stones
      ∙ ap (λ (l : List ℕ). steps (route.stones ++ on.stone ∷ []) l) on.positions
      ∙ steps_longer route.stones route.positions on.stone position ends.ends in
      ap (λ (n : ℕ). arrivals_of (act_of job) (freezes_of job) (submitted_of job n) (steps_of longer)) on.source
      ∙ ap (λ (l : List Step). arrivals_of (act_of job) (freezes_of job) (submitted_of job route.source) l) all
      ∙ fold_longer (passed_on (act_of job) (freezes_of job)) (submitted_of job route.source) (steps_of route) step

  pub ends_longer : HasEnds longer
  ends_longer = record {
    ends = let e = ends.ends in rw (on.stones, on.positions)
        (omega (arith, length-append route.stones (on.stone ∷ []), length-append route.positions (position ∷ [])));
  }
