-- What is left of a report behind its first lines.
use Rattle.std.proofs.Common.{◌≡◌, ℕ, zero, suc, ◌+◌, ◌-◌, ◌<◌, List, [], ◌∷◌, ◌++◌, map, drop, length, Option, Some}
use Rattle.std.proofs.Common.{append_assoc, refl, sym, ap, ◌∙◌, arith}
use Rattle.std.proofs.lemmas.List.Folds.{flat_map-map}
use Rattle.std.specs.List.{slice_get}
use Rattle.evp_graph.specs.declared.route.Route.{Route}
use Rattle.evp_stone.specs.JobShape.{JobShape}
use Rattle.evp_report.specs.Report.{Told, lines_at, lines_of, report, round_line, rounds_text, routes_lines, told_in, told_of}
use Rattle.evp_stones.specs.Told.{left_of, rounds_left}

module _ (job : JobShape) where
  -- all of it
  pub left_first : left_of job 0 0 ≡ report job
  left_first = ap (λ n. rounds_text 0 n (map (told_of job) job.routes)) (omega arith)

  -- nothing
  pub left_last : (round : ℕ) → round ≡ length job.rounds → left_of job round 0 ≡ []
  left_last round is =
      let none : length job.rounds - round ≡ 0 = omega (arith, is) in
      ap (λ n. rounds_text round n (map (told_of job) job.routes)) none

  -- a round's line comes first
  pub left_line : (round : ℕ) → round < length job.rounds
      → left_of job round 0 ≡ round_line round ++ left_of job round 1
  left_line round below =
      let n = length job.rounds in
      let others = left_of job (round + 1) 0 in
      let more : n - round ≡ suc (n - (round + 1)) = omega (arith, below) in
      ap (λ k. rounds_text round k (map (told_of job) job.routes)) more
      ∙ ap (λ lines. (round_line round ++ lines) ++ others) (flat_map-map (told_in round) (told_of job) job.routes)
      ∙ append_assoc (round_line round) (routes_lines job round job.routes) others

  -- a route's lines come next
  pub left_route : (round place : ℕ) → place < length job.routes
      → left_of job round (suc place) ≡ lines_of job place round ++ left_of job round (suc (suc place))
  left_route round place below = next job.routes place below
    where
      others : List ℕ
      others = left_of job (round + 1) 0

      next : (routes : List Route) (place : ℕ) → place < length routes
          → routes_lines job round (drop place routes) ++ others
          ≡ lines_at job round (slice_get routes place) ++ (routes_lines job round (drop (suc place) routes) ++ others)
      next [] place below = absurd (omega (arith, below))
      next (route ∷ routes) zero below =
          append_assoc (told_in round (told_of job route)) (routes_lines job round routes) others
      next (route ∷ routes) (suc place) below = next routes place (omega (arith, below))

  -- behind the last route the next round comes
  pub left_end : (round place : ℕ) → place ≡ length job.routes
      → left_of job round (suc place) ≡ left_of job (round + 1) 0
  left_end round place is = ap (λ (routes : List Route). routes_lines job round routes ++ left_of job (round + 1) 0) (all job.routes place is)
    where
      all : (routes : List Route) (place : ℕ) → place ≡ length routes → drop place routes ≡ []
      all [] zero is = refl
      all [] (suc place) is = absurd (omega (arith, is))
      all (route ∷ routes) zero is = absurd (omega (arith, is))
      all (route ∷ routes) (suc place) is = all routes place (omega (arith, is))

  -- what was hashed with a round's line behind it
  pub with_line : (round : ℕ) → round < length job.rounds → (old new : List ℕ) → new ≡ old ++ round_line round
      → new ++ left_of job round 1 ≡ old ++ left_of job round 0
  with_line round below old new is =
      ap (λ h. h ++ left_of job round 1) is
      ∙ append_assoc old (round_line round) (left_of job round 1)
      ∙ ap (λ l. old ++ l) (sym (left_line round below))

  -- what was hashed with a route's lines behind it
  pub with_route : (round place : ℕ) → place < length job.routes → (old new text : List ℕ)
      → text ≡ lines_of job place round → new ≡ old ++ text
      → new ++ left_of job round (suc (suc place)) ≡ old ++ left_of job round (suc place)
  with_route round place below old new text told is =
      let others = left_of job round (suc (suc place)) in
      ap (λ h. h ++ others) (is ∙ ap (λ t. old ++ t) told)
      ∙ append_assoc old (lines_of job place round) others
      ∙ ap (λ l. old ++ l) (sym (left_route round place below))

  -- what was hashed with a round's line and all its routes' behind it
  pub with_round : (round : ℕ) → round < length job.rounds → (old mid new : List ℕ) → mid ≡ old ++ round_line round
      → new ≡ mid ++ routes_lines job round job.routes
      → new ++ rounds_left job (round + 1) ≡ old ++ left_of job round 0
  with_round round below old mid new line is =
      ap (λ h. h ++ rounds_left job (round + 1)) is
      ∙ append_assoc mid (routes_lines job round job.routes) (rounds_left job (round + 1))
      ∙ with_line round below old mid line
