-- How long what a route carries can be: a stone never makes a record more.
use Rattle.std.proofs.Common.{◌≡◌, ℕ, suc, ◌+◌, ◌≤◌, Bool, true, false, List, [], ◌∷◌, length, map, take, Some, None, Option}
use Rattle.std.proofs.Common.{refl, ap, subst, ◌∙◌, arith, length-append, length-take}
use Rattle.std.proofs.lemmas.List.{length-map, append-nil}
use Rattle.std.proofs.lemmas.Option.{slice_get_within, get_or_from_slice_get}
use Rattle.std.specs.Prelude.{if◌then◌else◌}
use Rattle.std.specs.List.{slice_get, sum}
use Rattle.evp_action.specs.Outcome.{Outcome, sent, dropped, arrived, refused}
use Rattle.evp_graph.specs.declared.route.Route.{Route}
use Rattle.evp_stone.specs.declared.source.Source.{Source}
use Rattle.evp_stone.specs.Accounts.{act_of, freezes_of, submitted_of, records_of, carried_from, items_of, arrivals, flow_of}
use Rattle.evp_stone.specs.Carried.{Carried, become, Acts, sent_on, part_to, goes_to, outcome_of}
use Rattle.evp_stone.specs.Flow.{item, mark, flow_from}
use Rattle.evp_stone.specs.Job.{IsJob, submits}
use Rattle.evp_stone.specs.JobShape.{JobShape}
use Rattle.evp_stone.specs.Route.{steps_of}
use Rattle.evp_stone.specs.Rounds.{Step}
use Rattle.evp_stone.specs.Through.{through}
use Rattle.evp_stone.proofs.Begins.{all_of, begins}
use Rattle.evp_stone.proofs.JobFacts.{length-arrive}
use Rattle.evp_stone.proofs.Routes.{HasEnds}
use Rattle.evp_stone.proofs.Whole.{each, length-came, all-came}

one_part : (position : ℕ) (c : Carried) (outcome : Outcome) → length (part_to position c outcome) ≤ 1
one_part position c (sent to format value) = one (become c format value) (goes_to position to)
  where
    one : (d : Carried) (b : Bool) → length (if b then d ∷ [] else []) ≤ 1
    one d true = omega arith
    one d false = omega arith
one_part position c dropped = omega arith
one_part position c (arrived format value) = omega arith
one_part position c (refused reason) = omega arith

no_more_sent : (act : Acts) (stone position : ℕ) (records : List Carried) → length (sent_on act stone position records) ≤ length records
no_more_sent act stone position [] = omega arith
no_more_sent act stone position (c ∷ records) =
    let one = one_part position c (outcome_of act stone c) in
    let rest = no_more_sent act stone position records in
    omega (arith, length-append (part_to position c (outcome_of act stone c)) (sent_on act stone position records))

no_more_through : (act : Acts) (records : List Carried) (steps : List Step) → length (through act records steps) ≤ length records
no_more_through act records [] = omega arith
no_more_through act records (step ∷ steps) =
    let one = no_more_sent act step.stone step.position records in
    let rest = no_more_through act (sent_on act step.stone step.position records) steps in
    omega arith

length-flow : (first : ℕ) (arrivals : List (List Carried)) → length (flow_from first arrivals) ≡ length (all_of arrivals) + length arrivals
length-flow first [] = refl
length-flow first (new ∷ arrivals) =
    let rest = length-flow (first + 1) arrivals in
    omega (
      arith,
      length-append (map item new) (mark first ∷ flow_from (first + 1) arrivals),
      length-append new (all_of arrivals),
      length-map new item,
    )

pub length-carried : (formats : List _) (index : ℕ) (items : List _) → length (carried_from formats index items) ≡ length items
length-carried formats index [] = refl
length-carried formats index (i ∷ items) = ap suc (length-carried formats (index + 1) items)

pub few_items : (job : JobShape) → IsJob job → (source : Option Source) (k : ℕ) → slice_get job.sources k ≡ source
    → length (items_of source) ≤ 131072
few_items job is None k at = omega arith
few_items job is (Some source) k at =
    let few = is.limits.records k source (slice_get_within job.sources k source at) in
    subst (λ (s : Source). length s.items ≤ 131072) (get_or_from_slice_get job.sources k source source at) few

module _ (job : JobShape) (is : IsJob job) (route : Route) (ends : HasEnds route) where
  come : length (all_of (arrivals job route)) ≤ length (take (sum (submits route.source job.rounds)) (records_of job route.source))
  come =
      let came = take (sum (submits route.source job.rounds)) (records_of job route.source) in
      let whole = append-nil (all_of (submitted_of job route.source)) ∙ all-came job route ends in
      let begin = begins (act_of job) (freezes_of job) (length job.rounds) (each job route ends) (steps_of route)
      (submitted_of job route.source) came [] (length-came job route ends) whole in
      let all = ap (λ (l : List Carried). length l) begin.1 in
      let some = no_more_through (act_of job) came (steps_of route) in
      omega (arith, length-append (all_of (arrivals job route)) begin.0)

  pub few_records : length (all_of (arrivals job route)) ≤ 131072
  few_records =
      let few = come in
      let items = few_items job is (slice_get job.sources route.source) route.source refl in
      let long = length-carried job.formats 0 (items_of (slice_get job.sources route.source)) in
      omega (arith, length-take (sum (submits route.source job.rounds)) (records_of job route.source))

  -- as many as the source submits, and the ends of rounds
  pub submitted_flow : length (flow_of job route) ≤ sum (submits route.source job.rounds) + length job.rounds
  submitted_flow =
      let few = come in
      let flow = length-flow 0 (arrivals job route) in
      let rounds = length-arrive job route ends in
      omega (arith, length-take (sum (submits route.source job.rounds)) (records_of job route.source))

  pub short_flow : length (flow_of job route) ≤ 131136
  short_flow =
      let few = few_records in
      let flow = length-flow 0 (arrivals job route) in
      let rounds = length-arrive job route ends in
      let limit = is.limits.rounds.1 in
      omega arith
