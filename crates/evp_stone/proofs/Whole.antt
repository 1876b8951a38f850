-- The law of rounds for a job.
use Rattle.std.proofs.Common.{◌≡◌, ℕ, suc, ◌<◌, ◌≤◌, Bool, List, [], ◌∷◌, ◌++◌, length, take, drop, get_or}
use Rattle.std.proofs.Common.{append_assoc, refl, sym, ap, ◌∙◌, arith}
use Rattle.std.proofs.Math.Seq.{take-add}
use Rattle.std.proofs.lemmas.List.{append-nil, length-map}
use Rattle.std.proofs.lemmas.List.Sums.{sum_by-cons}
use Rattle.std.specs.List.{sum}
use Rattle.evp_graph.specs.declared.route.Route.{Route}
use Rattle.evp_queue.specs.Counts.{is_among}
use Rattle.evp_stone.specs.declared.round.Round.{Round}
use Rattle.evp_stone.specs.Accounts.{act_of, freezes_of, submitted_of, records_of, portions, arrivals, through_of}
use Rattle.evp_stone.specs.Carried.{Carried, Acts}
use Rattle.evp_stone.specs.Job.{IsJob, submits}
use Rattle.evp_stone.specs.JobShape.{JobShape, graph_of}
use Rattle.evp_stone.specs.Laws.{BeginsTheWhole, RoundsBeginTheWhole, done_of, held_of}
use Rattle.evp_stone.specs.Route.{last_stone, steps_of, cut}
use Rattle.evp_stone.specs.Rounds.{Step, passed_on, arrivals_of}
use Rattle.evp_stone.specs.Through.{through}
use Rattle.evp_stone.proofs.Begins.{all_of, rounds_join, kept_at, length-arrivals, begins, NoneKept, all_come}
use Rattle.evp_stone.proofs.Routes.{HasEnds, has_ends, is_route_at, steps_of-cut, length-steps_of, last_stone-cut, cut_whole}

length-portions : (numbers : List ℕ) (records : List Carried) → length (portions numbers records) ≡ length numbers
length-portions [] records = refl
length-portions (n ∷ numbers) records = ap suc (length-portions numbers (drop n records))

-- the portions are the first records
all-portions : (numbers : List ℕ) (records : List Carried) → all_of (portions numbers records) ≡ take (sum numbers) records
all-portions [] records = refl
all-portions (n ∷ numbers) records =
    ap (λ (l : List Carried). take n records ++ l) (all-portions numbers (drop n records))
    ∙ sym (take-add n (sum numbers) records)
    ∙ ap (λ (m : ℕ). take m records) (sym (sum_by-cons (λ (x : ℕ). x) n numbers))

abbrev no_step : Step
no_step = record { stone = 0; position = 0 }

none_kept : (act : Acts) (freezes : ℕ → List Bool) (rounds : ℕ) (each : (stone : ℕ) → length (freezes stone) ≡ rounds)
    (steps : List Step) (came : List (List Carried))
    → ((k : ℕ) → k < length steps → kept_at act freezes rounds each (get_or steps k no_step).stone
    (arrivals_of act freezes came (take k steps)) ≡ [])
    → NoneKept act freezes rounds each came steps
none_kept act freezes rounds each [] came none = tt
none_kept act freezes rounds each (step ∷ steps) came none = (
  none 0 (omega arith),
  none_kept act freezes rounds each steps (passed_on act freezes came step) (λ k below. none (suc k) (omega arith)),
)

module _ (job : JobShape) (route : Route) (ends : HasEnds route) where
  abbrev pub act : Acts
  act = act_of job

  abbrev pub freezes : ℕ → List Bool
  freezes = freezes_of job

  abbrev pub rounds : ℕ
  rounds = length job.rounds

  pub each : (stone : ℕ) → length (freezes stone) ≡ rounds
  each stone = length-map job.rounds (λ (round : Round). is_among stone round.frozen)

  abbrev pub came : List (List Carried)
  came = submitted_of job route.source

  pub length-came : length came ≡ rounds
  length-came = length-portions (submits route.source job.rounds) (records_of job route.source)
      ∙ length-map job.rounds (λ (round : Round). get_or round.submit route.source 0)

  abbrev records : List Carried
  records = take (sum (submits route.source job.rounds)) (records_of job route.source)

  pub all-came : all_of came ≡ records
  all-came = all-portions (submits route.source job.rounds) (records_of job route.source)

  join : done_of job route ++ held_of job route ≡ all_of (arrivals job route)
  join =
      let stone = last_stone route in
      let lengths : length (freezes stone) ≡ length (arrivals job route) =
      each stone ∙ sym (length-arrivals act freezes rounds each (steps_of route) came length-came) in
      rounds_join [] (freezes stone) (arrivals job route) lengths

  abbrev IsDone : Type 0
  IsDone = (steps : ℕ) → steps ≤ length route.positions → held_of job (cut steps route) ≡ []

  held_here : IsDone → held_of job route ≡ []
  held_here none =
      ap (held_of job) (sym (cut_whole route ends)) ∙ none (length route.positions) (omega arith)

  held_before : IsDone → (k : ℕ) → k < length (steps_of route)
      → kept_at act freezes rounds each (get_or (steps_of route) k no_step).stone (arrivals_of act freezes came (take k (steps_of route)))
      ≡ []
  held_before none k below =
      let within : k < length route.positions = let e = length-steps_of route ends in omega arith in
      let last = last_stone-cut route ends k no_step within in
      let steps = steps_of-cut route ends k (omega arith) in
      ap (λ (stone : ℕ). kept_at act freezes rounds each stone (arrivals_of act freezes came (take k (steps_of route)))) (sym last)
      ∙ ap (λ (l : List Step). kept_at act freezes rounds each (last_stone (cut k route)) (arrivals_of act freezes came l)) (sym steps)
      ∙ none k (omega arith)

  whole : IsDone → done_of job route ≡ through_of job route
  whole none =
      let kept = none_kept act freezes rounds each (steps_of route) came (held_before none) in
      sym (append-nil (done_of job route))
      ∙ ap (λ (l : List Carried). done_of job route ++ l) (sym (held_here none)) ∙ join
      ∙ all_come act freezes rounds each (steps_of route) came length-came kept
      ∙ ap (λ (l : List Carried). through act l (steps_of route)) all-came

  pub begins_the_whole : BeginsTheWhole job route
  begins_the_whole =
      let more = begins act freezes rounds each (steps_of route) came records [] length-came (append-nil (all_of came) ∙ all-came) in
      record {
        others = held_of job route ++ more.0;
        begins = sym (append_assoc (done_of job route) (held_of job route) more.0)
            ∙ ap (λ (l : List Carried). l ++ more.0) join ∙ more.1;
        whole = whole;
      }

pub rounds_begin : (job : JobShape) → IsJob job → RoundsBeginTheWhole job
rounds_begin job is number route at =
    begins_the_whole job route (has_ends (graph_of job) route (is_route_at (graph_of job) job.routes number route is.listed at))
