-- A front of a flow is the whole of it exactly where its rounds are all rounds.
use Rattle.std.proofs.Common.{◌≡◌, ℕ, ◌+◌, ◌<◌, ◌≤◌, List, [], ◌∷◌, ◌++◌, length, map, take, Option, Some, refl, ap, ◌∙◌, arith}
use Rattle.std.proofs.Common.{length-append, length-take}
use Rattle.std.proofs.lemmas.List.{length-map, take_all}
use Rattle.std.specs.List.{slice_get}
use Rattle.evp_graph.specs.declared.route.Route.{Route}
use Rattle.evp_stone.specs.Accounts.{arrivals, flow_of}
use Rattle.evp_stone.specs.Carried.{Carried}
use Rattle.evp_stone.specs.Entries.{flow, flow_at, facts}
use Rattle.evp_stone.specs.Flow.{Part, item, mark, flow_from}
use Rattle.evp_stone.specs.JobShape.{JobShape}
use Rattle.evp_stone.specs.State.{IsFront, front_of}
use Rattle.evp_stone.proofs.JobFacts.{length-arrive}
use Rattle.evp_stone.proofs.Routes.{HasEnds}

-- the flow of a route has so many facts
pub flow_long : (job : JobShape) (number : ℕ) (route : Route) → slice_get job.routes number ≡ Some route
    → length (flow job number) ≡ length (flow_of job route)
flow_long job number route at =
    ap (λ (r : Option Route). length (facts job.formats (flow_at job r))) at
    ∙ length-map (flow_of job route) (λ (part : Part). record { formats = job.formats; part = part })

-- how many rounds end in these parts
abbrev marks : List Part → ℕ
marks [] = 0
marks (item c ∷ parts) = marks parts
marks (mark round ∷ parts) = 1 + marks parts

marks-append : (xs ys : List Part) → marks (xs ++ ys) ≡ marks xs + marks ys
marks-append [] ys = omega arith
marks-append (item c ∷ xs) ys = marks-append xs ys
marks-append (mark round ∷ xs) ys = let m = marks-append xs ys in omega arith

marks-items : (records : List Carried) → marks (map item records) ≡ 0
marks-items [] = refl
marks-items (c ∷ records) = marks-items records

marks-flow : (first : ℕ) (arrivals : List (List Carried)) → marks (flow_from first arrivals) ≡ length arrivals
marks-flow first [] = refl
marks-flow first (new ∷ arrivals) =
    let rest = marks-flow (first + 1) arrivals in
    let items = marks-items new in
    let both = marks-append (map item new) (mark first ∷ flow_from (first + 1) arrivals) in omega arith

marks-length : (parts : List Part) → marks parts ≤ length parts
marks-length [] = omega arith
marks-length (item c ∷ parts) = let m = marks-length parts in omega arith
marks-length (mark round ∷ parts) = let m = marks-length parts in omega arith

module _ (job : JobShape) (route : Route) (ends : HasEnds route) where
  -- all rounds are the whole flow
  pub all_came : (round handled : ℕ) (new : List Carried)
      → IsFront (flow_of job route) handled (front_of (arrivals job route) round new) → round ≡ length job.rounds
      → handled ≡ length (flow_of job route)
  all_came round handled new front all =
      let long = length-arrive job route ends in
      let whole = take_all round (arrivals job route) (omega arith) in
      let same : length (front_of (arrivals job route) round new) ≡ length (flow_of job route) + length new =
      let first = ap (λ (l : List (List Carried)). length (flow_from 0 l)) whole in
      let items = length-map new item in
      omega (arith, length-append (flow_from 0 (take round (arrivals job route))) (map item new)) in
      let is = front.long in
      let all = ap (λ (l : List Part). length l) front.whole in
      omega (arith, length-append (front_of (arrivals job route) round new) front.others)

  -- fewer rounds are less
  pub more_comes : (round handled : ℕ) (new : List Carried)
      → IsFront (flow_of job route) handled (front_of (arrivals job route) round new) → round < length job.rounds
      → handled < length (flow_of job route)
  more_comes round handled new front some =
      let long = length-arrive job route ends in
      let first = marks-flow 0 (take round (arrivals job route)) in
      let items = marks-items new in
      let both = marks-append (flow_from 0 (take round (arrivals job route))) (map item new) in
      let taken = length-take round (arrivals job route) in
      let whole = marks-append (front_of (arrivals job route) round new) front.others in
      let all = ap marks front.whole in
      let flow = marks-flow 0 (arrivals job route) in
      let others = marks-length front.others in
      let is = front.long in
      let lengths = ap (λ (l : List Part). length l) front.whole in
      omega (arith, length-append (front_of (arrivals job route) round new) front.others)
