-- There is room to count one record more: what a route carries is short.
use Rattle.std.proofs.Common.{◌≡◌, ℕ, zero, suc, ◌+◌, ◌≤◌, ◌<◌, ◌^◌, Bool, true}
use Rattle.std.proofs.Common.{false, List, [], ◌∷◌, ◌++◌, length, map, take, Option, Some}
use Rattle.std.proofs.Common.{refl, ap, arith, length-append}
use Rattle.std.proofs.lemmas.List.{length-map}
use Rattle.std.proofs.lemmas.List.Sums.{sum_by-cons}
use Rattle.std.specs.List.{slice_get, sum_by, AllByRecursion}
use Rattle.evp_action.specs.Outcome.{Outcome, sent, dropped, arrived, refused}
use Rattle.evp_stone.specs.declared.entry.Entry.{Entry}
use Rattle.evp_stone.specs.Accounts.{act_of, arrivals, freezes_of, flow_of}
use Rattle.evp_stone.specs.Carried.{Carried, outcome_of, one_passed, one_dropped}
use Rattle.evp_stone.specs.Flow.{Part, item, flow_from}
use Rattle.evp_stone.specs.Job.{IsJob}
use Rattle.evp_stone.specs.JobShape.{JobShape}
use Rattle.evp_stone.specs.Port.{Counting}
use Rattle.evp_stone.specs.Route.{last_stone}
use Rattle.evp_stone.specs.Rounds.{round_of, rounds_from, held_after}
use Rattle.evp_stone.specs.Settling.{HasRoom}
use Rattle.evp_stone.specs.State.{Outlet, RouteWork, Works, IsFront, HasWorked, front_of, is_frozen, held_before, round_in}
use Rattle.evp_stone.specs.Tallied.{IsReceived}
use Rattle.evp_stone.proofs.ActStep.{same_length}
use Rattle.evp_stone.proofs.Begins.{all_of}
use Rattle.evp_stone.proofs.Bounds.{few_records, short_flow}
use Rattle.evp_stone.proofs.JobFacts.{ends_at}
use Rattle.evp_stone.proofs.Longer.{ends_longer}
use Rattle.evp_stone.proofs.Routes.{HasEnds}

held_round : (frozen : Bool) (records : List Carried) → length (round_of frozen records).held ≤ length records
held_round true records = omega arith
held_round false records = omega arith

held_short : (kept : List Carried) (frozen : List Bool) (arrivals : List (List Carried)) (round : ℕ)
    → length (held_after kept (take round (rounds_from kept frozen arrivals))) ≤ length kept + length (all_of arrivals)
held_short kept frozen arrivals zero = omega arith
held_short kept [] arrivals (suc round) = omega arith
held_short kept (f ∷ frozen) [] (suc round) = omega arith
held_short kept (f ∷ frozen) (new ∷ arrivals) (suc round) =
    let one = held_round f (kept ++ new) in
    let rest = held_short (round_of f (kept ++ new)).held frozen arrivals round in
    omega (arith, length-append kept new, length-append new (all_of arrivals))

works_long : (frozen : Bool) (records done kept : List Carried) → Works frozen records done kept
    → length done + length kept ≡ length records
works_long true records done kept works =
    let none = ap (λ (l : List Carried). length l) works.0 in
    let all = ap (λ (l : List Carried). length l) works.1 in
    omega arith
works_long false records done kept works =
    let all = ap (λ (l : List Carried). length l) works in omega (arith, length-append done kept)

sum_short : (f : Carried → ℕ) → ((c : Carried) → f c ≤ 1) → (done : List Carried) → sum_by f done ≤ length done
sum_short f one [] = omega arith
sum_short f one (c ∷ done) =
    let here = one c in
    let rest = sum_short f one done in
    omega (arith, sum_by-cons f c done)

one_or_none : (outcome : Outcome) → one_passed outcome ≤ 1
one_or_none (sent to format value) = omega arith
one_or_none dropped = omega arith
one_or_none (arrived format value) = omega arith
one_or_none (refused reason) = omega arith

drop_or_none : (outcome : Outcome) → one_dropped outcome ≤ 1
drop_or_none (sent to format value) = omega arith
drop_or_none dropped = omega arith
drop_or_none (arrived format value) = omega arith
drop_or_none (refused reason) = omega arith

front_short : (parts front : List Part) (count : ℕ) → IsFront parts count front → count ≤ length parts
front_short parts front count is =
    let all = ap (λ (l : List Part). length l) is.whole in
    let long = is.long in
    omega (arith, length-append front is.others)

each_by_place : (P : Outlet → Type 0) (xs : List Outlet) → ((k : ℕ) (x : Outlet) → slice_get xs k ≡ Some x → P x) → AllByRecursion P xs
each_by_place P [] each = tt
each_by_place P (x ∷ xs) each = (each 0 x refl, each_by_place P xs (λ k y at. each (suc k) y at))

module _ (job : JobShape) (is : IsJob job) (taken given : Counting) (hand : Option Entry) (waiting : List Entry) (work : RouteWork)
    (was : HasWorked job taken given hand waiting work) where
  ends : HasEnds was.route
  ends = ends_at job is work.route was.route was.there

  few : length was.done + length was.kept ≤ 262208
  few =
      let stone = last_stone was.route in
      let before = held_before job was.route (round_in work) in
      let held = held_short [] (freezes_of job stone) (arrivals job was.route) (round_in work) in
      let records = few_records job is was.route ends in
      let flow = short_flow job is was.route ends in
      let new = front_short (flow_of job was.route) (front_of (arrivals job was.route) (round_in work) was.new) was.handled was.came in
      let long = was.came.long in
      let all = works_long (is_frozen job stone (round_in work)) (before ++ was.new) was.done was.kept was.works in
      omega (
        arith,
        length-append before was.new,
        length-map was.new item,
        length-append (flow_from 0 (take (round_in work) (arrivals job was.route))) (map item was.new),
      )

  short_outlet : (position : ℕ) (outlet : Outlet) → slice_get work.outlets position ≡ Some outlet → outlet.lined + 1 < 2 ^ 32
  short_outlet position outlet at =
      let here = was.sent position outlet at in
      let flow = short_flow job is here.longer (ends_longer job was.route ends position here.longer here.goes_on) in
      let lined = front_short (flow_of job here.longer) _ outlet.lined here.lined in
      omega arith

  pub has_room : HasRoom work
  has_room =
      let act = act_of job in
      let stone = last_stone was.route in
      let passed = sum_short (λ (c : Carried). one_passed (outcome_of act stone c)) (λ c. one_or_none (outcome_of act stone c)) was.done in
      let dropped' = sum_short (λ (c : Carried). one_dropped (outcome_of act stone c)) (λ c. drop_or_none (outcome_of act stone c))
      was.done in
      let all = few in
      let kept = same_length (IsReceived job.formats) work.kept was.kept was.stored in
      record {
        passed = let e = was.running.passed in omega arith;
        dropped = let e = was.running.dropped in omega arith;
        kept = omega arith;
        outlets = each_by_place (λ (outlet : Outlet). outlet.lined + 1 < 2 ^ 32) work.outlets short_outlet;
      }
