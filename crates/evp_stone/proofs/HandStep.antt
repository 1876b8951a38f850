-- The entry in hand: which part of its flow it stands for.
use Rattle.std.proofs.Common.{◌≡◌, ℕ, zero, suc, ◌+◌, Bool, List, [], ◌∷◌, ◌++◌, map, Option, Some}
use Rattle.std.proofs.Common.{refl, sym, ap, subst, ◌∙◌, arith}
use Rattle.std.proofs.lemmas.Bool.{eq-eqb}
use Rattle.std.specs.Prelude.{if◌then◌else◌}
use Rattle.std.specs.List.{slice_get}
use Rattle.std.specs.Arc.{arc_value}
use Rattle.std.specs.declared.sync.Arc.{Arc}
use Rattle.std.specs.declared.alloc.Global.{Global}
use Rattle.evp_graph.specs.declared.route.Route.{Route}
use Rattle.evp_record.specs.OwnedBytes.{OwnedBytes}
use Rattle.evp_stone.specs.declared.entry.Entry.{Entry}
use Rattle.evp_stone.specs.declared.entry.Entry.TheVariants.{Item, Mark}
use Rattle.evp_stone.specs.Accounts.{arrivals, flow_of}
use Rattle.evp_stone.specs.Carried.{Carried}
use Rattle.evp_stone.specs.Entries.{Fact, IsThat, flow_at, StandsForPart, stands_for, route_of, position_of}
use Rattle.evp_stone.specs.Flow.{Part, item, mark}
use Rattle.evp_stone.specs.JobShape.{JobShape}
use Rattle.evp_stone.specs.Port.{Counting, IsPlacedIn}
use Rattle.evp_stone.specs.State.{RouteWork, HasWorked, in_hand, round_in}
use Rattle.evp_stone.proofs.Fronts.{Next, next_part}

-- the part of the flow for which an entry stands
pub record StandsAt (job : JobShape) (route : Route) (count : ℕ) (entry : Entry) : Type 0 where
  pub part : Part
  pub there : slice_get (flow_of job route) count ≡ Some part
  pub stands : StandsForPart job.formats entry part

mapped_at : (formats : List _) (parts : List Part) (count : ℕ) (fact : Fact)
    → slice_get (map (λ (p : Part). record { formats = formats; part = p }) parts) count ≡ Some fact
    → (part : Part) × (slice_get parts count ≡ Some part) × (fact ≡ record { formats = formats; part = part })
mapped_at formats [] count fact at = absurd (cc)
mapped_at formats (p ∷ parts) zero fact at =
    (p, refl, let is : record { formats = formats; part = p } ≡ fact = cc in sym is)
mapped_at formats (p ∷ parts) (suc count) fact at = mapped_at formats parts count fact at

pub stands_at : (job : JobShape) (route : Route) (entry : Entry) → slice_get job.routes (route_of entry) ≡ Some route
    → IsPlacedIn job entry → StandsAt job route (position_of entry) entry
stands_at job route entry there placed =
    let at = ap (λ (o : Option Route). slice_get (map (λ (p : Part). record { formats = job.formats; part = p }) (flow_at job o))
    (position_of entry)) (sym there) ∙ placed.1 in
    let found = mapped_at job.formats (flow_of job route) (position_of entry) placed.0 at in
    record { part = found.0; there = found.1; stands = subst (stands_for entry) found.2 placed.2 }

some_same : (a b : ℕ) → Some a ≡ Some b → a ≡ b
some_same a b same = cc

module _ (job : JobShape) (taken given : Counting) (waiting : List Entry) (work : RouteWork) (entry : Entry) where
  -- what the entry in hand stands for is behind what was dealt with
  pub held_part : (was : HasWorked job taken given (Some entry) waiting work) → route_of entry ≡ work.route
      → taken (route_of entry) ≡ Some (position_of entry + 1) → IsPlacedIn job entry
      → StandsAt job was.route was.handled entry
  held_part was on count placed =
      let one : in_hand work.route (Some entry) ≡ 1 = ap (λ (b : Bool). if b then 1 else 0) (eq-eqb (route_of entry) work.route on) in
      let counts = some_same (was.handled + in_hand work.route (Some entry)) (position_of entry + 1)
      (sym was.count ∙ ap taken (sym on) ∙ count) in
      let at : position_of entry ≡ was.handled = omega arith in
      subst (λ (n : ℕ). StandsAt job was.route n entry) at
      (stands_at job was.route entry (ap (slice_get job.routes) on ∙ was.there) placed)

  pub held_next : (was : HasWorked job taken given (Some entry) waiting work)
      → (stands : StandsAt job was.route was.handled entry)
      → Next (arrivals job was.route) 0 (round_in work) was.new stands.part
  held_next was stands = next_part (arrivals job was.route) was.handled (round_in work) was.new stands.part was.came stands.there

-- an item is a record of the round
pub record HoldsItem (job : JobShape) (route : Route) (round count : ℕ) (new : List Carried) (index : ℕ)
    (owned : Arc OwnedBytes Global) : Type 0 where
  pub c : Carried
  pub later : List Carried
  pub index_is : index ≡ c.index
  pub that : IsThat job.formats (arc_value owned) c
  pub there : slice_get (arrivals job route) round ≡ Some (new ++ c ∷ later)

pub holds_item : (job : JobShape) (route : Route) (round count : ℕ) (new : List Carried) (number position index : ℕ)
    (owned : Arc OwnedBytes Global)
    (part : Part) → StandsForPart job.formats (Item number position index owned) part → Next (arrivals job route) 0 round new part
    → HoldsItem job route round count new index owned
holds_item job route round count new number position index owned (item c) stands next =
    record { c = c; later = next.later; index_is = stands.0; that = stands.1; there = next.there }
holds_item job route round count new number position index owned (mark ended) stands next = absurd stands

-- a mark is the end of the round
pub record HoldsMark (job : JobShape) (route : Route) (round : ℕ) (new : List Carried) (ended : ℕ) : Type 0 where
  pub is : ended ≡ round
  pub there : slice_get (arrivals job route) round ≡ Some new

pub holds_mark : (job : JobShape) (route : Route) (round : ℕ) (new : List Carried) (number position ended : ℕ)
    (part : Part) → StandsForPart job.formats (Mark number position ended) part → Next (arrivals job route) 0 round new part
    → HoldsMark job route round new ended
holds_mark job route round new number position ended (item c) stands next = absurd stands
holds_mark job route round new number position ended (mark n) stands next =
    record { is = stands ∙ next.0 ∙ omega arith; there = next.1.there }
