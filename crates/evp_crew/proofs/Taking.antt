-- A port's counts after an entry was taken, or there was none.
use Rattle.std.proofs.Common.{◌≡◌, ℕ, Option, Some, None, sym, ap, subst, ◌∙◌}
use Rattle.std.specs.Prelude.{IfSome, IfNone}
use Rattle.std.specs.List.{slice_get}
use Rattle.crossbeam_queue.specs.Fifo.{Held}
use Rattle.evp_queue.specs.Counts.{count_at}
use Rattle.evp_queue.specs.Passes.{taker_of, TakesFrom, counted}
use Rattle.evp_queue.specs.Rule.{one_more, IsNext, Seen}
use Rattle.evp_queue.specs.declared.pass.TakePass.{TakePass}
use Rattle.evp_queue.specs.declared.progress.Progress.{Progress}
use Rattle.evp_queue.specs.declared.queue.StoneQueue.{StoneQueue}
use Rattle.evp_queue.proofs.Counts.{raised_here, raised_elsewhere}
use Rattle.evp_stone.specs.declared.entry.Entry.{Entry}
use Rattle.evp_stone.specs.Entries.{flow, stands_for, route_of, position_of}
use Rattle.evp_stone.specs.JobShape.{JobShape}
use Rattle.evp_stone.specs.Port.{IsPlacedIn, Taken}
use Rattle.evp_crew.specs.declared.crew.Crew.{Crew}
use Rattle.evp_crew.specs.declared.passes.Taker.{Taker}
use Rattle.evp_crew.specs.Passes.{taken_by, TakesIn}

abbrev Pass : Type 0
Pass = TakePass Entry JobShape

abbrev IsComing : Pass → Entry → Type 0
IsComing old entry = IsNext route_of position_of flow stands_for (taker_of old) entry

-- there was nothing to take
abbrev IsEmpty : Pass → Pass → Type 0
IsEmpty old new =
    (taker_of new ≡ taker_of old) × (new.empties ≡ counted old.empties)
    × Held 0 (Seen route_of position_of flow stands_for (taker_of old))

some_same : (a b : JobShape) → Some a ≡ Some b → a ≡ b
some_same a b same = cc

module _ (job : JobShape) (stone : ℕ) (old new : Pass) where
  abbrev taker : Pass → Option Taker
  taker pass = Some record { stone = stone; pass = pass }

  taken_one : (taker_of old).whole ≡ Some job → (entry : Entry) → IsComing old entry
      → taker_of new ≡ one_more (route_of entry) (taker_of old)
      → Taken (λ j. j ≡ job) (taken_by (taker old)) (taken_by (taker new)) entry
  taken_one whole entry next is =
      let of : next.1.0 ≡ job = some_same next.1.0 job (sym next.1.1 ∙ whole) in
      record {
        one = record {
          was = next.0;
          here = ap (λ (p : Progress JobShape). count_at (route_of entry) p.counts) is
              ∙ raised_here (route_of entry) (position_of entry) (taker_of old).counts next.0;
          others = λ route apart. ap (λ (p : Progress JobShape). count_at route p.counts) is
              ∙ raised_elsewhere (route_of entry) route (taker_of old).counts apart;
        };
        placed = λ j same. subst (λ (x : JobShape). IsPlacedIn x entry) (of ∙ sym same) next.1.2;
      }

  pub is_taken : (taker_of old).whole ≡ Some job → (result : Option Entry)
      → IfSome result (λ entry. IsComing old entry × (taker_of new ≡ one_more (route_of entry) (taker_of old))
      × (new.empties ≡ old.empties))
      → IfSome result (Taken (λ j. j ≡ job) (taken_by (taker old)) (taken_by (taker new)))
  is_taken whole None took = tt
  is_taken whole (Some entry) took = taken_one whole entry took.0 took.1

  -- the pass stays one for the same flows
  whole_stays : (result : Option Entry)
      → IfSome result (λ entry. IsComing old entry × (taker_of new ≡ one_more (route_of entry) (taker_of old))
      × (new.empties ≡ old.empties))
      → IfNone result (IsEmpty old new) → (taker_of new).whole ≡ (taker_of old).whole
  whole_stays None took none = ap (λ (p : Progress JobShape). p.whole) none.0
  whole_stays (Some entry) took none = ap (λ (p : Progress JobShape). p.whole) took.1

  pub takes_still : (crew : Crew) (queue : StoneQueue Entry JobShape) → slice_get crew.queues.items stone ≡ Some queue
      → TakesFrom queue new → (taker_of old).whole ≡ Some job → (result : Option Entry)
      → IfSome result (λ entry. IsComing old entry × (taker_of new ≡ one_more (route_of entry) (taker_of old))
      × (new.empties ≡ old.empties))
      → IfNone result (IsEmpty old new) → (t : Taker) → taker new ≡ Some t → TakesIn crew job t
  takes_still crew queue there takes whole result took none t is =
      subst (TakesIn crew job) (one_taker record { stone = stone; pass = new } t is) record {
        queue = queue;
        there = there;
        takes = takes;
        whole = whole_stays result took none ∙ whole;
      }
    where
      one_taker : (a b : Taker) → Some a ≡ Some b → a ≡ b
      one_taker a b same = cc
