-- What a stone's action did with a record, settled on its route, is an act of the stone.
use Rattle.std.proofs.Common.{◌≡◌, ℕ, ◌+◌, List, [], ◌∷◌, ◌++◌, refl, sym, ap, subst, ◌∙◌}
use Rattle.std.specs.Arc.{arc_value}
use Rattle.std.specs.List.{slice_get}
use Rattle.std.specs.Prelude.{Option, Some}
use Rattle.std.specs.declared.sync.Arc.{Arc}
use Rattle.std.specs.declared.alloc.Global.{Global}
use Rattle.evp_action.specs.Asking.{Keeps, Asks, BuildsFor, pairs_of}
use Rattle.evp_action.specs.Performed.{HasValue}
use Rattle.evp_action.specs.declared.acted.Acted.{Acted}
use Rattle.evp_action.specs.declared.acted.Acted.TheVariants.{Sent, Dropped, Arrived, Refused}
use Rattle.evp_cache.specs.Known.{Cells, Known}
use Rattle.evp_format.specs.Datum.{Datum}
use Rattle.evp_format.specs.Layout.{Layout}
use Rattle.evp_record.specs.OwnedBytes.{OwnedBytes}
use Rattle.evp_stone.specs.declared.entry.Entry.{Entry}
use Rattle.evp_stone.specs.declared.stone.Stone.{Stone}
use Rattle.evp_stone.specs.Acted.{Performs, Learns, IsActedOn}
use Rattle.evp_stone.specs.Actor.{pairs_by}
use Rattle.evp_stone.specs.Carried.{Carried, become}
use Rattle.evp_stone.specs.Entries.{IsThat}
use Rattle.evp_stone.specs.JobShape.{JobShape}
use Rattle.evp_stone.specs.Lining.{lengthened}
use Rattle.evp_stone.specs.Settling.{Settled}
use Rattle.evp_stone.specs.State.{RouteWork}
use Rattle.evp_stone.specs.Working.{goes_by}
use Rattle.evp_stone.proofs.Outcomes.{was_sent, was_dropped, was_received, was_refused}

-- a record stands for itself with the value that it has
its_own : (formats : List Layout) (owned : OwnedBytes) (c : Carried) (value : Datum) → HasValue formats owned value
    → IsThat formats owned (become c owned.format value)
its_own formats owned c value has = record { layout = has.layout; format = refl; there = has.there; viewed = has.viewed }

module _ (job : JobShape) (stone : ℕ) (here new : RouteWork) (waiting : List Entry) (index : ℕ) (owned : Arc OwnedBytes Global) where
  pub settled : (acted : Acted) → Performs job stone (arc_value owned) acted → Settled index acted here new waiting
      → IsActedOn job stone here new (index, owned) waiting
  settled (Sent to made) performs done = record {
    outlets = lengthened (goes_by to) 0 here.outlets;
    running = record here.running { passed = here.running.passed + 1 };
    acts = λ c that.
        let come = performs c that.1 in
        was_sent job stone here waiting c index (arc_value made) to (arc_value made).format come.value come.is that.0
        (its_own job.formats (arc_value made) c come.value come.has) done.0;
    is = done.1;
  }
  settled Dropped performs done = record {
    outlets = here.outlets;
    running = record here.running { dropped = here.running.dropped + 1 };
    acts = λ c that. was_dropped job stone here waiting c (performs c that.1) done.0;
    is = done.1;
  }
  settled (Arrived made) performs done = record {
    outlets = here.outlets;
    running = record here.running { passed = here.running.passed + 1; arrived = here.running.arrived ++ (index, made) ∷ [] };
    acts = λ c that.
        let come = performs c that.1 in
        was_received job stone here waiting c index made (arc_value made).format come.value come.is that.0
        (its_own job.formats (arc_value made) c come.value come.has) done.0;
    is = done.1;
  }
  settled (Refused reason) performs done = record {
    outlets = here.outlets;
    running = record here.running { refused = here.running.refused ++ (index, reason) ∷ [] };
    acts = λ c that. was_refused job stone here waiting c index reason (performs c that.1) that.0 done.0;
    is = done.1;
  }

-- what the pass learns where it is asked for the pairs of the action of a stone of the job
pub learned : (job : JobShape) (number : ℕ) (its : Stone) (owned : OwnedBytes) (cells : Cells) (spare : ℕ) (old new : List Known)
    (before after : ℕ) → slice_get job.stones number ≡ Some its → (formats : List Layout) → formats ≡ job.formats
    → Keeps cells formats old new
    → ((value : Datum) → HasValue formats owned value → Asks (pairs_of formats job.limit its.action owned.format value) old new)
    → BuildsFor spare old new before after
    → Learns job cells number owned spare old new before after
learned job number its owned cells spare old new before after there formats same keeps asks builds = record {
  keeps = subst (λ (f : List Layout). Keeps cells f old new) same keeps;
  asks = λ c that.
      let value : HasValue formats owned c.value =
      subst (λ (f : List Layout). HasValue f owned c.value) (sym same)
      (record { layout = that.layout; there = that.there; viewed = that.viewed }) in
      let pairs : pairs_of formats job.limit its.action owned.format c.value ≡ pairs_by job (slice_get job.stones number) c =
      ap (λ (f : List Layout). pairs_of f job.limit its.action owned.format c.value) same
      ∙ ap (λ (n : ℕ). pairs_of job.formats job.limit its.action n c.value) that.format
      ∙ ap (λ (s : Option Stone). pairs_by job s c) (sym there) in
      subst (λ (l : List (ℕ × ℕ)). Asks l old new) pairs (asks c.value value);
  builds = builds;
}
