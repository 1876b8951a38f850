-- The record on which a stone with an entry in hand acts next is one on which it acts by its job's rounds.
use Rattle.std.proofs.Common.{◌≡◌, ℕ, false, List, [], ◌∷◌, Some, refl, subst}
use Rattle.std.specs.Arc.{arc_value}
use Rattle.std.specs.List.{slice_get, AllZip}
use Rattle.std.specs.declared.sync.Arc.{Arc}
use Rattle.std.specs.declared.alloc.Global.{Global}
use Rattle.evp_record.specs.OwnedBytes.{OwnedBytes}
use Rattle.evp_stone.specs.declared.entry.Entry.{Entry}
use Rattle.evp_stone.specs.declared.entry.Entry.TheVariants.{Item}
use Rattle.evp_stone.specs.Accounts.{rounds_of}
use Rattle.evp_stone.specs.Carried.{Carried}
use Rattle.evp_stone.specs.Entries.{IsThat, route_of}
use Rattle.evp_stone.specs.Job.{IsJob}
use Rattle.evp_stone.specs.JobShape.{JobShape}
use Rattle.evp_stone.specs.Port.{Counting}
use Rattle.evp_stone.specs.State.{Received, RouteWork, StoneWork, HasWorked, HasState, is_frozen, round_in}
use Rattle.evp_stone.specs.Tallied.{IsReceived}
use Rattle.evp_stone.proofs.ActStep.{KeptFirst, kept_first, next_of_kept, next_of_new, none_stored}
use Rattle.evp_stone.proofs.Converting.{ActsIn, acts_in}
use Rattle.evp_stone.proofs.Routes.{HasEnds}
use Rattle.evp_stone.proofs.Turns.{was, ends, its, frozen_is, holds_of, later_of}
use Rattle.evp_stone.proofs.Works.{ActsNext}

-- the record stands for one on which the stone acts
pub record IsDue (job : JobShape) (stone : ℕ) (owned : OwnedBytes) : Type 0 where
  pub c : Carried
  pub that : IsThat job.formats owned c
  pub acts : ActsIn job stone c

module _ (job : JobShape) (is_job : IsJob job) (taken given : Counting) (old : StoneWork) (state : HasState job taken given old)
    (none : old.waiting ≡ []) (entry : Entry) (in_it : old.hand ≡ Some entry) (place : ℕ) (here : RouteWork)
    (at : slice_get old.routes place ≡ Some here) (on : route_of entry ≡ here.route)
    (thawed : is_frozen job old.stone (round_in here) ≡ false) where
  abbrev work : HasWorked job taken given (Some entry) [] here
  work = was job is_job taken given old state none entry in_it place here at on

  abbrev its_ends : HasEnds work.route
  its_ends = ends job is_job taken given old state none entry in_it place here at on

  due_next : (owned : OwnedBytes) (c : Carried) → IsThat job.formats owned c
      → ActsNext (rounds_of job work.route) (round_in here) work.done c
      → IsDue job old.stone owned
  due_next owned c that next = record {
    c = c;
    that = that;
    acts = record {
      number = here.route;
      route = work.route;
      there = work.there;
      last = its job is_job taken given old state none entry in_it place here at on;
      acted = acts_in job work.route (round_in here) work.done c next;
    };
  }

  -- the first record that it keeps
  pub kept_due : (received : Received) (rest : List Received) → here.kept ≡ received ∷ rest → IsDue job old.stone (arc_value received.1)
  kept_due received rest kept =
      let first : KeptFirst job received rest work.kept =
      kept_first job received rest work.kept (subst (λ (l : List Received). AllZip (IsReceived job.formats) l work.kept) kept
      work.stored) in
      let later = later_of job is_job taken given old state none entry in_it place here at on entry refl in
      due_next (arc_value received.1) first.c first.that.1
      (next_of_kept job taken given (Some entry) here work its_ends first.c first.others later.0 first.is
      (frozen_is job is_job taken given old state none entry in_it place here at on false thawed) later.1)

  -- where it keeps none, the record in hand
  pub hand_due : (number position index : ℕ) (owned : Arc OwnedBytes Global) → entry ≡ Item number position index owned → here.kept ≡ []
      → IsDue job old.stone (arc_value owned)
  hand_due number position index owned is kept =
      let holds = holds_of job is_job taken given old state none entry in_it place here at on number position index owned is in
      due_next (arc_value owned) holds.c holds.that
      (next_of_new job taken given (Some entry) here work its_ends holds.c holds.later
      (none_stored (IsReceived job.formats) work.kept (subst (λ (l : List Received). AllZip (IsReceived job.formats) l work.kept) kept
      work.stored))
      (frozen_is job is_job taken given old state none entry in_it place here at on false thawed) holds.there)
