-- A stone with an entry in hand: what a turn wants to know to deal with it.
use Rattle.std.proofs.Common.{◌≡◌, ℕ, ◌<◌, List, [], ◌∷◌, ◌++◌, Some, length}
use Rattle.std.proofs.Common.{refl}
use Rattle.std.specs.List.{slice_get, AllZip, AllByRecursion}
use Rattle.std.specs.Arc.{arc_value}
use Rattle.evp_cache.specs.Known.{Cells, Known, IsCacheOf, IsPassOf}
use Rattle.evp_format.specs.Layout.{Layout}
use Rattle.evp_record.specs.Owned.{HasValueIn}
use Rattle.evp_record.specs.OwnedBytes.{OwnedBytes}
use Rattle.evp_stone.specs.declared.entry.Entry.{Entry}
use Rattle.evp_stone.specs.declared.entry.Entry.TheVariants.{Item, Mark}
use Rattle.evp_stone.specs.Carried.{Carried}
use Rattle.evp_stone.specs.Dealing.{HasValue, HasEntryValue, CanDeal}
use Rattle.evp_stone.specs.Entries.{IsThat, StandsForPart, route_of}
use Rattle.evp_stone.specs.Flow.{Part, item, mark}
use Rattle.evp_stone.specs.Job.{IsJob}
use Rattle.evp_stone.specs.JobShape.{JobShape}
use Rattle.evp_stone.specs.Port.{Counting}
use Rattle.evp_stone.specs.State.{Received, RouteWork, StoneWork, HasWorked, HasState, round_in}
use Rattle.evp_stone.specs.Tallied.{IsReceived}
use Rattle.evp_stone.proofs.JobFacts.{round_below}
use Rattle.evp_stone.proofs.LastStones.{works_below}
use Rattle.evp_stone.proofs.Room.{has_room}
use Rattle.evp_stone.proofs.Turns.{was, ends, stands, later_of}

that_has_value : (formats : List Layout) (owned : OwnedBytes) (c : Carried) → IsThat formats owned c → HasValueIn formats owned
that_has_value formats owned c that = record {
  layout = that.layout;
  there = that.there;
  viewed = rw that.viewed refl;
}

kept_have_values : (job : JobShape) (kept : List Received) (records : List Carried) → AllZip (IsReceived job.formats) kept records
    → AllByRecursion (HasValue job) kept
kept_have_values job [] [] are = tt
kept_have_values job [] (c ∷ records) are = absurd are
kept_have_values job (received ∷ kept) [] are = absurd are
kept_have_values job (received ∷ kept) (c ∷ records) are =
    (that_has_value job.formats (arc_value received.1) c are.0.1, kept_have_values job kept records are.1)

entry_has_value : (job : JobShape) (entry : Entry) (part : Part) → StandsForPart job.formats entry part → HasEntryValue job entry
entry_has_value job (Item route position index owned) (item c) that = that_has_value job.formats (arc_value owned) c that.1
entry_has_value job (Item route position index owned) (mark round) that = absurd that
entry_has_value job (Mark route position round) part that = tt

module _ (job : JobShape) (is_job : IsJob job) (taken given : Counting) (old : StoneWork) (state : HasState job taken given old)
    (none : old.waiting ≡ []) (entry : Entry) (in_it : old.hand ≡ Some entry) (place : ℕ) (here : RouteWork)
    (at : slice_get old.routes place ≡ Some here) (on : route_of entry ≡ here.route) where
  abbrev here_was : HasWorked job taken given (Some entry) [] here
  here_was = was job is_job taken given old state none entry in_it place here at on

  -- the entry and the records that are kept on its route can be dealt with
  pub can_deal : (cells : Cells) (known : List Known) → IsCacheOf cells job.formats → cells.declared ≡ job.declared
      → IsPassOf cells job.formats known → CanDeal job cells known old.stone here entry
  can_deal cells known cache declared pass =
      let part = stands job is_job taken given old state none entry in_it place here at on in
      record {
        cache = cache;
        declared = declared;
        pass = pass;
        below = works_below job is_job taken given old state place here at;
        room = has_room job is_job taken given (Some entry) [] here here_was;
        kept = kept_have_values job here.kept here_was.kept here_was.stored;
        value = entry_has_value job entry part.part part.stands;
      }

  -- the round in which the stone is on the route is one of the job's
  pub round_to_come : round_in here < length job.rounds
  round_to_come =
      let later = later_of job is_job taken given old state none entry in_it place here at on entry refl in
      round_below job here_was.route (ends job is_job taken given old state none entry in_it place here at on) (round_in here)
      (here_was.new ++ later.0) later.1
