-- What a port of a crew is, and what one of its givers does.
use Rattle.std.specs.Prelude.{◌≡◌, Some, MatchResult, Result}
use Rattle.evp_queue.specs.Passes.{giver_of, GivesTo, counted}
use Rattle.evp_queue.specs.Rule.{one_more, IsNext}
use Rattle.evp_queue.specs.declared.pass.GivePass.{GivePass}
use Rattle.evp_queue.specs.declared.pass.Given.{Given}
use Rattle.evp_queue.specs.declared.pass.Given.TheVariants.{Full}
use Rattle.evp_queue.specs.declared.queue.StoneQueue.{StoneQueue}
use Rattle.evp_stone.specs.declared.entry.Entry.{Entry}
use Rattle.evp_stone.specs.Entries.{flow, stands_for, route_of, position_of}
use Rattle.evp_stone.specs.JobShape.{JobShape}
use Rattle.evp_crew.specs.declared.crew.Crew.{Crew}
use Rattle.evp_crew.specs.declared.passes.Passes.{Passes}
use Rattle.evp_crew.specs.Passes.{Giver}

-- an actor's passes at the queues of a crew
pub record PortShape : Type 0 where
  pub crew : Crew
  pub job : JobShape
  pub passes : Passes

-- it is a pass of the queue, and the entry is its next
pub record CanGive (queue : StoneQueue Entry JobShape) (giver : Giver) (entry : Entry) : Type 0
  where
    pub pass : GivePass Entry JobShape
    pub there : giver ≡ Some pass
    pub gives : GivesTo queue pass
    pub next : IsNext route_of position_of flow stands_for (giver_of pass) entry

-- the pass gave the entry, or the queue was full and the entry is handed back
pub record GaveBy {A : Type 0} (queue : StoneQueue Entry JobShape)
    (old new : GivePass Entry JobShape) (entry : Entry) (result : Result A (Given Entry))
    : Type 0 where
  pub gives : GivesTo queue new
  pub answer : MatchResult result
      (λ _. (giver_of new ≡ one_more (route_of entry) (giver_of old)) × (new.fulls ≡ old.fulls))
      (λ back. (back ≡ Full entry) × (giver_of new ≡ giver_of old)
      × (new.fulls ≡ counted old.fulls))
