-- What a clause says of a queue and of its passes.
use Rattle.std.specs.Prelude.{◌≡◌, ℕ, ◌+◌, ◌-◌, ◌^◌, min, true, false}
use Rattle.crossbeam_queue.specs.Passes.{view, IsPassOf, ruled_capacity}
use Rattle.evp_queue.specs.Rule.{IsOpen}
use Rattle.evp_queue.specs.declared.progress.Progress.{Progress}
use Rattle.evp_queue.specs.declared.pass.GivePass.{GivePass}
use Rattle.evp_queue.specs.declared.pass.TakePass.{TakePass}
use Rattle.evp_queue.specs.declared.queue.StoneQueue.{StoneQueue}

module _ {E W : Type 0} where
  -- how many entries the queue holds at most
  abbrev pub capacity_of : StoneQueue E W → ℕ
  capacity_of queue = ruled_capacity queue.ring

  -- what a pass knows: of what the flows are, its routes and the count of each
  abbrev pub giver_of : GivePass E W → Progress W
  giver_of pass = view pass.pass

  abbrev pub taker_of : TakePass E W → Progress W
  taker_of pass = view pass.pass

  -- it is a give pass of this queue
  abbrev pub GivesTo : StoneQueue E W → GivePass E W → Type 0
  GivesTo queue pass = IsPassOf queue.ring pass.pass × IsOpen (giver_of pass)
      × ((giver_of pass).takes ≡ false)

  -- it is the take pass of this queue
  abbrev pub TakesFrom : StoneQueue E W → TakePass E W → Type 0
  TakesFrom queue pass = IsPassOf queue.ring pass.pass × IsOpen (taker_of pass)
      × ((taker_of pass).takes ≡ true)

-- the next value of a count, which stays at its last one
abbrev pub counted : ℕ → ℕ
counted count = min (count + 1) (2 ^ 64 - 1)
