-- What came of a record, settled on its route.
use Rattle.std.specs.Prelude.{◌≡◌, ℕ, ◌+◌, ◌^◌, ◌<◌, List, [], ◌∷◌, ◌++◌, length}
use Rattle.std.specs.Arc.{arc_value}
use Rattle.std.specs.List.{AllByRecursion}
use Rattle.evp_action.specs.declared.acted.Acted.{Acted}
use Rattle.evp_action.specs.declared.acted.Acted.TheVariants.{Sent, Dropped, Arrived, Refused}
use Rattle.evp_stone.specs.declared.account.RoundAccount.{RoundAccount}
use Rattle.evp_stone.specs.declared.entry.Entry.{Entry}
use Rattle.evp_stone.specs.declared.route_work.RouteWork as declared
use Rattle.evp_stone.specs.Lining.{a_record, an_end, IsOf, AreLined, lengthened}
use Rattle.evp_stone.specs.State.{Running, RouteWork}
use Rattle.evp_stone.specs.Turning.{Closes, acted_on, everywhere, round_ended}
use Rattle.evp_stone.specs.Working.{outlets_of, goes_by}

abbrev pub running_of : RoundAccount → Running
running_of account = record {
  passed = account.passed;
  dropped = account.dropped;
  refused = account.refused.items;
  arrived = account.arrived.items;
}

-- what a stone does on a route
abbrev pub work_of : declared.RouteWork → RouteWork
work_of work = record {
  route = work.route;
  outlets = outlets_of work.outlets.items;
  kept = work.kept.items;
  ended = work.ended.items;
  running = running_of work.running;
}

-- there is room to count one record more
pub record HasRoom (work : RouteWork) : Type 0 where
  pub passed : work.running.passed + 1 < 2 ^ 32
  pub dropped : work.running.dropped + 1 < 2 ^ 32
  pub kept : length work.kept < 2 ^ 32
  pub outlets : AllByRecursion (λ outlet. outlet.lined + 1 < 2 ^ 32) work.outlets

-- the same with what is running, and no more at the outlets
abbrev pub counted : RouteWork → Running → RouteWork
counted here running = acted_on here here.outlets here.kept running

-- what the action did with the record of this index is counted, and waits to go out
abbrev pub Settled : ℕ → Acted → RouteWork → RouteWork → List Entry → Type 0
Settled index (Sent to owned) here new waiting =
    AreLined (IsOf (a_record index (arc_value owned))) (goes_by to) 0 here.outlets waiting
    × (new ≡ acted_on here (lengthened (goes_by to) 0 here.outlets) here.kept
    (record here.running { passed = here.running.passed + 1 }))
Settled index Dropped here new waiting =
    (waiting ≡ [])
    × (new ≡ counted here (record here.running { dropped = here.running.dropped + 1 }))
Settled index (Arrived owned) here new waiting =
    (waiting ≡ [])
    × (new ≡ counted here (record here.running {
      passed = here.running.passed + 1;
      arrived = here.running.arrived ++ (index, owned) ∷ [];
    }))
Settled index (Refused reason) here new waiting =
    (waiting ≡ [])
    × (new ≡ counted here (record here.running {
      refused = here.running.refused ++ (index, reason) ∷ [];
    }))

-- the round is ended, and its end waits to go out
pub record HasEnded (round : ℕ) (here new : RouteWork) (waiting : List Entry) : Type 0 where
  pub account : RoundAccount
  pub closes : Closes here.running (length here.kept) account
  pub is : new ≡ round_ended here account
  pub waits : AreLined (IsOf (an_end round)) everywhere 0 here.outlets waiting
