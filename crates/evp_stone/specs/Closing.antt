-- The account of a stone, from what it did on its routes.
use Rattle.std.specs.Prelude.{◌≡◌, ◌≤◌, [], vec_len, vec_capacity}
use Rattle.evp_stone.specs.declared.account.RouteAccount.{RouteAccount}
use Rattle.evp_stone.specs.declared.route_work.RouteWork.{RouteWork}
use Rattle.evp_stone.specs.declared.worker.Worker.{Worker}

-- the account of a route
abbrev pub account_of : RouteWork → RouteAccount
account_of work = record { route = work.route; rounds = work.ended }

-- there is room for an account of each route
pub record HasRoomFor (worker : Worker) : Type 0 where
  pub none : worker.room.items ≡ []
  pub enough : vec_len worker.routes ≤ vec_capacity worker.room
