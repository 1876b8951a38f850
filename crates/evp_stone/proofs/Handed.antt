-- The accounts of a stone's routes are those of its routes, one by one.
use Rattle.std.proofs.Common.{List, [], ◌∷◌, map, refl}
use Rattle.std.specs.List.{AllZip}
use Rattle.evp_stone.specs.declared.route_work.RouteWork.{RouteWork}
use Rattle.evp_stone.specs.Closing.{account_of}
use Rattle.evp_stone.specs.Settling.{work_of}
use Rattle.evp_stone.proofs.EndStep.{account_for}

pub accounts_for : (works : List RouteWork) → AllZip account_for (map work_of works) (map account_of works)
accounts_for [] = tt
accounts_for (work ∷ works) = ((refl, refl), accounts_for works)
