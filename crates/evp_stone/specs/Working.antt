-- What the parts of a stone's actor are seen as.
use Rattle.std.specs.Prelude.{ℕ, Bool, List, map}
use Rattle.std.specs.Arc.{arc_value}
use Rattle.evp_action.specs.declared.acted.To.{To}
use Rattle.evp_stone.specs.Carried.{goes_to}
use Rattle.evp_stone.specs.Lining as lining
use Rattle.evp_stone.specs.State as state
use Rattle.evp_stone.specs.declared.outlet.Outlet.{Outlet}
use Rattle.evp_stone.specs.declared.outlet.Sending.{Sending}
use Rattle.evp_stone.specs.declared.outlet.Sending.TheVariants.{Item, End}

abbrev pub outlet_of : Outlet → state.Outlet
outlet_of outlet = record { route = outlet.route; lined = outlet.lined }

abbrev pub outlets_of : List Outlet → List state.Outlet
outlets_of outlets = map outlet_of outlets

abbrev pub sending_of : Sending → lining.Sending
sending_of (Item index owned) = lining.a_record index (arc_value owned)
sending_of (End round) = lining.an_end round

-- whether something that is sent so goes to the target at a position
abbrev pub goes_by : To → ℕ → Bool
goes_by to position = goes_to position to
