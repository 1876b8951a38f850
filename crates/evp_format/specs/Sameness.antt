-- When two places in a record, and two faults of a record, are the same.
use Rattle.std.specs.Prelude.{ℕ, Bool, false, ◌&&◌, ◌==◌, nat_eq, List, []}
use Rattle.std.specs.Cmp.Lexicographic.{pointwise}
use Rattle.evp_format.specs.declared.broken.Broken.{Broken}
use Rattle.evp_format.specs.declared.broken.Broken.TheVariants.{ShortRecord, NegativeCount}
use Rattle.evp_format.specs.declared.broken.Broken.TheVariants.{NullList, BlockPlace, NoEnd}
use Rattle.evp_format.specs.declared.place.PlaceStep.{PlaceStep}
use Rattle.evp_format.specs.declared.place.PlaceStep.TheVariants.{At, Nth}

abbrev pub step_eq : PlaceStep → PlaceStep → Bool
step_eq (At k) (At other) = k == other
step_eq (Nth k) (Nth other) = k == other
step_eq (At k) (Nth other) = false
step_eq (Nth k) (At other) = false

abbrev pub steps_eq : List PlaceStep → List PlaceStep → Bool
steps_eq = pointwise step_eq

-- the kinds of faults, numbered
abbrev pub fault_kind : Broken → ℕ
fault_kind ShortRecord = 0
fault_kind (NegativeCount place) = 1
fault_kind (NullList place) = 2
fault_kind (BlockPlace place) = 3
fault_kind (NoEnd place) = 4

-- where a fault is: a record that is too short is at fault itself
abbrev pub fault_place : Broken → List PlaceStep
fault_place ShortRecord = []
fault_place (NegativeCount place) = place
fault_place (NullList place) = place
fault_place (BlockPlace place) = place
fault_place (NoEnd place) = place

abbrev pub broken_eq : Broken → Broken → Bool
broken_eq fault other = nat_eq (fault_kind fault) (fault_kind other)
    && steps_eq (fault_place fault) (fault_place other)
