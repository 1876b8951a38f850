-- Why a plan wasn't built.
use Rattle.std.specs.Prelude.{◌≡◌, Some, ⊤}
use Rattle.evp_format.specs.Clashing.{clash}
use Rattle.evp_format.specs.Layout.{Layout}
use Rattle.evp_plan.specs.declared.build_fault.BuildFault.{BuildFault}
use Rattle.evp_plan.specs.declared.build_fault.BuildFault.TheVariants.{Clash, Memory}

-- the two formats clash at that path, or memory ran out
abbrev pub IsBuildFault : Layout → Layout → BuildFault → Type 0
IsBuildFault from to (Clash path) = clash from to ≡ Some path
IsBuildFault from to Memory = ⊤
