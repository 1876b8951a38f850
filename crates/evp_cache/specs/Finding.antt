-- What is found for a pair of formats.
use Rattle.std.specs.Prelude.{◌≡◌, Option, Some}
use Rattle.evp_format.specs.Clashing.{clash}
use Rattle.evp_format.specs.Layout.{Layout}
use Rattle.evp_plan.specs.Planned.{StandsFor}
use Rattle.evp_cache.specs.declared.found.Found.{Found}
use Rattle.evp_cache.specs.declared.found.Found.TheVariants.{Plan, Clash}

-- a plan that stands for the two formats, or the path at which they clash
abbrev pub IsFound : Layout → Layout → Found → Type 0
IsFound from to (Plan plan) = StandsFor plan from to
IsFound from to (Clash path) = clash from to ≡ Some path

-- two formats, and what was found for them
pub record Finding : Type 0 where
  pub from : Layout
  pub to : Layout
  pub found : Found

-- what is kept is there, and right for these formats
pub record IsOf (from to : Layout) (kept : Option Finding) : Type 0 where
  pub finding : Finding
  pub there : kept ≡ Some finding
  pub right : IsFound from to finding.found
