-- A plan for two formats is one for records of the first.
use Rattle.std.proofs.Common.{◌≡◌, sym, subst}
use Rattle.evp_format.specs.Layout.{Layout}
use Rattle.evp_plan.specs.Planned.{Planned, StandsFor, IsPlanFrom}

pub plan_from : (plan : Planned) (from to layout : Layout) → StandsFor plan from to → layout ≡ from → IsPlanFrom plan layout
plan_from plan from to layout stands same =
    record { to = to; stands = subst (λ (l : Layout). StandsFor plan l to) (sym same) stands }
