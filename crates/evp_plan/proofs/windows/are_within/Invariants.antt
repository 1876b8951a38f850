use Rattle.std.proofs.Common.{◌≡◌, drop}
use Rattle.evp_wide.specs.Masks.{are_within}
use Rattle.evp_plan.proofs.windows.are_within.Given as goal

abbrev pub invariant-loop-place : goal.invariant-loop-place
invariant-loop-place l = are_within 16 (drop l.place-index l.places) ≡ are_within 16 l.places
