use Rattle.std.proofs.Common.{◌≡◌, drop}
use Rattle.evp_plan.specs.Building.{field_named}
use Rattle.evp_plan.proofs.matching.field_named.Given as goal

abbrev pub invariant-loop-field : goal.invariant-loop-field
invariant-loop-field l = field_named l.name (drop l.field-index l.fields) ≡ field_named l.name l.fields
