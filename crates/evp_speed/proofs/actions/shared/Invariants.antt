use Rattle.std.proofs.Common.{All}
use Rattle.std.specs.Arc.{arc_value}
use Rattle.evp_record.specs.Owned.{HasValueIn}
use Rattle.evp_speed.proofs.actions.shared.Given as goal

-- each record so far has a value
abbrev pub invariant-loop-bytes : goal.invariant-loop-bytes
invariant-loop-bytes l = All (λ item. HasValueIn l.formats (arc_value item)) l.items.items
