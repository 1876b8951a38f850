use Rattle.std.proofs.Common.{◌≡◌, take}
use Rattle.evp_format.proofs.format.copied_types.Given as goal

abbrev pub invariant-loop-record_type : goal.invariant-loop-record_type
invariant-loop-record_type l = l.copied.items ≡ take l.record_type-index l.types
