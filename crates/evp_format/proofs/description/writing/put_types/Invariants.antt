use Rattle.std.proofs.Common.{◌≡◌, ◌++◌, drop}
use Rattle.evp_format.specs.Describing.{described_types}
use Rattle.evp_format.proofs.description.writing.put_types.Given as goal

abbrev pub invariant-loop-record_type : goal.invariant-loop-record_type
invariant-loop-record_type l =
    l.out.items ++ described_types l.stated l.types (drop l.record_type-index l.types) ≡ l.fn.out.items
    ++ described_types l.stated l.types l.types
