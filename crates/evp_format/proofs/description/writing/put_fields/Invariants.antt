use Rattle.std.proofs.Common.{◌≡◌, ◌++◌, drop}
use Rattle.evp_format.specs.Describing.{described_fields}
use Rattle.evp_format.proofs.description.writing.put_fields.Given as goal

abbrev pub invariant-loop-field : goal.invariant-loop-field
invariant-loop-field l =
    l.out.items ++ described_fields l.stated l.types l.fields (drop l.field-index l.fields) ≡ l.fn.out.items
    ++ described_fields l.stated l.types l.fields l.fields
