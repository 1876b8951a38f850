use Rattle.std.proofs.Common.{◌≡◌, length, drop}
use Rattle.evp_format.specs.Drafts.{counted_fields}
use Rattle.evp_format.proofs.CountedFields.{behind}
use Rattle.evp_format.proofs.whole_type.counted_fields.Given as goal

abbrev pub invariant-loop-k : goal.invariant-loop-k
invariant-loop-k l = record {
  rest : behind l.fields.items (counted_fields l.type_number l.k l.drafts (drop l.k l.drafts))
      ≡ counted_fields l.type_number 0 l.drafts l.drafts;
  number : length l.fields.items ≡ l.k;
}
