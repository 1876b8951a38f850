use Rattle.std.proofs.Common.{◌≡◌, ◌≤◌, ◌+◌, ◌-◌, ◌*◌, [], length}
use Rattle.evp_format.specs.Reading.{types_at}
use Rattle.evp_format.specs.WellLaid.{all_fields}
use Rattle.evp_format.proofs.description.types.types_at.Given as goal

abbrev pub invariant-loop : goal.invariant-loop
invariant-loop l = record {
  rest : types_at (l.count - l.counter) l.stated l.pointer l.types.types l.bytes l.next
      ≡ types_at l.count l.stated l.pointer [] l.bytes l.at;
  pointer : l.types.pointer ≡ l.pointer;
  number : length l.types.types ≡ l.counter;
  few : all_fields l.types.types ≤ 4096;
  near : l.next ≤ l.at + 262 * l.counter + 536 * all_fields l.types.types;
}
