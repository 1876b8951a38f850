use Rattle.std.proofs.Common.{◌≡◌, ◌≤◌, ◌+◌, ◌-◌, ◌*◌, [], length}
use Rattle.evp_format.specs.Reading.{fields_at}
use Rattle.evp_format.proofs.description.fields.fields_at.Given as goal

abbrev pub invariant-loop : goal.invariant-loop
invariant-loop l = record {
  rest : fields_at (l.count - l.counter) l.head.stated l.head.types.now.pointer l.head.types.now.types l.head.room l.fields.items l.bytes
      l.next
      ≡ fields_at l.count l.head.stated l.head.types.now.pointer l.head.types.now.types l.head.room [] l.bytes l.at;
  number : length l.fields.items ≡ l.counter;
  near : l.next ≤ l.at + 536 * l.counter;
}
