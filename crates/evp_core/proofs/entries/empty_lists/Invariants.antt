use Rattle.std.proofs.Common.{◌≡◌, []}
use Rattle.std.specs.Prelude.{replicate}
use Rattle.evp_core.specs.Lists.{entries_in, rooms_of}
use Rattle.evp_core.proofs.entries.empty_lists.Given as goal

abbrev pub invariant-loop : goal.invariant-loop
invariant-loop l = record {
  entries : entries_in l.lists.items ≡ replicate l.counter [];
  rooms : rooms_of l.lists.items ≡ replicate l.counter l.room;
}
