use Rattle.std.proofs.Common.{◌≡◌, ◌+◌, ◌≤◌, ◌++◌, length, map, vec_len, vec_capacity}
use Rattle.std.specs.Vec.Iter.{into_iter_items, into_iter_len}
use Rattle.evp_stone.specs.Closing.{account_of}
use Rattle.evp_stone.proofs.closing.accounts.Given as goal

abbrev pub invariant-loop-work : goal.invariant-loop-work
invariant-loop-work l = record {
  made : l.room.items ++ map account_of (into_iter_items l.work-iterator) ≡ map account_of (into_iter_items l.initial.work-iterator);
  count : into_iter_len l.work-iterator ≡ length (into_iter_items l.work-iterator);
  enough : vec_len l.room + into_iter_len l.work-iterator ≤ vec_capacity l.room;
}
