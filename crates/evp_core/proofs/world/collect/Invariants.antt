use Rattle.std.proofs.Common.{◌≡◌, ◌≤◌, ◌+◌, length, drop, vec_capacity}
use Rattle.std.specs.Vec.Iter.{into_iter_items, into_iter_len}
use Rattle.evp_stone.proofs.Collected.{AreSoFar}
use Rattle.evp_core.proofs.world.collect.Given as goal

abbrev pub invariant-loop : goal.invariant-loop
invariant-loop l = record {
  left : into_iter_items l.actors ≡ drop l.counter l.fn.actors.items;
  long : into_iter_len l.actors ≡ length (into_iter_items l.actors);
}

abbrev pub invariant-loop-actor : goal.invariant-loop-actor
invariant-loop-actor l = record {
  left : into_iter_items l.actor-iterator ≡ drop (length l.reach.lists.job.sources + length l.room.items) l.fn.actors.items;
  long : into_iter_len l.actor-iterator ≡ length (into_iter_items l.actor-iterator);
  so_far : AreSoFar l.reach.lists.job (length l.room.items) l.room.items;
  within : length l.room.items ≤ length l.reach.lists.job.stones;
  room : length l.reach.lists.job.stones ≤ vec_capacity l.room;
}
