use Rattle.std.proofs.Common.{◌≡◌, ◌≤◌, length, vec_capacity}
use Rattle.std.specs.Vec.Iter.{into_iter_items, into_iter_len}
use Rattle.evp_crew.proofs.Accounts.{Collects}
use Rattle.evp_crew.proofs.carried.Carried.accounts.Given as goal

abbrev pub invariant-loop-seat : goal.invariant-loop-seat
invariant-loop-seat l = record {
  so_far : Collects l.fn.self.job l.fn.self.seats (into_iter_items l.seat-iterator) l.room.items;
  long : into_iter_len l.seat-iterator ≡ length (into_iter_items l.seat-iterator);
  room : length l.fn.self.seats ≤ vec_capacity l.room;
}
