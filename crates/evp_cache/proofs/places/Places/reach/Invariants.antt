use Rattle.std.proofs.Common.{◌≡◌, length}
use Rattle.evp_cache.specs.Places.{AreAlike}
use Rattle.evp_cache.proofs.places.Places.reach.Given as goal

abbrev pub invariant-loop : goal.invariant-loop
invariant-loop l = record {
  long : length l.self-inside.rows.items ≡ l.counter;
  alike : AreAlike l.initial.self-inside.rows.items l.self-inside.rows.items;
}
