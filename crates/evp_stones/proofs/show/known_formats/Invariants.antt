use Rattle.std.proofs.Common.{◌≡◌, ◌++◌, length}
use Rattle.std.specs.List.{flat_map}
use Rattle.std.specs.Vec.Iter.{into_iter_items, into_iter_len}
use Rattle.evp_stones.specs.Show.{own_known}
use Rattle.evp_stones.proofs.show.known_formats.Given as goal

abbrev pub invariant-loop-format : goal.invariant-loop-format
invariant-loop-format l = record {
  joined : l.known.items ++ flat_map own_known (into_iter_items l.format-iterator)
      ≡ flat_map own_known (into_iter_items l.initial.format-iterator);
  count : into_iter_len l.format-iterator ≡ length (into_iter_items l.format-iterator);
}
