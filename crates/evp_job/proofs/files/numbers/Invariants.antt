use Rattle.std.proofs.Common.{◌≡◌, ◌++◌, length}
use Rattle.std.specs.List.{flat_map}
use Rattle.std.specs.Vec.Iter.{into_iter_items, into_iter_len}
use Rattle.evp_job.specs.Filling.{own_layout, numbers_from}
use Rattle.evp_job.proofs.files.numbers.Given as goal

abbrev pub invariant-loop-format : goal.invariant-loop-format
invariant-loop-format l = record {
  made : l.numbers.items ++ numbers_from (length l.formats.items) (into_iter_items l.format-iterator)
      ≡ numbers_from (length l.fn.formats.items) (into_iter_items l.initial.format-iterator);
  joined : l.formats.items ++ flat_map own_layout (into_iter_items l.format-iterator)
      ≡ l.fn.formats.items ++ flat_map own_layout (into_iter_items l.initial.format-iterator);
  count : into_iter_len l.format-iterator ≡ length (into_iter_items l.format-iterator);
}
