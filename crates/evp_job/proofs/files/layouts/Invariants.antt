use Rattle.std.proofs.Common.{◌≡◌, ◌+◌, ◌≤◌, ◌++◌, length, vec_len, vec_capacity}
use Rattle.std.specs.Vec.Iter.{into_iter_items, into_iter_len}
use Rattle.evp_job.specs.Stated.{layouts_of}
use Rattle.evp_job.proofs.files.layouts.Given as goal

abbrev pub invariant-loop-one : goal.invariant-loop-one
invariant-loop-one l = record {
  made : l.formats.items ++ layouts_of (into_iter_items l.one-iterator) ≡ layouts_of (into_iter_items l.initial.one-iterator);
  count : into_iter_len l.one-iterator ≡ length (into_iter_items l.one-iterator);
  enough : vec_len l.formats + into_iter_len l.one-iterator ≤ vec_capacity l.formats;
}
