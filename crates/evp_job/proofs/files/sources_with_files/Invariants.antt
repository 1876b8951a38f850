use Rattle.std.proofs.Common.{◌≡◌, ◌++◌, All, length, map}
use Rattle.std.specs.List.{flat_map}
use Rattle.std.specs.Iterator.Adapters.{zip_first, zip_second}
use Rattle.std.specs.Slice.Iter.{iter_rest}
use Rattle.std.specs.Vec.Iter.{into_iter_items, into_iter_len}
use Rattle.evp_job.specs.Filling.{HasRecords, bare_source, own_layouts, sources_with_files}
use Rattle.evp_job.proofs.files.sources_with_files.Given as goal

abbrev pub invariant-loop-source : goal.invariant-loop-source
invariant-loop-source l = record {
  made : l.filled.items ++ sources_with_files (length l.formats.items)
      (map bare_source (iter_rest (zip_first l.source-iterator))) (into_iter_items (zip_second l.source-iterator))
      ≡ sources_with_files (length l.fn.formats.items) (map bare_source (iter_rest (zip_first l.initial.source-iterator)))
      (into_iter_items (zip_second l.initial.source-iterator));
  joined : l.formats.items ++ flat_map own_layouts (into_iter_items (zip_second l.source-iterator))
      ≡ l.fn.formats.items ++ flat_map own_layouts (into_iter_items (zip_second l.initial.source-iterator));
  each : length (into_iter_items (zip_second l.source-iterator)) ≡ length (iter_rest (zip_first l.source-iterator));
  read : All HasRecords (into_iter_items (zip_second l.source-iterator));
  count : into_iter_len (zip_second l.source-iterator) ≡ length (into_iter_items (zip_second l.source-iterator));
}
