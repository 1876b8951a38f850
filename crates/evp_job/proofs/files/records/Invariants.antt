use Rattle.std.proofs.Common.{◌≡◌, ◌++◌, ◌^◌, ◌<◌, All, length, map}
use Rattle.std.specs.Arc.{arc_value}
use Rattle.std.specs.Vec.Iter.{into_iter_items, into_iter_len}
use Rattle.evp_file.specs.declared.file.FileItem.{FileItem}
use Rattle.evp_job.specs.Filling.{owned_with}
use Rattle.evp_job.proofs.files.records.Given as goal

abbrev pub invariant-loop-item : goal.invariant-loop-item
invariant-loop-item l = record {
  made : map (λ owned. arc_value owned) l.records.items ++ map (owned_with l.numbers) (into_iter_items l.item-iterator)
      ≡ map (owned_with l.numbers) (into_iter_items l.initial.item-iterator);
  there : All (λ (item : FileItem). item.format < length l.numbers) (into_iter_items l.item-iterator);
  short : All (λ (item : FileItem). length item.bytes < 2 ^ 32) (into_iter_items l.item-iterator);
  count : into_iter_len l.item-iterator ≡ length (into_iter_items l.item-iterator);
}
