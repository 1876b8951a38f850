use Rattle.std.proofs.Common.{◌≡◌, ◌+◌, ◌*◌, ◌≤◌, length, drop}
use Rattle.std.specs.List.{flat_map}
use Rattle.evp_job.specs.Filling.{own_layouts}
use Rattle.evp_job.proofs.fill.described.Given as goal

abbrev pub invariant-loop-file : goal.invariant-loop-file
invariant-loop-file l = record {
  counted : l.formats + length (flat_map own_layouts (drop l.file-index l.files))
      ≡ length (flat_map own_layouts l.files);
  few : l.formats ≤ 1024 * l.file-index;
}
