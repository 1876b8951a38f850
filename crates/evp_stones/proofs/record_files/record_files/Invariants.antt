use Rattle.std.proofs.Common.{◌≡◌, length, All, Ok}
use Rattle.evp_file.specs.Whole.{IsWhole}
use Rattle.evp_stones.specs.WholeJob.{file_names}
use Rattle.evp_stones.proofs.RecordFiles.{HaveRead}
use Rattle.evp_stones.proofs.record_files.record_files.Given as goal

-- the files before this one were read
abbrev pub invariant-loop-source : goal.invariant-loop-source
invariant-loop-source g l = record {
  works : HaveRead g.D.Depot.held g.D.Depot.misses g.D.Depot.faults l.fn.depot l.depot l.fn.text.formats.items l.fn.text.limit
      (file_names l.fn.text) l.source-index (Ok l.records.items);
  count : length l.records.items ≡ l.source-index;
  whole : All (IsWhole l.fn.text.formats.items) l.records.items;
}
