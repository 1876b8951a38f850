use Rattle.std.proofs.Common.{drop}
use Rattle.evp_format.specs.Datum.{Entries}
use Rattle.evp_record.specs.Record.{value_of}
use Rattle.evp_action.specs.Storing.{IsPacked, IsPackedRecord}
use Rattle.evp_action.proofs.Settings.{SoFar}
use Rattle.evp_action.proofs.setting.set_fields.Given as goal

abbrev pub invariant-loop-k : goal.invariant-loop-k
invariant-loop-k l = record {
  packed : IsPackedRecord l.receiver l.bytes;
  so_far : (fields : Entries) → IsPacked l.receiver fields l.initial.bytes
      → SoFar l.receiver l.k l.set (drop l.k l.set) (value_of l.item) fields l.bytes;
}
