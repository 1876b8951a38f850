use Rattle.std.proofs.Common.{◌-◌, ◌≤◌, length, take}
use Rattle.std.specs.Io.KnownBytes.{Appends}
use Rattle.evp_depot.proofs.writing.write_all.Given as goal

-- what was written is a front of the bytes
abbrev pub invariant-loop-written : goal.invariant-loop-written
invariant-loop-written g l =
    let Sink = g.K.Sink in
    record {
      within : l.written ≤ length l.bytes;
      faults : Sink.faults l.fn.sink ≤ Sink.faults l.sink;
      put : Appends (Sink.put l.fn.sink) (Sink.put l.sink) (take l.written l.bytes);
    }

abbrev pub decreases-loop-written : goal.decreases-loop-written
decreases-loop-written g l = length l.bytes - l.written
