use Rattle.std.proofs.Common.{◌≡◌, ◌+◌, ◌-◌, length}
use Rattle.evp_file.specs.File.{no_frames}
use Rattle.evp_file.specs.Reading.{frames_from}
use Rattle.evp_file.proofs.reading.frames_from.Given as goal

abbrev pub invariant-loop : goal.invariant-loop
invariant-loop l = record {
  same : frames_from (length l.bytes - l.counter) l.reader.known.now l.reader.limit l.file l.at l.rest
      ≡ frames_from (length l.bytes) l.reader.known.now l.reader.limit no_frames 4 l.bytes;
  whole : l.at + length l.rest ≡ 4 + length l.bytes;
}
