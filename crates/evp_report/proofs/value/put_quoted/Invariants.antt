use Rattle.std.proofs.Common.{◌++◌, drop, codes}
use Rattle.std.specs.List.{flat_map}
use Rattle.evp_base.specs.Quoted.{escaped, quoted}
use Rattle.evp_report.proofs.Passed.{SoFar}
use Rattle.evp_report.proofs.value.put_quoted.Given as goal

-- the bytes from here on, and the last quote, are left
abbrev pub invariant-loop-byte : goal.invariant-loop-byte
invariant-loop-byte g l =
    SoFar g.K.Sink.faults g.K.Sink.put l.fn.sink l.sink l.fn.pieces l.pieces
    (flat_map escaped (drop l.byte-index l.bytes) ++ codes "\"") (quoted l.bytes)
