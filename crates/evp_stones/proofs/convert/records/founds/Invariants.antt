use Rattle.std.proofs.Common.{take}
use Rattle.evp_stones.specs.Founds.{AreFound}
use Rattle.evp_stones.proofs.convert.records.founds.Given as goal

-- one for each format before this one
abbrev pub invariant-loop-format : goal.invariant-loop-format
invariant-loop-format l =
    AreFound l.conversion.known.now l.conversion.to.now (take l.format-index l.conversion.formats.now) l.founds.items
