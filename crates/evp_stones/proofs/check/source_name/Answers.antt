use Rattle.std.proofs.Common.{◌∙◌}
use Rattle.evp_stones.proofs.Sources.{source_there, source_past}
use Rattle.evp_stones.proofs.check.source_name.Goals as goal

pub returns-in-Some : goal.returns-in-Some
returns-in-Some c =
    let h = c.in-Some.ensures.lookup in
    rw c.from.ensures at (c.as_bytes.ensures.value ∙ source_there c.args.sources.now c.from.result c.in-Some.source.now h.3.0 h.1)

pub returns-in-None : goal.returns-in-None
returns-in-None c =
    let h = c.in-None.ensures.lookup in
    rw c.from.ensures at (source_past c.args.sources.now c.from.result h.3)
