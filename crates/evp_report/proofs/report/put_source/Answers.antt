use Rattle.std.proofs.Common.{◌∙◌, length, refl}
use Rattle.std.proofs.lemmas.Option.{slice_get_read}
use Rattle.evp_report.proofs.JobParts.{sources_of_parts}
use Rattle.evp_report.proofs.report.put_source.Goals as goal

pub returns-in-Some : goal.returns-in-Some
returns-in-Some g c =
    let sources = c.as_slice.result.now in
    let found = c.in-Some.ensures.lookup in
    let read = slice_get_read sources (length sources) c.args.source c.in-Some.source.now refl found.3.0 found.1 in
    let there = rw (c.as_slice.ensures.value ∙ sources_of_parts c.parts.result.now c.parts.ensures.value) at read in
    rw there (rw c.as_bytes.ensures.value at c.put.ensures)
