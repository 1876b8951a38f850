use Rattle.std.proofs.Common.{sym, ◌∙◌}
use Rattle.evp_format.specs.Bytes.{bytes_equal}
use Rattle.evp_job.specs.Sources.{SourceShape}
use Rattle.evp_job.specs.SourceView.{source_of, sources_of}
use Rattle.evp_job.proofs.Lowered.{any_mapped}
use Rattle.evp_job.proofs.sources.is_taken.Goals as goal

pub returns : goal.returns
returns c =
    let sources = c.args.sources.now in
    let same = bytes_equal c.args.name.now in
    c.has_name.ensures
    ∙ sym (any_mapped same (λ (source : SourceShape). source.name) (sources_of sources)
    ∙ any_mapped (λ (source : SourceShape). same source.name) source_of sources)
