use Rattle.std.proofs.Common.{◌≡◌, length, sym, ◌∙◌}
use Rattle.evp_job.proofs.Lowered.{sources_count}
use Rattle.evp_job.proofs.parts.source_count.Goals as goal

pub returns : goal.returns
returns c =
    let sources = c.args.head.now.sources.items in
    let is : c.len.result ≡ length sources = search in
    is ∙ sym (sources_count sources)
