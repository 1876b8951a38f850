use Rattle.std.proofs.Common.{subst}
use Rattle.evp_stones.specs.MadeFiles.{IsMade}
use Rattle.evp_stones.proofs.FourSources.{all_made}
use Rattle.evp_stones.proofs.bench.made_job.made_sources.Goals as goal

pub returns : goal.returns
returns g c =
    let text = c.args.text.now in
    let n = c.args.records in
    let low = c.four_sources-a.ensures.first in
    let high = c.four_sources-a.ensures.second in
    all_made text n c.in_ok-a.a c.in_ok-b.b c.in_ok-c.c c.in_ok-d.d _ c.requires.sources
    (subst (λ r. IsMade text n 0 r) c.in_ok-a.was low.0) (subst (λ r. IsMade text n 1 r) c.in_ok-b.was low.1)
    (subst (λ r. IsMade text n 2 r) c.in_ok-c.was high.0) (subst (λ r. IsMade text n 3 r) c.in_ok-d.was high.1)
    c.in_ok-formats.ensures.items c.in_ok-sources.ensures.items
