use Rattle.std.proofs.Common.{◌≡◌, map, take}
use Rattle.evp_job.specs.declared.sources.SourceText.{SourceText}
use Rattle.evp_job.proofs.routing.first_stones.Given as goal

abbrev pub invariant-loop-source : goal.invariant-loop-source
invariant-loop-source l =
    l.first.items ≡ map (λ (source : SourceText). source.stone) (take l.source-index l.sources)
