use Rattle.std.proofs.Common.{◌≡◌, ℕ, List, [], ◌∷◌, ◌++◌, map, take, sym, ap, ◌∙◌}
use Rattle.std.proofs.lemmas.List.{map_more}
use Rattle.evp_job.specs.declared.sources.SourceText.{SourceText}
use Rattle.evp_job.proofs.routing.first_stones.Goals as goal

pub loop-source-preserved : goal.loop-source-preserved
loop-source-preserved c =
    let first = λ (source : SourceText). source.stone in
    let sources = c.args.sources.now in
    let k = c.loop-source.source-index in
    c.in_ok-push.ensures.items
    ∙ ap (λ (done : List ℕ). done ++ first c.source-item.result ∷ []) c.loop-source.invariant
    ∙ ap (λ (source : SourceText). map first (take k sources) ++ first source ∷ []) c.source-item.is
    ∙ sym (map_more first sources k c.source-item.result c.loop-source-test.true)
