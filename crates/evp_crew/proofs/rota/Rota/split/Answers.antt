use Rattle.std.proofs.Common.{◌∙◌}
use Rattle.evp_crew.proofs.Rotas.{shares}
use Rattle.evp_crew.proofs.rota.Rota.split.Goals as goal

pub another-more-requires-clause-rule : goal.another-more-requires-clause-rule
another-more-requires-clause-rule g c = shares _ _ c.requires.1.0 c.requires.1.1

pub returns-clause-pass : goal.returns-clause-pass
returns-clause-pass g c =
    let same = c.another-more.ensures.queue.0 in
    let known = c.another-more.ensures.rule.0 in
    (((same.0 ∙ c.requires.0.0, same.2 ∙ c.requires.0.1), (c.requires.1.0, known ∙ c.requires.1.1)), known)

pub returns-clause-more : goal.returns-clause-more
returns-clause-more g c =
    let known = c.another-more.ensures.rule.1 in
    ((c.another-more.ensures.queue.1, (c.requires.1.0, known ∙ c.requires.1.1)), known)
