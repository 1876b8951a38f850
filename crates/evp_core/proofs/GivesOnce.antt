-- No two actors give on one route.
use Rattle.std.proofs.Common.{◌≡◌, ℕ, ◌+◌, List, [], ◌∷◌, ◌++◌, length, sym, ap, ◌∙◌}
use Rattle.evp_graph.specs.declared.route.Route.{Route}
use Rattle.evp_stone.specs.Actor.{Role, feeds, works}
use Rattle.evp_stone.specs.JobShape.{JobShape}
use Rattle.evp_stone.specs.Opening.{IsNumbered, GivesOn}
use Rattle.evp_stone.specs.Route.{last_stone}
use Rattle.evp_stone.proofs.Apart.{goes_on_once}

nil_snoc : (xs : List ℕ) (x : ℕ) → [] ≡ xs ++ x ∷ [] → ⊥
nil_snoc [] x same = cc
nil_snoc (y ∷ xs) x same = cc

-- the actor that gives on a route is one
pub gives_once : (job : JobShape) (number other : ℕ) (role also : Role) (route : Route) → IsNumbered job number role
    → IsNumbered job other also → GivesOn job role route → GivesOn job also route → number ≡ other
gives_once job number other (feeds work) (feeds others) route one two on there =
    sym one.1 ∙ sym on.0 ∙ there.0 ∙ two.1
gives_once job number other (feeds work) (works others unended) route one two on there =
    absurd (nil_snoc there.route.positions there.position (sym on.1 ∙ there.goes_on.positions))
gives_once job number other (works work unended) (feeds others) route one two on there =
    absurd (nil_snoc on.route.positions on.position (sym there.1 ∙ on.goes_on.positions))
gives_once job number other (works work unended) (works others still) route one two on there =
    let same = goes_on_once on.route there.route route on.position there.position on.goes_on there.goes_on in
    let stone : work.stone ≡ others.stone = sym on.last ∙ ap last_stone same.0 ∙ there.last in
    one.1 ∙ ap (λ (n : ℕ). length job.sources + n) stone ∙ sym two.1
