use Rattle.std.proofs.Common.{◌≡◌, ℕ, List, [], ◌∷◌, ◌++◌, refl, sym, subst, ◌∙◌}
use Rattle.evp_stone.specs.Starting.{IsAlong}
use Rattle.evp_stone.proofs.Along.{longer_there, goes_along}
use Rattle.evp_stone.proofs.opening.outlet.Goals as goal

pub number_along-longer-requires : goal.number_along-longer-requires
number_along-longer-requires c =
    let job = c.args.job.now in
    let route = c.args.route.now in
    let same : c.as_slice.result.now ≡ route.positions ++ c.args.position ∷ [] = c.as_slice.ensures ∙ c.in_ok-positions.ensures in
    let there = longer_there job c.requires.job route c.requires.there c.args.position c.requires.within in
    (there.0, subst (λ (l : List ℕ). IsAlong job route.source l there.0) (sym same) there.1)

pub returns : goal.returns
returns c =
    let job = c.args.job.now in
    let route = c.args.route.now in
    let same : c.as_slice.result.now ≡ route.positions ++ c.args.position ∷ [] = c.as_slice.ensures ∙ c.in_ok-positions.ensures in
    let along = c.number_along-longer.ensures in
    record {
      longer = along.route;
      there = along.there;
      goes_on = goes_along job c.requires.job route c.requires.there c.args.position c.requires.within c.number_along-longer.result
          along.route along.there along.from (along.along ∙ same);
      none = refl;
    }
