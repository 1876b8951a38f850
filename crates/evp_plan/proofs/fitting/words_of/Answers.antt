use Rattle.std.proofs.Common.{refl, arith}
use Rattle.evp_base.proofs.Complement.{width}
use Rattle.evp_plan.proofs.FittingWords.{fitting, size_width}
use Rattle.evp_plan.proofs.fitting.words_of.Goals as goal

pub returns : goal.returns
returns c =
    let source = c.args.source.now in
    let wide = width source.size (size_width source.kind source.size c.requires.allowed) in
    let half = c.half_of-half.ensures.value in
    let doubled = wide.half in
    let some = wide.least in
    let less = c.lesser-below.ensures.first in
    let from_less = c.lesser-below.ensures.second in
    let small = c.below-2.ensures.half in
    record {
      offset = refl;
      size_is = refl;
      fit = fitting c.args.kind c.args.size source.kind source.size c.lesser-top.result _ (record {
        allowed = c.requires.allowed;
        high = c.greatest.result;
        below = c.below.result;
        from_high = c.greatest-2.result;
        from_below = c.below-2.result;
        high_is = c.greatest.ensures;
        below_is = c.below.ensures.value;
        from_high_is = c.greatest-2.ensures;
        from_below_is = c.below-2.ensures.value;
        less = c.lesser-top.ensures.first;
        from_less = c.lesser-top.ensures.second;
        reach = omega (arith, half, doubled, some, less, from_less, small);
        from_reach = omega (arith, half, doubled, some, less, from_less, small);
      });
    }
