use Rattle.std.proofs.Common.{◌≡◌, max, arith, ◌∙◌}
use Rattle.evp_format.proofs.Depths.{depth_more}
use Rattle.evp_format.proofs.whole_type.depth_behind.Goals as goal
use Rattle.evp_format.proofs.whole_type.depth_behind.Goals.{then-nested-deepest, else-nested-deepest}

pub loop-field-preserved : goal.loop-field-preserved
loop-field-preserved c =
    let most : c.if-nested-deepest.deepest ≡ max c.loop-field.deepest c.nested_depth-nested.result = elim c.if-nested-deepest.branch
    [ then-nested-deepest w ↦ omega arith | else-nested-deepest w ↦ omega arith ] in
    record {
      deepest = λ trees same. most ∙ depth_more trees c.args.fields.now c.loop-field.field-index c.field-item.result c.loop-field.deepest
          c.nested_depth-nested.result c.loop-field-test.true c.field-item.is (c.loop-field.invariant.deepest trees same)
          (c.nested_depth-nested.ensures.value trees same);
      bound = omega (arith, most, c.loop-field.invariant.bound, c.nested_depth-nested.ensures.bound);
    }
