use Rattle.std.proofs.Common.{arith}
use Rattle.evp_format.specs.Tree.{trees}
use Rattle.evp_profile.specs.Placing.{end_of_fields}
use Rattle.evp_profile.proofs.Placings.{end_more, end_all, end_from}
use Rattle.evp_profile.proofs.placing.end_of_fields.Goals as goal

pub loop-field-preserved : goal.loop-field-preserved
loop-field-preserved c =
    let earlier = c.args.earlier.now in
    let fields = c.args.fields.now in
    record {
      end = end_more earlier.profile (trees earlier.types) fields c.loop-field.field-index c.loop-field.end c.end_behind-behind.result
          (end_of_fields earlier.profile (trees earlier.types) 0 fields) c.field-item.result c.loop-field-test.true c.field-item.is
          c.end_behind-behind.ensures c.loop-field.invariant.end;
      bound = omega arith;
    }

pub returns-then-behind-from : goal.returns-then-behind-from
returns-then-behind-from c =
    let earlier = c.args.earlier.now in
    let fields = c.args.fields.now in
    let from = end_from earlier.profile (trees earlier.types) fields c.loop-field.field-index c.loop-field.end c.end_behind-behind.result
    (end_of_fields earlier.profile (trees earlier.types) 0 fields) c.field-item.result c.loop-field-test.true c.field-item.is
    c.end_behind-behind.ensures c.loop-field.invariant.end in
    omega (arith, from)

pub returns : goal.returns
returns c =
    let earlier = c.args.earlier.now in
    let fields = c.args.fields.now in
    let whole = end_all earlier.profile (trees earlier.types) fields c.loop-field.field-index c.loop-field.end
    (end_of_fields earlier.profile (trees earlier.types) 0 fields) c.loop-field-test.false c.loop-field.invariant.end in
    omega (arith, whole)
