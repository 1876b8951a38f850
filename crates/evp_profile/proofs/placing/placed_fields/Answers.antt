use Rattle.std.proofs.Common.{arith, refl}
use Rattle.evp_format.specs.Tree.{trees}
use Rattle.evp_profile.specs.Placing.{end_behind, end_of_fields}
use Rattle.evp_profile.proofs.Placings.{end_from}
use Rattle.evp_profile.proofs.placing.placed_fields.Goals as goal

pub overflow_cast-offset : goal.overflow_cast-offset
overflow_cast-offset c =
    let earlier = c.args.earlier.now in
    let fields = c.args.fields.now in
    let from = end_from earlier.profile (trees earlier.types) fields c.loop-field.field-index c.loop-field.end
    (end_behind earlier.profile (trees earlier.types) c.loop-field.end c.field-item.result)
    (end_of_fields earlier.profile (trees earlier.types) 0 fields) c.field-item.result c.loop-field-test.true c.field-item.is refl
    c.loop-field.invariant.end in
    omega (arith, from, c.offset_behind-offset.ensures.value, c.requires.short)

pub overflow_cast-end : goal.overflow_cast-end
overflow_cast-end c =
    let earlier = c.args.earlier.now in
    let fields = c.args.fields.now in
    let from = end_from earlier.profile (trees earlier.types) fields c.loop-field.field-index c.loop-field.end c.end_behind-end.result
    (end_of_fields earlier.profile (trees earlier.types) 0 fields) c.field-item.result c.loop-field-test.true c.field-item.is
    c.end_behind-end.ensures c.loop-field.invariant.end in
    omega (arith, from, c.requires.short)
