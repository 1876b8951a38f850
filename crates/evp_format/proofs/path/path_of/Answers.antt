use Rattle.std.proofs.Common.{◌<◌, length, sym, ◌∙◌, ap, subst, IfSome, ℕ, Option, List}
use Rattle.evp_format.specs.declared.place.PlaceStep.TheVariants.{At}
use Rattle.evp_format.specs.declared.record_type.RecordType.{RecordType}
use Rattle.evp_format.specs.Path.{field_reached}
use Rattle.evp_format.proofs.Paths.{walk_index, walk_field, walk_ends, nested_of-below}
use Rattle.evp_format.proofs.path.path_of.Goals as goal
use Rattle.evp_format.proofs.path.path_of.Goals.{in-Nth+in_ok-push-in-Nth, in-At+in-Some+in_ok-push-in-At}

pub returns-in_default : goal.returns-in_default
returns-in_default c =
    let steps_are = c.steps-step-items.ensures in
    let types_are = c.types-types.ensures.value in
    walk_ends c.args.format.now _ c.loop-step.path c.loop-step.reached c.args.place.now c.loop-step.step-index c.in-At.number (At 0)
    c.types-types.ensures.laid
    (rw steps_are at c.loop-step-test.true) (rw steps_are at c.in-At.is) (rw types_are at c.loop-step.invariant.1)
    (ap (λ (types : List RecordType). field_reached types c.loop-step.reached c.in-At.number) (sym types_are) ∙ sym c.in_default.ensures)
    c.loop-step.invariant.0

pub loop-step-preserved : goal.loop-step-preserved
loop-step-preserved c =
    let steps_are = c.steps-step-items.ensures in
    let types_are = c.types-types.ensures.value in
    let below = rw steps_are at c.loop-step-test.true in
    let InRange : Option ℕ → Type 0 = λ o. IfSome o (λ n. n < length c.types-types.result.now) in
    elim c.match-step.branch [
      | in-Nth+in_ok-push-in-Nth w ↦
          let here = walk_index _ c.loop-step.path _ c.args.place.now c.loop-step.step-index w.in-Nth.index (At 0) below
          (rw steps_are at w.in-Nth.is) c.loop-step.invariant.0 in
          (rw (w.path-is, w.in_ok-push-in-Nth.ensures.ok, w.reached-is) here, subst InRange (sym w.reached-is) c.loop-step.invariant.1)
      | in-At+in-Some+in_ok-push-in-At w ↦
          let found = ap (λ (types : List RecordType). field_reached types c.loop-step.reached w.in-At.number) (sym types_are)
          ∙ sym w.in-Some.ensures in
          let here =
          walk_field c.args.format.now _ c.loop-step.path c.loop-step.reached c.args.place.now c.loop-step.step-index w.in-At.number
          w.in-Some.field.now (At 0) c.types-types.ensures.laid
          below (rw steps_are at w.in-At.is) found c.loop-step.invariant.0 in
          let next = w.reached-is ∙ w.nested_type-reached.ensures in
          let inside = nested_of-below c.args.format.now c.loop-step.reached w.in-At.number w.in-Some.field.now c.types-types.ensures.laid
          found in
          (rw (w.path-is, w.in_ok-push-in-At.ensures.ok, next) here, subst InRange (sym next) (rw (← types_are) at inside))
    ]
