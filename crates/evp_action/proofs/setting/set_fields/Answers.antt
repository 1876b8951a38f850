use Rattle.std.proofs.lemmas.Result.{err_from_is_err_and}
use Rattle.evp_record.specs.Record.{value_of}
use Rattle.evp_action.proofs.Settings.{step_on, stop_on, still_packed}
use Rattle.evp_action.proofs.setting.set_fields.Goals as goal

pub returns-in_err-set_field-clause-cause : goal.returns-in_err-set_field-clause-cause
returns-in_err-set_field-clause-cause c =
    let value = value_of c.args.item.now in
    let p = err_from_is_err_and c.from_residual.result c.from_residual.ensures.1 in
    rw (p.1, p.2) (λ fields packed.
    stop_on c.args.receiver.now c.loop-k.k c.args.set.now c.index-set-k.result value fields c.loop-k.bytes c.in_err-set_field.field-0.0
    c.loop-k-test.true c.index-set-k.is (c.loop-k.invariant.so_far fields packed) c.in_err-set_field.ensures.cause)

pub loop-k-preserved : goal.loop-k-preserved
loop-k-preserved c =
    let value = value_of c.args.item.now in
    record {
      packed = still_packed c.args.receiver.now c.loop-k.k c.index-set-k.result value c.loop-k.bytes c.set_field.new.bytes
          c.loop-k.invariant.packed c.in_ok-set_field.ensures.set;
      so_far = λ fields packed.
          step_on c.args.receiver.now c.loop-k.k c.args.set.now c.index-set-k.result value fields c.loop-k.bytes c.set_field.new.bytes
          c.loop-k-test.true c.index-set-k.is (c.loop-k.invariant.so_far fields packed) c.in_ok-set_field.ensures.set;
    }
