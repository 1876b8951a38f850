use Rattle.std.proofs.Common.{◌≡◌, ◌+◌, false, cond, drop, Some, sym, ap}
use Rattle.std.specs.List.{position_from}
use Rattle.evp_format.specs.declared.record_type.RecordType.{RecordType}
use Rattle.evp_format.specs.Bytes.{bytes_equal}
use Rattle.evp_format.specs.TypeText.{type_named}
use Rattle.evp_format.proofs.Loops.{goes_on}
use Rattle.evp_format.proofs.type_text.type_named.Goals as goal

pub loop-number-preserved : goal.loop-number-preserved
loop-number-preserved c =
    let types = c.args.types.now in
    let k = c.loop-number.number in
    let p = λ (type : RecordType). bytes_equal type.name c.args.name in
    let other : bytes_equal c.index-types-number.result.name c.args.name ≡ false = sym c.if-eq.ensures.value in
    goes_on (position_from p) types k c.index-types-number.result (type_named types c.args.name) c.loop-number-test.true
    c.index-types-number.is
    (ap (λ b. cond b (Some k) (position_from p (k + 1) (drop (k + 1) types))) other) c.loop-number.invariant
