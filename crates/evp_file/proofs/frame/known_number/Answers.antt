use Rattle.std.proofs.Common.{◌≡◌, ◌+◌, false, cond, drop, Some, sym, ap}
use Rattle.std.specs.List.{position_from}
use Rattle.evp_format.specs.Bytes.{bytes_equal}
use Rattle.evp_format.proofs.Loops.{goes_on}
use Rattle.evp_file.specs.declared.file.KnownFormat.{KnownFormat}
use Rattle.evp_file.specs.Reading.{known_number}
use Rattle.evp_file.proofs.frame.known_number.Goals as goal

pub loop-number-preserved : goal.loop-number-preserved
loop-number-preserved c =
    let known = c.args.known.now in
    let k = c.loop-number.number in
    let p = λ (one : KnownFormat). bytes_equal one.id.0 c.args.id.now in
    let other : bytes_equal c.index-known-number.result.id.0 c.args.id.now ≡ false = sym (c.if-same_bytes.ensures) in
    goes_on (position_from p) known k c.index-known-number.result (known_number known c.args.id.now) c.loop-number-test.true
    c.index-known-number.is
    (ap (λ b. cond b (Some k) (position_from p (k + 1) (drop (k + 1) known))) other) c.loop-number.invariant
