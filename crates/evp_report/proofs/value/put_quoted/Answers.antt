use Rattle.std.proofs.Common.{◌≡◌, sym, append_assoc, length}
use Rattle.std.proofs.Common.{get_or, codes, arith, refl, rules}
use Rattle.std.specs.List.{flat_map}
use Rattle.evp_base.specs.Quoted.{escaped, quoted}
use Rattle.evp_report.proofs.Passed.{begun, broken, ended, gone_on}
use Rattle.evp_report.proofs.Escapes.{escapes_from, escapes_ended}
use Rattle.evp_report.proofs.value.put_quoted.Goals as goal

pub loop-byte-init : goal.loop-byte-init
loop-byte-init g c =
    begun g.K.Sink.faults g.K.Sink.put c.args.sink.now c.put.new.sink c.args.pieces.now
    c.put.new.self (codes "\"") _ _
    c.in_ok-put.ensures.faults c.in_ok-put.ensures.passed
    (sym (append_assoc (codes "\"") (flat_map escaped c.args.bytes.now) (codes "\"")))

pub loop-byte-preserved : goal.loop-byte-preserved
loop-byte-preserved g c =
    let bytes = c.args.bytes.now in
    let i = c.loop-byte.byte-index in
    let shown : c.as_bytes.result.now ≡ escaped (get_or bytes i 0) = search rules in
    let went = c.in_ok-put-2.ensures in
    gone_on g.K.Sink.faults g.K.Sink.put c.args.sink.now c.loop-byte.sink
    c.put-in-loop-byte.new.sink c.args.pieces.now
    c.loop-byte.pieces c.put-in-loop-byte.new.self (escaped (get_or bytes i 0)) _ _
    (quoted bytes) c.loop-byte.invariant
    (escapes_from bytes i c.loop-byte-test.true) went.faults (rw shown at went.passed)

pub returns-in_err-put-2 : goal.returns-in_err-put-2
returns-in_err-put-2 g c =
    let bytes = c.args.bytes.now in
    let i = c.loop-byte.byte-index in
    let shown : c.as_bytes.result.now ≡ escaped (get_or bytes i 0) = search rules in
    broken g.K.Sink.faults g.K.Sink.put c.args.sink.now c.loop-byte.sink c.put-in-loop-byte.new.sink
    c.args.pieces.now
    c.loop-byte.pieces c.put-in-loop-byte.new.self (escaped (get_or bytes i 0)) _ _
    (quoted bytes) _
    c.from_residual-in_err-put-2.result c.loop-byte.invariant
    (escapes_from bytes i c.loop-byte-test.true) refl
    c.from_residual-in_err-put-2.ensures.0 (rw shown at c.in_err-put-2.ensures)

pub returns : goal.returns
returns g c =
    let bytes = c.args.bytes.now in
    let i = c.loop-byte.byte-index in
    let end : i ≡ length bytes = omega (
      arith,
      c.loop-byte-test.false,
      c.loop-byte.auto.byte-index-end,
    ) in
    ended g.K.Sink.faults g.K.Sink.put c.args.sink.now c.loop-byte.sink c.put-2.new.sink
    c.args.pieces.now
    c.loop-byte.pieces c.put-2.new.self (codes "\"") (quoted bytes) c.put-2.result
    (rw (escapes_ended bytes i end) at c.loop-byte.invariant) c.put-2.ensures
