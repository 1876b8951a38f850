use Rattle.std.proofs.Common.{◌++◌, sym, append_assoc, codes, refl}
use Rattle.evp_report.specs.FieldText.{comma}
use Rattle.evp_report.proofs.Passed.{begun, broken, ended, gone_on}
use Rattle.evp_report.proofs.value.put_name.Goals as goal

pub returns-in_err-put : goal.returns-in_err-put
returns-in_err-put g c =
    let faults = g.K.Sink.faults in
    let told = g.K.Sink.put in
    let name = c.args.name.now in
    let first = rw c.from.ensures at c.in_ok-put_comma.ensures in
    broken faults told c.args.sink.now c.put_comma.new.sink c.put.new.sink c.args.pieces.now
    c.put_comma.new.pieces
    c.put.new.self name (name ++ codes "=") (codes "=") _ _ c.from_residual-in_err-put.result
    (begun faults told c.args.sink.now c.put_comma.new.sink c.args.pieces.now
    c.put_comma.new.pieces (comma c.args.index)
    _ _ first.faults first.passed
    (sym (append_assoc (comma c.args.index) name (codes "="))))
    refl refl c.from_residual-in_err-put.ensures.0 c.in_err-put.ensures

pub returns : goal.returns
returns g c =
    let faults = g.K.Sink.faults in
    let told = g.K.Sink.put in
    let name = c.args.name.now in
    let first = rw c.from.ensures at c.in_ok-put_comma.ensures in
    let second = c.in_ok-put.ensures in
    ended faults told c.args.sink.now c.put.new.sink c.put-2.new.sink c.args.pieces.now
    c.put.new.self c.put-2.new.self
    (codes "=") _ c.put-2.result
    (gone_on faults told c.args.sink.now c.put_comma.new.sink c.put.new.sink c.args.pieces.now
    c.put_comma.new.pieces
    c.put.new.self name (name ++ codes "=") (codes "=") _
    (begun faults told c.args.sink.now c.put_comma.new.sink c.args.pieces.now
    c.put_comma.new.pieces (comma c.args.index)
    _ _ first.faults first.passed
    (sym (append_assoc (comma c.args.index) name (codes "="))))
    refl second.faults second.passed)
    c.put-2.ensures
