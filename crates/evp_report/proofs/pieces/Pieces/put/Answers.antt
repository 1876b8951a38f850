use Rattle.std.proofs.Common.{◌≡◌, [], ap, ◌∙◌, subst}
use Rattle.evp_report.specs.Passing.{WentOut}
use Rattle.evp_report.proofs.Passed.{Passes-after, Passes-straight}
use Rattle.evp_report.proofs.pieces.Pieces.put.Goals as goal

pub returns-in-Err : goal.returns-in-Err
returns-in-Err g c =
    let told = g.K.Sink.put in
    let first = c.in_ok-flush.ensures in
    let same : c.try_extend_from_slice.new.self.items ≡ c.args.self.now =
    ap (λ (v : _). v.items) c.in_default.ensures.err ∙ c.self.view_is in
    let none : c.try_extend_from_slice-2.new.self.items ≡ [] =
    ap (λ (v : _). v.items) c.in-Err.ensures.err ∙ c.self-2.view_is ∙ first.none_waits in
    Passes-after g.K.Sink.faults told c.args.sink.now c.flush.new.sink c.write_all.new.sink
    c.args.self.now
    c.flush.new.self _ [] c.args.bytes.now c.write_all.result first.passes.faults
    (subst (λ w. WentOut (told c.args.sink.now) (told c.flush.new.sink) w c.flush.new.self [])
    same first.passes.passed)
    (Passes-straight g.K.Sink.faults told c.flush.new.sink c.write_all.new.sink c.flush.new.self
    _
    c.args.bytes.now c.write_all.result first.none_waits none c.write_all.ensures)
