use Rattle.std.specs.Prelude.{slice_get}
use Rattle.evp_job.specs.SourceView.{sources_of}
use Rattle.evp_report.specs.Report.{stones_text, line_end}
use Rattle.evp_stones.specs.Check.{source_text}
use Rattle.evp_report.proofs.Chains.{then, cut, longer}
use Rattle.evp_stones.proofs.check.put_route.Goals as goal

pub returns-in_err-put : goal.returns-in_err-put
returns-in_err-put g c =
    cut line_end (longer (stones_text c.args.route.now.stones)
    (longer (source_text (slice_get (sources_of c.args.sources.now) c.args.route.now.source)) c.in_err-put.ensures))
    c.from_residual.ensures.0

pub returns-in_err-put-2 : goal.returns-in_err-put-2
returns-in_err-put-2 g c =
    cut line_end (longer (stones_text c.args.route.now.stones)
    (then c.in_ok-put.ensures (rw c.source_name.ensures at c.in_err-put-2.ensures))) c.from_residual-in_err-put-2.ensures.0

pub returns-in_err-put_stones : goal.returns-in_err-put_stones
returns-in_err-put_stones g c =
    cut line_end (then (then c.in_ok-put.ensures (rw c.source_name.ensures at c.in_ok-put-2.ensures))
    (rw c.as_slice.ensures at c.in_err-put_stones.ensures)) c.from_residual-in_err-put_stones.ensures.0

pub returns : goal.returns
returns g c =
    then (then (then c.in_ok-put.ensures (rw c.source_name.ensures at c.in_ok-put-2.ensures))
    (rw c.as_slice.ensures at c.in_ok-put_stones.ensures)) c.put-3.ensures
