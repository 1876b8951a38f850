use Rattle.std.specs.List.{flat_map}
use Rattle.evp_job.specs.SourceView.{sources_of}
use Rattle.evp_stones.specs.Check.{route_line}
use Rattle.evp_report.proofs.Chains.{then, cut}
use Rattle.evp_stones.proofs.check.put_checked.Goals as goal

pub returns-in_err-put_declared : goal.returns-in_err-put_declared
returns-in_err-put_declared g c =
    cut (flat_map (route_line (sources_of c.args.text.now.sources.items)) c.args.text.now.routes)
    (rw (c.deref.ensures.value, c.deref-2.ensures.value) at c.in_err-put_declared.ensures) c.from_residual.ensures.0

pub returns : goal.returns
returns g c =
    then (rw (c.deref.ensures.value, c.deref-2.ensures.value) at c.in_ok-put_declared.ensures)
    (rw (c.deref-3.ensures.value, c.as_slice.ensures) at c.put_routes.ensures)
