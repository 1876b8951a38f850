use Rattle.evp_job.specs.SourceView.{sources_of}
use Rattle.evp_report.proofs.Chains.{Through}
use Rattle.evp_stones.specs.Check.{route_line}
use Rattle.evp_stones.proofs.check.put_routes.Given as goal

-- the routes before this one were handed on
abbrev pub invariant-loop-route : goal.invariant-loop-route
invariant-loop-route g l =
    Through g.K.Sink.faults g.K.Sink.put l.fn.sink l.sink l.fn.pieces l.pieces
    (route_line (sources_of l.fn.sources)) l.fn.routes l.route-index
