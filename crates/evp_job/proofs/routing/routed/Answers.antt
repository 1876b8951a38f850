use Rattle.std.proofs.lemmas.Result.{err_from_is_err_and}
use Rattle.evp_job.proofs.Routed.{routes_made, routes_listed, routes_refused}
use Rattle.evp_job.proofs.routing.routed.Goals as goal

pub returns-in_err-routes-clause-made : goal.returns-in_err-routes-clause-made
returns-in_err-routes-clause-made c =
    let fault = c.in_err-routes.field-0.0 in
    let p = err_from_is_err_and c.from_residual.result c.from_residual.ensures.1 in
    rw (p.1, p.2) (routes_refused c.args.parts fault c.in_err-routes.ensures)

pub returns-clause-made : goal.returns-clause-made
returns-clause-made c = routes_made c.args.parts c.in_ok-routes.routes c.in_ok-routes.ensures

pub returns-clause-listed : goal.returns-clause-listed
returns-clause-listed c = routes_listed c.args.parts c.in_ok-routes.routes c.in_ok-routes.ensures
