use Rattle.std.proofs.Common.{◌≡◌, ◌+◌, List, arith, ◌∙◌}
use Rattle.std.proofs.lemmas.List.Folds.{flat_map-map}
use Rattle.evp_graph.specs.declared.route.Route.{Route}
use Rattle.evp_report.specs.Report.{told_in, told_of, StandFrom}
use Rattle.evp_report.proofs.Chains.{then, cut}
use Rattle.evp_report.proofs.JobParts.{routes_of_parts}
use Rattle.evp_report.proofs.report.put_round.Goals as goal

pub returns-in_err-put_round_line : goal.returns-in_err-put_round_line
returns-in_err-put_round_line g c = cut _ c.in_err-put_round_line.ensures c.from_residual.ensures.0

pub put_routes-requires-clause-stand : goal.put_routes-requires-clause-stand
put_routes-requires-clause-stand g c =
    let listed = c.as_slice.ensures ∙ routes_of_parts c.parts.result.now c.parts.ensures.value in
    rw listed (all_stand _) where
      all_stand : (all : List Route) → StandFrom all 0 all
      all_stand all k route at = let same : 0 + k ≡ k = omega arith in rw same at

pub returns : goal.returns
returns g c =
    let listed = c.as_slice.ensures ∙ routes_of_parts c.parts.result.now c.parts.ensures.value in
    rw (flat_map-map (told_in c.args.round) (told_of c.args.job.now) c.args.job.now.routes)
    (then c.in_ok-put_round_line.ensures (rw listed at c.put_routes.ensures))
