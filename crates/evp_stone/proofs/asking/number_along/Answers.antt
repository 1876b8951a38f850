use Rattle.std.proofs.Common.{◌≡◌, length, sym, ap, ◌∙◌, arith}
use Rattle.std.proofs.lemmas.Bool.{false≢true}
use Rattle.std.proofs.lemmas.Option.{slice_get_within}
use Rattle.evp_stone.specs.JobShape.{JobShape}
use Rattle.evp_stone.proofs.Along.{none_along, element_at}
use Rattle.evp_stone.proofs.asking.number_along.Goals as goal

pub unreachable-requires : goal.unreachable-requires
unreachable-requires c =
    let same : c.as_slice-routes.result.now ≡ c.args.job.now.routes =
    c.as_slice-routes.ensures ∙ ap (λ (job : JobShape). job.routes) c.parts.ensures.value in
    let along = c.requires.1 in
    let within = slice_get_within c.args.job.now.routes c.requires.0 along.route along.there in
    let long = ap length same in
    c.loop-number.invariant c.requires.0 (omega arith) along

pub loop-number-preserved : goal.loop-number-preserved
loop-number-preserved c =
    let same : c.as_slice-routes.result.now ≡ c.args.job.now.routes =
    c.as_slice-routes.ensures ∙ ap (λ (job : JobShape). job.routes) c.parts.ensures.value in
    let number = c.loop-number.number in
    let route = c.index-routes-number.result in
    none_along c.args.job.now c.args.source c.args.positions.now number route
    (element_at c.as_slice-routes.result.now c.args.job.now.routes number route same c.loop-number-test.true c.index-routes-number.is)
    (λ is. false≢true (sym c.if-is_along.false ∙ c.is_along.ensures.1 is)) c.loop-number.invariant

pub returns-then-is_along : goal.returns-then-is_along
returns-then-is_along c =
    let same : c.as_slice-routes.result.now ≡ c.args.job.now.routes =
    c.as_slice-routes.ensures ∙ ap (λ (job : JobShape). job.routes) c.parts.ensures.value in
    let number = c.loop-number.number in
    let route = c.index-routes-number.result in
    let is = c.is_along.ensures.0 c.if-is_along.true in
    record {
      route = route;
      there = element_at c.as_slice-routes.result.now c.args.job.now.routes number route same c.loop-number-test.true
          c.index-routes-number.is;
      from = is.0;
      along = is.1;
    }
