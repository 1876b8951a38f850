use Rattle.std.proofs.Common.{◌≡◌, ℕ, suc, ◌+◌, ◌-◌, ◌++◌, List, drop, append_assoc, sym, ap, subst, ◌∙◌, arith}
use Rattle.evp_graph.specs.declared.route.Route.{Route}
use Rattle.evp_report.specs.Report.{routes_lines}
use Rattle.evp_stones.specs.Told.{left_of, rounds_left}
use Rattle.evp_stones.proofs.LeftOf.{with_round}
use Rattle.evp_stones.proofs.bench.pen.add_rest.Goals as goal

pub returns-then-place-eq0 : goal.returns-then-place-eq0
returns-then-place-eq0 c =
    let job = c.args.carried.now in
    let round = c.args.round in
    let old = c.args.hashed.now in
    let mid = c.add_line.new.hashed in
    let new = c.add_routes.new.hashed in
    let all = ap (λ (routes : List Route). mid ++ routes_lines job round routes) c.all_routes.ensures in
    subst (λ (p : ℕ). new ++ rounds_left job (round + 1) ≡ old ++ left_of job round p) (sym c.if-place-eq0.true)
    (with_round job round c.requires.round old mid new c.add_line.ensures (c.add_routes.ensures ∙ all))

pub returns : goal.returns
returns c =
    let job = c.args.carried.now in
    let round = c.args.round in
    let place = c.args.place in
    let old = c.args.hashed.now in
    let rest : c.split_at.result.1.now ≡ drop (place - 1) job.routes =
    c.split_at.ensures.back ∙ ap (λ (routes : List Route). drop (place - 1) routes) c.all_routes-2.ensures in
    let this : place ≡ suc (place - 1) = omega (arith, c.if-place-eq0.false) in
    let others = rounds_left job (round + 1) in
    ap (λ h. h ++ others)
    (c.add_routes-2.ensures ∙ ap (λ (routes : List Route). old ++ routes_lines job round routes) rest)
    ∙ append_assoc old (routes_lines job round (drop (place - 1) job.routes)) others
    ∙ ap (λ n. old ++ left_of job round n) (sym this)
