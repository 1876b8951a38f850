use Rattle.std.proofs.Common.{◌≡◌, ◌<◌, ℕ, List, [], length, map, get_or, sym, ap, ◌∙◌, arith}
use Rattle.std.proofs.lemmas.List.{length-map}
use Rattle.std.proofs.lemmas.Option.{slice_get-get_or}
use Rattle.evp_graph.specs.declared.route.Route.{Route}
use Rattle.evp_stone.specs.JobShape.{JobShape}
use Rattle.evp_stone.specs.Settling.{work_of}
use Rattle.evp_stone.proofs.Opened.{all_unended, are_untouched}
use Rattle.evp_stone.proofs.Started.{starting_one, starting_not}
use Rattle.evp_stone.proofs.opening.starting.Goals.{then-target_of-stone+in_ok-untouched+in_ok-push, else-target_of-stone}
use Rattle.evp_stone.proofs.opening.starting.Goals as goal

abbrev no_route : Route
no_route = record { source = 0; positions = []; stones = [] }

within_routes : (read : List Route) (job : JobShape) (number : ℕ) → read ≡ job.routes → number < length read → number < length job.routes
within_routes read job number same within = let long = ap length same in omega arith

pub untouched-requires-clause-leads : goal.untouched-requires-clause-leads
untouched-requires-clause-leads c =
    let job = c.args.job.now in
    let number = c.loop-number.number in
    let same = c.as_slice-routes.ensures ∙ ap (λ (j : JobShape). j.routes) c.parts.ensures.value in
    let route = get_or job.routes number no_route in
    let at = slice_get-get_or job.routes number no_route
    (within_routes c.as_slice-routes.result.now job number same c.loop-number-test.true) in
    record { route = route; there = at; last = sym (c.target_of.ensures route at) ∙ c.if-target_of-stone.true }

pub loop-number-preserved : goal.loop-number-preserved
loop-number-preserved c =
    let job = c.args.job.now in
    let number = c.loop-number.number in
    let works = map work_of c.loop-number.works.items in
    let same = c.as_slice-routes.ensures ∙ ap (λ (j : JobShape). j.routes) c.parts.ensures.value in
    let route = get_or job.routes number no_route in
    let at = slice_get-get_or job.routes number no_route
    (within_routes c.as_slice-routes.result.now job number same c.loop-number-test.true) in
    elim c.if-target_of-stone.branch [
      | then-target_of-stone+in_ok-untouched+in_ok-push w ↦ rw (w.works-is, w.in_ok-push.ensures)
          (starting_one job c.args.stone number works route (work_of w.in_ok-untouched.field-0) at
          (sym (c.target_of.ensures route at) ∙ w.if-target_of-stone.true) w.in_ok-untouched.ensures.number
          w.in_ok-untouched.ensures.starts c.loop-number.invariant)
      | else-target_of-stone w ↦ rw w.works-is (starting_not job c.args.stone number works route at
          (λ is. w.if-target_of-stone.false (c.target_of.ensures route at ∙ is)) c.loop-number.invariant)
    ]

pub returns-clause-unended : goal.returns-clause-unended
returns-clause-unended c =
    let works = map work_of c.loop-number.works.items in
    all_unended (length c.args.job.now.rounds) works c.parts.ensures.kept.limits.rounds.0
    (are_untouched c.args.job.now c.args.stone works c.loop-number.invariant.start)
    ∙ length-map c.loop-number.works.items work_of
