use Rattle.std.proofs.Common.{rules, ◌≡◌, ℕ, ◌<◌, ◌++◌, List, Some, append-nil, length, refl, sym, subst, ◌∙◌, slice_index_or}
use Rattle.std.proofs.lemmas.Option.{slice_get_read, slice_get_within}
use Rattle.std.specs.List.{slice_get}
use Rattle.evp_graph.specs.declared.route.Route.{Route}
use Rattle.evp_stone.specs.declared.account.RoundAccount.{RoundAccount}
use Rattle.evp_stone.specs.Ended.{AreEnded}
use Rattle.evp_stone.specs.JobShape.{JobShape}
use Rattle.evp_report.specs.Report.{account_text, lines_of, route_name}
use Rattle.evp_report.specs.Shown.{shown}
use Rattle.evp_report.proofs.Chains.{all_put, then}
use Rattle.evp_report.proofs.JobParts.{routes_of_parts}
use Rattle.evp_report.proofs.ShownTallies.{readable_all, ended_round, ended_lines}
use Rattle.evp_report.proofs.report.write_ended.Goals as goal

-- what is written is what the route has in the round
written : (job : JobShape) (number round : ℕ) (ended : List RoundAccount) (routes : List Route) (route : Route)
    (account : RoundAccount) → AreEnded job number ended → routes ≡ job.routes → round < length ended
    → account ≡ slice_index_or ended round account → route ≡ slice_index_or routes number route
    → lines_of job number round ≡ route_name job route ++ account_text (shown job.formats account)
written job number round ended routes route account are same below reads finds =
    let within = slice_get_within job.routes number are.route are.there in
    let found = subst (λ (l : List Route). route ≡ slice_index_or l number route) same finds in
    ended_lines job number round ended account route are
    (slice_get_read job.routes (length job.routes) number route refl within found)
    (slice_get_read ended (length ended) round account refl below reads)

pub put_told-requires : goal.put_told-requires
put_told-requires g c =
    let ended = c.args.ended.now in
    let account = c.index-ended-round.result in
    let at = slice_get_read ended (length ended) c.args.round account refl c.requires.round c.index-ended-round.is in
    let is = ended_round c.args.job.now c.args.number c.args.round ended account c.requires.ended at in
    readable_all c.args.job.now.formats account.arrived.items is.tally.arrived is.same.arrived

pub returns-in_err-put_told : goal.returns-in_err-put_told
returns-in_err-put_told g c =
    let routes = c.as_slice.ensures ∙ routes_of_parts c.parts.result.now c.parts.ensures.value in
    let lines = written c.args.job.now c.args.number c.args.round c.args.ended.now c.as_slice.result.now
    c.index-as_slice-number.result c.index-ended-round.result c.requires.ended routes c.requires.round
    c.index-ended-round.is c.index-as_slice-number.is in
    rw lines (search rules)

pub returns : goal.returns
returns g c =
    let job = c.args.job.now in
    let route = c.index-as_slice-number.result in
    let account = c.index-ended-round.result in
    let routes = c.as_slice.ensures ∙ routes_of_parts c.parts.result.now c.parts.ensures.value in
    let lines = written job c.args.number c.args.round c.args.ended.now c.as_slice.result.now route account
    c.requires.ended routes c.requires.round c.index-ended-round.is c.index-as_slice-number.is in
    let told = rw c.new-pieces.ensures at c.in_ok-put_told.ensures in
    rw lines
    (all_put (rw (append-nil (route_name job route ++ account_text (shown job.formats account))) at (then told c.flush.ensures.passes))
    c.flush.ensures.none_waits)
