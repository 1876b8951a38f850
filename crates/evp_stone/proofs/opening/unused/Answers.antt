use Rattle.std.proofs.Common.{◌+◌, ◌∷◌, [], sym, ap, subst, ◌∙◌}
use Rattle.std.proofs.lemmas.List.{map-append}
use Rattle.evp_stone.specs.Working.{outlet_of, outlets_of}
use Rattle.evp_stone.proofs.Started.{UnusedSoFar, unused_one}
use Rattle.evp_stone.proofs.opening.unused.Goals as goal

pub loop-position-preserved : goal.loop-position-preserved
loop-position-preserved c =
    let job = c.args.job.now in
    let route = c.args.route.now in
    let outlets = c.loop-position.outlets.items in
    let one = c.in_ok-outlet.field-0 in
    subst (UnusedSoFar job route (c.loop-position.position + 1))
    (sym (ap outlets_of c.in_ok-push.ensures.items ∙ map-append outlet_of outlets (one ∷ [])))
    (unused_one job route c.loop-position.position (outlets_of outlets) (outlet_of one) c.in_ok-outlet.ensures c.loop-position.invariant)
