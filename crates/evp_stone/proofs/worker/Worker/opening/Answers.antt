use Rattle.std.proofs.Common.{List, map, None, sym, subst}
use Rattle.evp_stone.specs.declared.entry.Entry.{Entry}
use Rattle.evp_stone.specs.Actor.{works}
use Rattle.evp_stone.specs.Opening.{IsFresh}
use Rattle.evp_stone.specs.Settling.{work_of}
use Rattle.evp_stone.specs.State.{StoneWork, HasState}
use Rattle.evp_stone.proofs.Opened.{opens}
use Rattle.evp_stone.proofs.worker.Worker.opening.Goals as goal

pub returns-clause-state : goal.returns-clause-state
returns-clause-state c = λ taken given.
    let job = c.args.job.now in
    let stone = c.args.stone in
    let routes = map work_of c.in_ok-routes.routes.items in
    let unended = c.len-unended.result in
    let start = c.in_ok-routes.ensures.start in
    let waits : List Entry → StoneWork = λ waiting. record { stone = stone; waiting = waiting; hand = None; routes = routes } in
    subst (λ (waiting : List Entry). IsFresh job (works (waits waiting) unended) taken given → HasState job taken given (waits waiting))
    (sym c.new.ensures.items) (λ fresh. opens job stone unended routes taken given fresh start.numbers start.start)
