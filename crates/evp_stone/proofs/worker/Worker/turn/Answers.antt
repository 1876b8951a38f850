use Rattle.std.proofs.Common.{◌≡◌, List, [], Option, Some, None, sym, ap, subst, ◌∙◌, rules}
use Rattle.evp_stone.specs.declared.entry.Entry.{Entry}
use Rattle.evp_stone.specs.declared.turn.Turn.TheVariants.{Closed}
use Rattle.evp_stone.specs.Seen.{seen, holding}
use Rattle.evp_stone.specs.State.{StoneWork}
use Rattle.evp_stone.specs.StoneTurn.{HasGone}
use Rattle.evp_stone.specs.Turned.{counted}
use Rattle.evp_stone.proofs.StoneTurns.{next_gone, hand_gone, all_done}
use Rattle.evp_stone.proofs.Unended.{not_ended}
use Rattle.evp_stone.proofs.worker.Worker.turn.Goals as goal

-- what waits and what is in hand is all that differs
same_work : (old : StoneWork) (waiting : List Entry) (hand : Option Entry) → old.waiting ≡ waiting → old.hand ≡ hand
    → old ≡ record { stone = old.stone; waiting = waiting; hand = hand; routes = old.routes }
same_work old waiting hand waits held =
    ap (λ (l : List Entry). record { stone = old.stone; waiting = l; hand = old.hand; routes = old.routes }) waits
    ∙ ap (λ (h : Option Entry). record { stone = old.stone; waiting = waiting; hand = h; routes = old.routes }) held

pub returns-in-Some-take-clause-gone : goal.returns-in-Some-take-clause-gone
returns-in-Some-take-clause-gone g c =
    let self = c.args.self.now in
    let port = c.args.port.now in
    let counts = counted (g.P.Port.taken port) (g.P.Port.given port) (g.P.Port.empties port) (g.P.Port.fulls port) in
    let old = seen self in
    let waiting = c.pop_front.new.self.items in
    let none : waiting ≡ [] = search rules in
    let mid : StoneWork = record { stone = self.stone; waiting = waiting; hand = c.take.new.self; routes = old.routes } in
    let is : old ≡ holding mid c.in-Some-take.entry =
    same_work old waiting (Some c.in-Some-take.entry) c.in_default.ensures.items (sym c.in-Some-take.ensures.value) in
    hand_gone c.args.shared.now.job.now c.args.shared.now.cache.now counts old mid (seen c.deal.new.self) c.in-Some-take.entry
    c.args.learnt.now.pass c.deal.new.learnt.pass c.args.learnt.now.builds c.deal.new.learnt.builds c.deal.new.self.unended c.deal.result
    is none c.requires.state c.deal.ensures.gone

pub returns-then-self-eq0-clause-gone : goal.returns-then-self-eq0-clause-gone
returns-then-self-eq0-clause-gone g c =
    let job = c.args.shared.now.job.now in
    let cells = c.args.shared.now.cache.now in
    let self = c.args.self.now in
    let port = c.args.port.now in
    let counts = counted (g.P.Port.taken port) (g.P.Port.given port) (g.P.Port.empties port) (g.P.Port.fulls port) in
    let old = seen self in
    let known = c.args.learnt.now.pass in
    let built = c.args.learnt.now.builds in
    let waiting = c.pop_front.new.self.items in
    let none : waiting ≡ [] = search rules in
    let empty : self.hand ≡ None = search rules in
    let left : c.take.new.self ≡ None = search rules in
    let is : old ≡ record { stone = old.stone; waiting = waiting; hand = c.take.new.self; routes = old.routes } =
    same_work old waiting c.take.new.self c.in_default.ensures.items (empty ∙ sym left) in
    subst (λ (w : StoneWork). HasGone job cells counts counts old w self.unended known known built built Closed) is
    (next_gone job cells counts counts old old known built self.unended Closed (c.in_default.ensures.items ∙ none) empty
    c.requires.state c.requires.state c.requires.unended c.requires.met c.requires.pass
    (all_done job counts old (sym c.requires.unended ∙ c.if-self-eq0.true)))

pub take-requires-2-clause-more : goal.take-requires-2-clause-more
take-requires-2-clause-more g c =
    not_ended c.args.shared.now.job.now (seen c.args.self.now) (λ none. c.if-self-eq0.false (c.requires.unended ∙ none))
