use Rattle.std.proofs.Common.{◌≡◌, ℕ, List, ◌<◌, ◌+◌, ◌++◌, ◌∷◌, [], drop, length, sym, ap, ◌∙◌, arith}
use Rattle.std.proofs.lemmas.Result.{err_from_is_err_and}
use Rattle.evp_stones.specs.DecimalNumber.{number_in}
use Rattle.evp_stones.specs.Order.{first_line, turn_at, turns_of}
use Rattle.evp_stones.proofs.Pushed.{all_more, pushed}
use Rattle.evp_stones.proofs.Turns.{TurnsSoFar, refused_too, rest_is, turn_more, turn_refused, turns_all, turns_end}
use Rattle.evp_stones.proofs.order.turns_in.Goals as goal

pub returns-then-at-bytes-clause-exact : goal.returns-then-at-bytes-clause-exact
returns-then-at-bytes-clause-exact c =
    turns_end c.args.actors c.args.name.now c.args.bytes.now c.loop.counter c.loop.at c.loop.turns.items (omega (arith, c.loop-test.true))
    c.if-at-bytes.true c.loop.invariant.so_far

pub returns-in_err-actor-clause-exact : goal.returns-in_err-actor-clause-exact
returns-in_err-actor-clause-exact c =
    let exit = err_from_is_err_and c.from_residual.result c.from_residual.ensures.1 in
    let line : c.first_line-line.result.now ≡ first_line (drop c.loop.at c.args.bytes.now) =
    c.first_line-line.ensures ∙ ap first_line (rest_is c.loop.at c.args.bytes.now) in
    let turn = λ (l : List ℕ). turn_at c.args.name.now c.loop.at (number_in c.args.actors l) in
    rw (exit.1, exit.2)
    (refused_too c.in_err-actor.field-0.0 (turn c.first_line-line.result.now) (turns_of c.args.actors c.args.name.now c.args.bytes.now)
    (λ bad. turn_refused c.args.actors c.args.name.now c.args.bytes.now c.loop.counter c.loop.at c.loop.turns.items c.in_err-actor.field-0.0
    c.loop-test.true (omega (arith, c.if-at-bytes.false)) (sym (ap turn line) ∙ bad) c.loop.invariant.so_far)
    c.in_err-actor.ensures.exact)

pub loop-preserved : goal.loop-preserved
loop-preserved c =
    let line : c.first_line-line.result.now ≡ first_line (drop c.loop.at c.args.bytes.now) =
    c.first_line-line.ensures ∙ ap first_line (rest_is c.loop.at c.args.bytes.now) in
    let items : c.push.new.self.items ≡ c.loop.turns.items ++ c.in_ok-actor.actor ∷ [] =
    pushed c.push.result c.push.new.self.items _ _ (sym c.is_err.ensures.value ∙ c.if-is_err.false) c.push.ensures.items in
    let more : TurnsSoFar c.args.actors c.args.name.now c.args.bytes.now (c.loop.counter + 1)
    (c.loop.at + (length (first_line (drop c.loop.at c.args.bytes.now)) + 1)) (c.loop.turns.items ++ c.in_ok-actor.actor ∷ []) =
    turn_more c.args.actors c.args.name.now c.args.bytes.now c.loop.counter c.loop.at c.loop.turns.items c.in_ok-actor.actor
    (omega (arith, c.if-at-bytes.false)) (rw line at c.in_ok-actor.ensures.exact) c.loop.invariant.so_far in
    record {
      so_far = rw (line, items) more;
      within = all_more (λ actor. actor < c.args.actors) c.push.new.self.items c.loop.turns.items c.in_ok-actor.actor items
          c.loop.invariant.within c.in_ok-actor.ensures.within;
    }

pub returns-clause-exact : goal.returns-clause-exact
returns-clause-exact c =
    turns_all c.args.actors c.args.name.now c.args.bytes.now c.loop.counter c.loop.at c.loop.turns.items
    (omega (arith, c.loop.auto.counter-end, c.loop-test.false)) c.loop.invariant.so_far
