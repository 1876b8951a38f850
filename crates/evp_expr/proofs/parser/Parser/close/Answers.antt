use Rattle.std.proofs.Common.{◌∷◌, refl, sym, ◌∙◌, ap}
use Rattle.evp_expr.specs.declared.state.Frame.TheVariants.{Rung}
use Rattle.evp_expr.proofs.Closing.{answers_join, answers_leave, nothing_open}
use Rattle.evp_expr.proofs.parser.Parser.close.Goals as goal

pub returns-in-Some-joining : goal.returns-in-Some-joining
returns-in-Some-joining c =
    let joins = c.in-Some-joining.ensures in
    let settled = c.in_ok-settle-in-Rung.ensures.settled in
    let e =
    c.in-Some.ensures.popped
    ∙ (ap (λ x. x ∷ c.pop.new.self) c.in-Rung.is ∙ ap (λ x. Rung c.in-Rung.level c.in-Rung.pending ∷ x)
    (sym c.in_ok-settle-in-Rung.ensures.same)) in
    answers_join c.args.at c.args.token.now c.loop-frame.self.frames c.loop-frame.self.trees c.args.self.now.frames c.args.self.now.trees
    c.loop-frame.invariant.0 c.join.result c.join.new.self.frames c.join.new.self.trees c.settle.new.self.frames c.settle.new.self.trees
    c.in-Rung.level c.in-Rung.pending c.in-Some-joining.operator e settled (sym joins) c.join.ensures

pub returns-in_default-frame : goal.returns-in_default-frame
returns-in_default-frame c =
    answers_leave c.args.at c.args.token.now c.loop-frame.self.frames c.loop-frame.self.trees c.args.self.now.frames c.args.self.now.trees
    c.loop-frame.invariant.0 c.leave.result c.leave.new.self.frames c.leave.new.self.trees c.pop.new.self c.in-Some.frame
    c.in-Some.ensures.popped c.leave.ensures

pub returns : goal.returns
returns c = (
  nothing_open c.args.at c.args.token.now c.loop-frame.self.frames c.loop-frame.self.trees c.args.self.now.frames c.args.self.now.trees
      c.loop-frame.invariant.0 c.in_default.ensures.popped.0,
  refl,
)
