use Rattle.std.proofs.Common.{◌≡◌, Result, Err, sym, ◌∙◌, ap, subst, rules, arith, length}
use Rattle.std.proofs.lemmas.List.{nil_from_length}
use Rattle.evp_expr.specs.declared.fault.ExprFault.{ExprFault}
use Rattle.evp_expr.specs.Tree.{Tree}
use Rattle.evp_expr.specs.Parsing.{ReadAnswers}
use Rattle.evp_expr.specs.Steps.{state}
use Rattle.evp_expr.proofs.Reading.{token_read, step_stands, fault_read, read_stands, finish_sound, end_read}
use Rattle.evp_expr.proofs.parser.read.Goals as goal
use Rattle.evp_expr.proofs.Running.{run}

pub returns-in_err-mode : goal.returns-in_err-mode
returns-in_err-mode c =
    let same : ◌≡◌ {A = Result Tree ExprFault} c.from_residual-in_err-mode.result (Err c.in_err-mode.field-0.0) = search rules in
    let rest =
    c.loop-placed.invariant.0 ∙ ap (λ x. run (state c.loop-placed.mode c.loop-placed.parser.frames c.loop-placed.parser.trees) x)
    c.in-Some.ensures.items in
    subst (λ x. ReadAnswers c.args.tokens.items c.args.end x) (sym same)
    (fault_read c.args.tokens.items c.pop_front.new.self.items
    (state c.loop-placed.mode c.loop-placed.parser.frames c.loop-placed.parser.trees) c.in-Some.placed c.args.end c.take.new.self.frames
    c.take.new.self.trees c.in_err-mode.field-0.0 c.in_err-mode.ensures rest)

pub finish-requires : goal.finish-requires
finish-requires c =
    let n : length c.loop-placed.tokens.items ≡ 0 = omega (arith, c.in_default.ensures.cases.0) in
    let all =
    c.loop-placed.invariant.0 ∙ ap (λ x. run (state c.loop-placed.mode c.loop-placed.parser.frames c.loop-placed.parser.trees) x)
    (nil_from_length c.loop-placed.tokens.items n) in
    record {
      reached = read_stands c.args.tokens.items (state c.loop-placed.mode c.loop-placed.parser.frames c.loop-placed.parser.trees) all;
      sound = finish_sound c.args.tokens.items (state c.loop-placed.mode c.loop-placed.parser.frames c.loop-placed.parser.trees) all;
    }

pub returns : goal.returns
returns c =
    let n : length c.loop-placed.tokens.items ≡ 0 = omega (arith, c.in_default.ensures.cases.0) in
    let all =
    c.loop-placed.invariant.0 ∙ ap (λ x. run (state c.loop-placed.mode c.loop-placed.parser.frames c.loop-placed.parser.trees) x)
    (nil_from_length c.loop-placed.tokens.items n) in
    end_read c.args.tokens.items (state c.loop-placed.mode c.loop-placed.parser.frames c.loop-placed.parser.trees) c.args.end
    c.finish.result all c.finish.ensures

pub loop-placed-preserved : goal.loop-placed-preserved
loop-placed-preserved c =
    let rest =
    c.loop-placed.invariant.0 ∙ ap (λ x. run (state c.loop-placed.mode c.loop-placed.parser.frames c.loop-placed.parser.trees) x)
    c.in-Some.ensures.items in (
      token_read c.args.tokens.items c.pop_front.new.self.items
          (state c.loop-placed.mode c.loop-placed.parser.frames c.loop-placed.parser.trees)
          (state c.in_ok-mode.mode c.take.new.self.frames c.take.new.self.trees) c.in-Some.placed rest c.in_ok-mode.ensures
          c.take.new.self.within,
      step_stands c.loop-placed.mode c.loop-placed.parser.frames c.loop-placed.parser.trees c.in-Some.placed
          (state c.in_ok-mode.mode c.take.new.self.frames c.take.new.self.trees) c.loop-placed.invariant.1 c.in_ok-mode.ensures,
    )
