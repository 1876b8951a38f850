use Rattle.std.proofs.Common.{rules, ◌≡◌, ◌^◌, ◌<◌, pos, SomeIff, ℤ, Option, None, sym, subst}
use Rattle.evp_expr.specs.Lexing.{decimal_from}
use Rattle.evp_expr.proofs.Decimals.{too_large}
use Rattle.evp_expr.proofs.lexer.decimal.Goals as goal

pub returns-in_err-value : goal.returns-in_err-value
returns-in_err-value c =
    let e : ◌≡◌ {A = Option ℤ} c.from_residual.result None = search rules in
    let h = c.in_err-value.ensures in
    subst (λ x. SomeIff x (decimal_from 0 c.args.digits.now < 2 ^ 127) (pos (decimal_from 0 c.args.digits.now))) (sym e)
    (too_large c.args.digits.now c.loop-digit.digit-index c.loop-digit.value (2 ^ 127) c.loop-digit-test.true c.loop-digit.invariant.1 h)
