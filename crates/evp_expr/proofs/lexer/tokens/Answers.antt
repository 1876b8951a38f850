use Rattle.std.proofs.Common.{◌+◌, drop, sym, ◌∙◌, ap, arith}
use Rattle.evp_expr.specs.Lexing.{scan}
use Rattle.evp_expr.proofs.Scans.{after_tokens, past_token}
use Rattle.evp_expr.proofs.lexer.tokens.Goals as goal

pub overflow_add-at-else-is_blank : goal.overflow_add-at-else-is_blank
overflow_add-at-else-is_blank c =
    let past =
    past_token c.args.text.now c.loop-at.at c.loop-at.found.items c.in_ok-token.token c.in_ok-token.length c.loop-at-test.true
    (sym c.if-is_blank.ensures) c.in_ok-token.ensures in
    omega (arith, past.within)

pub loop-at-smaller : goal.loop-at-smaller
loop-at-smaller c =
    let past =
    past_token c.args.text.now c.loop-at.at c.loop-at.found.items c.in_ok-token.token c.in_ok-token.length c.loop-at-test.true
    (sym c.if-is_blank.ensures) c.in_ok-token.ensures in
    omega (arith, past.within, past.some_bytes)

pub loop-at-preserved : goal.loop-at-preserved
loop-at-preserved c =
    let past =
    past_token c.args.text.now c.loop-at.at c.loop-at.found.items c.in_ok-token.token c.in_ok-token.length c.loop-at-test.true
    (sym c.if-is_blank.ensures) c.in_ok-token.ensures in (
      past.within,
      ap (λ x. after_tokens x (scan 0 (c.loop-at.at + c.in_ok-token.length) (drop (c.loop-at.at + c.in_ok-token.length) c.args.text.now)))
          c.in_ok-push_back.ensures.items ∙ (sym past.scanned ∙ c.loop-at.invariant.1),
    )
