-- The answers of closing frames one by one.
use Rattle.std.proofs.Common.{◌≡◌, ℕ, List, [], ◌∷◌, Option, Some, None, Result, sym, ◌∙◌, ap, subst}
use Rattle.evp_expr.specs.declared.fault.ExprFault.{ExprFault}
use Rattle.evp_expr.specs.declared.operator.Operator.{Operator}
use Rattle.evp_expr.specs.declared.operator.Level.{Level}
use Rattle.evp_expr.specs.declared.token.Token.{Token}
use Rattle.evp_expr.specs.declared.state.Pending.{Pending}
use Rattle.evp_expr.specs.declared.state.Frame.{Frame}
use Rattle.evp_expr.specs.declared.state.Frame.TheVariants as frame
use Rattle.evp_expr.specs.declared.state.Mode.{Mode}
use Rattle.evp_expr.specs.declared.state.Mode.TheVariants as mode
use Rattle.evp_expr.specs.Tree.{Tree}
use Rattle.evp_expr.specs.Steps.{state, above, joins, after, settle}
use Rattle.evp_expr.specs.Opening.{Answers}
use Rattle.evp_expr.proofs.After.{after_rung_some}

module _ (at : ℕ) (tok : Token) (fs : List Frame) (ts : List Tree) (fs0 : List Frame) (ts0 : List Tree)
    (same : after at tok fs ts ≡ after at tok fs0 ts0) (result : Result Mode ExprFault) (fs1 : List Frame) (ts1 : List Tree) where
  pub answers_join : (gs : List Frame) (us : List Tree) (level : Level) (pending : Option Pending) (o : Operator)
      → fs ≡ frame.Rung level pending ∷ gs → us ≡ settle pending ts → joins level pending tok ≡ Some o
      → Answers at (Some (state mode.Operand (above level (frame.Rung level (Some (record { at = at; operator = o })) ∷ gs)) us)) result fs1
      ts1 → Answers at (after at tok fs0 ts0) result fs1 ts1
  answers_join gs us level pending o e settled j h =
      let w = sym same ∙ (ap (λ x. after at tok x ts) e ∙ after_rung_some at tok level pending o gs ts j) in
      subst (λ x. Answers at x result fs1 ts1) (sym w)
      (subst (λ x. Answers at
      (Some (state mode.Operand (above level (frame.Rung level (Some (record { at = at; operator = o })) ∷ gs)) x)) result fs1 ts1)
      settled h)

  pub answers_leave : (gs : List Frame) (bracket : Frame) → fs ≡ bracket ∷ gs → Answers at (after at tok (bracket ∷ gs) ts) result fs1 ts1
      → Answers at (after at tok fs0 ts0) result fs1 ts1
  answers_leave gs bracket e h =
      let w = sym same ∙ ap (λ x. after at tok x ts) e in
      subst (λ x. Answers at x result fs1 ts1) (sym w) h

pub nothing_open : (at : ℕ) (tok : Token) (fs : List Frame) (ts : List Tree) (fs0 : List Frame) (ts0 : List Tree)
    → after at tok fs ts ≡ after at tok fs0 ts0 → fs ≡ [] → after at tok fs0 ts0 ≡ None
nothing_open at tok fs ts fs0 ts0 same e = sym same ∙ ap (λ x. after at tok x ts) e
