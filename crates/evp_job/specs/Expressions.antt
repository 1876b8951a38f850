-- Expressions of a job document: their texts read, and bound to a format.
use Rattle.std.specs.Prelude.{ℕ, List, Option, Some, None, Result, Ok, Err}
use Rattle.evp_eval.specs.Bound.{BoundTree, bound_tree}
use Rattle.evp_eval.specs.Meaning.{bound}
use Rattle.evp_eval.specs.declared.fault.BindFault.{BindFault}
use Rattle.evp_expr.specs.Parsing.{HasTree, HasFault}
use Rattle.evp_expr.specs.Tree.{Tree}
use Rattle.evp_expr.specs.declared.fault.ExprFault.{ExprFault}
use Rattle.evp_format.specs.Layout.{Layout}
use Rattle.evp_job.specs.declared.fault.JobFault.{JobFault}
use Rattle.evp_job.specs.declared.fault.JobFault.TheVariants as fault
use Rattle.evp_job.specs.Steps.{◌>>=◌}

-- the tree that a text has, or its first fault
abbrev pub IsAnswer : List ℕ → Result Tree ExprFault → Type 0
IsAnswer text (Ok tree) = HasTree text tree
IsAnswer text (Err cause) = HasFault text cause

-- The answer for each text. By the grammar's laws there is one such reading of all texts, and no
-- other.
pub record Reading : Type 0 where
  pub answer : List ℕ → Result Tree ExprFault
  pub right : (text : List ℕ) → IsAnswer text (answer text)

-- stone k, setting j
abbrev pub tree_at : ℕ → ℕ → Result Tree ExprFault → Result Tree JobFault
tree_at k j (Ok tree) = Ok tree
tree_at k j (Err cause) = Err (fault.Expr k j cause)

abbrev pub bound_at : ℕ → ℕ → Layout → Tree → Option BindFault → Result BoundTree JobFault
bound_at k j layout tree None = Ok (bound_tree tree layout)
bound_at k j layout tree (Some cause) = Err (fault.Bind k j cause)

-- the expression of this text over records of this layout
unfoldable pub expression_in : Reading → ℕ → ℕ → Layout → List ℕ → Result BoundTree JobFault
expression_in reading k j layout text = do
  tree ← tree_at k j (reading.answer text)
  bound_at k j layout tree (bound layout tree)
