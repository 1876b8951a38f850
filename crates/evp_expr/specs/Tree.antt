-- The tree of an expression, with the places that a later fault can name.
use Rattle.std.specs.Prelude.{ℕ, ℤ, List}
use Rattle.evp_expr.specs.declared.operator.Operator.{Operator}
use Rattle.evp_expr.specs.declared.operator.Sign.{Sign}

-- A path is a `name`, a `field` or an `index`. Each number ℕ is a place: of a name, of the `[`, of
-- an operator.
pub data Tree : Type 0 where
  number : ℤ → Tree
  name : ℕ → List ℕ → Tree
  field : Tree → ℕ → List ℕ → Tree
  index : Tree → ℕ → Tree → Tree
  length_of : Tree → Tree
  same : Tree → List ℕ → Tree
  signed : ℕ → Sign → Tree → Tree
  joined : ℕ → Operator → Tree → Tree → Tree
