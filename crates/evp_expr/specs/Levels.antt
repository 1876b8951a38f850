-- The levels at which operators between two operands bind, the loosest first, and the levels that
-- are open.
use Rattle.std.specs.Prelude.{ℕ, suc, List, [], ◌∷◌, Bool, true, false}
use Rattle.evp_expr.specs.declared.operator.Operator.{Operator}
use Rattle.evp_expr.specs.declared.operator.Operator.TheVariants.{Or, And, Equal, NotEqual, Less}
use Rattle.evp_expr.specs.declared.operator.Operator.TheVariants.{LessEqual, Greater, GreaterEqual}
use Rattle.evp_expr.specs.declared.operator.Operator.TheVariants.{Add, Subtract, Multiply, Divide}
use Rattle.evp_expr.specs.declared.operator.Operator.TheVariants.{Remainder}
use Rattle.evp_expr.specs.declared.state.Frame.{Frame}
use Rattle.evp_expr.specs.declared.state.Frame.TheVariants as frame
use Rattle.evp_expr.specs.declared.operator.Level.{Level}
use Rattle.evp_expr.specs.declared.operator.Level.TheVariants.{Disjunction, Conjunction, Comparison}
use Rattle.evp_expr.specs.declared.operator.Level.TheVariants.{Sum, Product}

abbrev pub level_of : Operator → Level
level_of Or = Disjunction
level_of And = Conjunction
level_of Equal = Comparison
level_of NotEqual = Comparison
level_of Less = Comparison
level_of LessEqual = Comparison
level_of Greater = Comparison
level_of GreaterEqual = Comparison
level_of Add = Sum
level_of Subtract = Sum
level_of Multiply = Product
level_of Divide = Product
level_of Remainder = Product

-- how tightly the operators of a level bind
abbrev pub rank : Level → ℕ
rank Disjunction = 0
rank Conjunction = 1
rank Comparison = 2
rank Sum = 3
rank Product = 4

-- whether a frame is a level that is counted
abbrev pub opens_level : Frame → Bool
opens_level (frame.Rung l p) = false
opens_level (frame.Sign at s) = true
opens_level frame.Group = true
opens_level (frame.Index at) = true
opens_level frame.Length = true
opens_level frame.Same = true

-- the levels that are open
abbrev pub levels : List Frame → ℕ
levels [] = 0
levels (frame.Rung l p ∷ fs) = levels fs
levels (frame.Sign place s ∷ fs) = suc (levels fs)
levels (frame.Group ∷ fs) = suc (levels fs)
levels (frame.Index place ∷ fs) = suc (levels fs)
levels (frame.Length ∷ fs) = suc (levels fs)
levels (frame.Same ∷ fs) = suc (levels fs)

-- whether a frame is a bracket, which ends with a token of its own
abbrev pub is_bracket : Frame → Bool
is_bracket (frame.Rung l p) = false
is_bracket (frame.Sign at s) = false
is_bracket frame.Group = true
is_bracket (frame.Index at) = true
is_bracket frame.Length = true
is_bracket frame.Same = true
