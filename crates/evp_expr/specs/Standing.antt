-- The states that reading can reach: their frames stand in order, and each has its trees.
use Rattle.std.specs.Prelude.{◌≡◌, ℕ, ◌<◌, List, [], ◌∷◌, Option, Some, None}
use Rattle.evp_expr.specs.declared.state.Frame.{Frame}
use Rattle.evp_expr.specs.declared.state.Frame.TheVariants as frame
use Rattle.evp_expr.specs.declared.state.Mode.{Mode}
use Rattle.evp_expr.specs.declared.state.Mode.TheVariants as mode
use Rattle.evp_expr.specs.Levels.{rank}
use Rattle.evp_expr.specs.declared.state.Pending.{Pending}
use Rattle.evp_expr.specs.Nodes.{HasTwo}
use Rattle.evp_expr.specs.Tree.{Tree}

-- The rungs stand in order: on top of the frames rungs of a rank below n alone, each looser than
-- the one before, up to a bracket; signs stand on a whole ladder alone. And each pending operator
-- has its left tree.
abbrev pub Ordered : ℕ → List Frame → List Tree → Type 0
Ordered n [] [] = Unit {0}
Ordered n [] (x ∷ xs) = ⊥
Ordered n (frame.Rung level None ∷ fs) trees = (rank level < n) × Ordered (rank level) fs trees
Ordered n (frame.Rung level (Some p) ∷ fs) [] = ⊥
Ordered n (frame.Rung level (Some p) ∷ fs) (left ∷ trees) =
    (rank level < n) × Ordered (rank level) fs trees
Ordered n (frame.Sign at s ∷ fs) trees = (n ≡ 5) × Ordered 5 fs trees
Ordered n (frame.Group ∷ fs) trees = Ordered 5 fs trees
Ordered n (frame.Index at ∷ fs) [] = ⊥
Ordered n (frame.Index at ∷ fs) (p ∷ trees) = Ordered 5 fs trees
Ordered n (frame.Length ∷ fs) trees = Ordered 5 fs trees
Ordered n (frame.Same ∷ fs) trees = Ordered 5 fs trees

-- a state that reading can reach
abbrev pub StandsAt : Mode → List Frame → List Tree → Type 0
StandsAt mode.Operand fs trees = Ordered 5 fs trees
StandsAt mode.PathStart fs trees = Ordered 5 fs trees
StandsAt mode.FieldName fs [] = ⊥
StandsAt mode.FieldName fs (p ∷ trees) = Ordered 5 fs trees
StandsAt (mode.AfterName at word) fs trees = Ordered 5 fs trees
StandsAt mode.AfterPath fs [] = ⊥
StandsAt mode.AfterPath fs (p ∷ trees) = Ordered 5 fs trees
StandsAt mode.AfterOperand fs [] = ⊥
StandsAt mode.AfterOperand fs (l ∷ trees) = Ordered 5 fs trees
StandsAt mode.TextOfSame (frame.Same ∷ fs) (p ∷ trees) = Ordered 5 fs trees
StandsAt mode.TextOfSame _ _ = ⊥
StandsAt (mode.EndOfSame text) (frame.Same ∷ fs) (p ∷ trees) = Ordered 5 fs trees
StandsAt (mode.EndOfSame text) _ _ = ⊥

-- an operand stands ready behind these frames
abbrev pub HasOperand : List Frame → List Tree → Type 0
HasOperand fs [] = ⊥
HasOperand fs (l ∷ trees) = (n : ℕ) × Ordered n fs trees

-- the operands of a pending operator stand ready
abbrev pub CanSettle : Option Pending → List Tree → Type 0
CanSettle None trees = Unit {0}
CanSettle (Some p) trees = HasTwo trees
