-- Laws of the grammar and of the faults.
use Rattle.std.specs.Prelude.{◌≡◌, ℕ, ◌≤◌, List, length, ◌⊎◌}
use Rattle.evp_expr.specs.declared.fault.ExprFault.{ExprFault}
use Rattle.evp_expr.specs.Tree.{Tree}
use Rattle.evp_expr.specs.Grammar.{most_levels}
use Rattle.evp_expr.specs.Parsing.{HasTree, HasFault, most_bytes}
use Rattle.evp_expr.specs.Sound.{IsFormed, IsSound}
use Rattle.evp_expr.specs.Printing.{printed, height, IsLegal, bare}

abbrev pub OneTree : Type 0
OneTree = (text : List ℕ) (a b : Tree) → HasTree text a → HasTree text b → a ≡ b

abbrev pub TreeOrFault : Type 0
TreeOrFault =
    (text : List ℕ) (tree : Tree) (fault : ExprFault) → HasTree text tree → ¬ HasFault text fault

abbrev pub OneFault : Type 0
OneFault = (text : List ℕ) (a b : ExprFault) → HasFault text a → HasFault text b → a ≡ b

abbrev pub EachTextIsAnswered : Type 0
EachTextIsAnswered =
    (text : List ℕ)
    → ((tree : Tree) × HasTree text tree) ⊎ ((fault : ExprFault) × HasFault text fault)

-- in a tree that a text has, a path stands wherever one should, and few values stand ready at once
abbrev pub TreesAreSound : Type 0
TreesAreSound = (text : List ℕ) (tree : Tree) → HasTree text tree → IsSound tree

-- A tree's text is read back as that tree, with the places that its parts have in the text. So what
-- can be printed is never refused, where it isn't too long and its levels aren't too many.
abbrev pub ReadsBack : Type 0
ReadsBack =
    (tree : Tree) → IsFormed tree → IsLegal tree
    → height tree ≤ most_levels → length (printed tree) ≤ most_bytes
    → (read : Tree) × HasTree (printed tree) read × (bare read ≡ bare tree)
