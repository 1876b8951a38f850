-- The expressions of the generator's stones, read and bound.
use Rattle.std.proofs.Common.{◌≡◌, ℕ, List, [], ◌∷◌, ◌++◌, codes, pos, None, Result, Ok, Err, refl, ap, arith, decimal}
use Rattle.std.specs.Fmt.{digits}
use Rattle.evp_eval.specs.Bound.{bound_tree}
use Rattle.evp_eval.specs.Meaning.{bound}
use Rattle.evp_expr.specs.declared.fault.ExprFault.{ExprFault}
use Rattle.evp_expr.specs.declared.operator.Operator.TheVariants as operator
use Rattle.evp_expr.specs.declared.token.Token.TheVariants as token
use Rattle.evp_expr.specs.Grammar.{IsExpression, most_levels, chain, no_more, more, complete}
use Rattle.evp_expr.specs.Grammar.{unsigned, literal, group, path, first, path_end}
use Rattle.evp_expr.specs.Laws.{OneTree, TreeOrFault}
use Rattle.evp_expr.specs.Lexing.{placed}
use Rattle.evp_expr.specs.Parsing.{HasTree}
use Rattle.evp_expr.specs.Tree.{Tree}
use Rattle.evp_format.specs.Layout.{Layout}
use Rattle.evp_job.specs.Expressions.{Reading, IsAnswer, expression_in, tree_at, bound_at}
use Rattle.evp_stones.specs.BenchJob.{thirds, squares, fifths, evens}
use Rattle.evp_stones.proofs.BenchSteps.{then_is}

-- each reading finds the tree that a text has
pub answered : OneTree → TreeOrFault → (reading : Reading) (text : List ℕ) (tree : Tree) → HasTree text tree
    → reading.answer text ≡ Ok tree
answered one no_fault reading text tree has = by (reading.answer text) (reading.right text) where
  by : (r : Result Tree ExprFault) → IsAnswer text r → r ≡ Ok tree
  by (Ok other) is = ap Ok (one text other tree is has)
  by (Err fault) is = absurd (no_fault text tree fault has is)

-- which is bound where it has a meaning
pub expression_is : (reading : Reading) (k j : ℕ) (layout : Layout) (text : List ℕ) (tree : Tree)
    → reading.answer text ≡ Ok tree → bound layout tree ≡ None
    → expression_in reading k j layout text ≡ Ok (bound_tree tree layout)
unfolding expression_in
expression_is reading k j layout text tree answer means =
    then_is _ (ap (tree_at k j) answer) (ap (bound_at k j layout tree) means)

-- ---- the four texts

thirds_parsed : IsExpression most_levels
    (placed 0 (token.Name (codes "x")) ∷ placed 2 (token.Operator operator.Remainder) ∷ placed 4 (token.Number (pos 3))
    ∷ placed 6 (token.Operator operator.NotEqual) ∷ placed 9 (token.Number (pos 0)) ∷ []) thirds
thirds_parsed =
    chain (chain (chain
    (chain (chain (unsigned (path (first path_end))) (more refl (unsigned literal) no_more)) no_more)
    (more refl (chain (chain (unsigned literal) no_more) no_more) complete)) no_more) no_more

pub thirds_there : HasTree (codes "x % 3 != 0") thirds
thirds_there = record { tokens = _; short = omega arith; scanned = refl; parsed = thirds_parsed }

evens_parsed : IsExpression most_levels
    (placed 0 (token.Name (codes "y")) ∷ placed 2 (token.Operator operator.Remainder) ∷ placed 4 (token.Number (pos 2))
    ∷ placed 6 (token.Operator operator.Equal) ∷ placed 9 (token.Number (pos 0)) ∷ []) evens
evens_parsed =
    chain (chain (chain
    (chain (chain (unsigned (path (first path_end))) (more refl (unsigned literal) no_more)) no_more)
    (more refl (chain (chain (unsigned literal) no_more) no_more) complete)) no_more) no_more

pub evens_there : HasTree (codes "y % 2 == 0") evens
evens_there = record { tokens = _; short = omega arith; scanned = refl; parsed = evens_parsed }

fifths_parsed : IsExpression most_levels
    (placed 0 token.OpenParen ∷ placed 1 (token.Name (codes "x")) ∷ placed 3 (token.Operator operator.Add)
    ∷ placed 5 (token.Number (pos 500))
    ∷ placed 8 token.CloseParen ∷ placed 10 (token.Operator operator.Remainder) ∷ placed 12 (token.Number (pos 5)) ∷ []) fifths
fifths_parsed =
    chain (chain (chain (chain
    (chain
    (unsigned (group {d = 63}
    (chain (chain (chain
    (chain (chain (unsigned (path (first path_end))) no_more) (more refl (chain (unsigned literal) no_more) no_more))
    no_more) no_more) no_more)))
    (more refl (unsigned literal) no_more)) no_more) no_more) no_more) no_more

pub fifths_there : HasTree (codes "(x + 500) % 5") fifths
fifths_there = record { tokens = _; short = omega arith; scanned = refl; parsed = fifths_parsed }

squares_parsed : (k : ℕ) → IsExpression most_levels
    (placed 0 (token.Name (codes "x")) ∷ placed 1 (token.Operator operator.Multiply) ∷ placed 2 (token.Name (codes "x"))
    ∷ placed 4 (token.Operator operator.Subtract) ∷ placed 6 (token.Number (pos k)) ∷ []) (squares k)
squares_parsed k =
    chain (chain (chain
    (chain (chain (unsigned (path (first path_end))) (more refl (unsigned (path (first path_end))) no_more))
    (more refl (chain (unsigned literal) no_more) no_more)) no_more) no_more) no_more

pub first_square : HasTree (codes "x*x - " ++ decimal 0) (squares 0)
unfolding digits
first_square = record { tokens = _; short = omega arith; scanned = refl; parsed = squares_parsed 0 }

pub second_square : HasTree (codes "x*x - " ++ decimal 1) (squares 1)
unfolding digits
second_square = record { tokens = _; short = omega arith; scanned = refl; parsed = squares_parsed 1 }

pub third_square : HasTree (codes "x*x - " ++ decimal 2) (squares 2)
unfolding digits
third_square = record { tokens = _; short = omega arith; scanned = refl; parsed = squares_parsed 2 }

pub fourth_square : HasTree (codes "x*x - " ++ decimal 3) (squares 3)
unfolding digits
fourth_square = record { tokens = _; short = omega arith; scanned = refl; parsed = squares_parsed 3 }
