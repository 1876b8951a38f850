-- What completes a state of reading to an expression, by the grammar.
use Rattle.std.proofs.Common.{◌≡◌, ℕ, suc, List, [], ◌∷◌, Some, None}
use Rattle.evp_expr.specs.declared.token.Placed.{Placed}
use Rattle.evp_expr.specs.declared.token.Token.TheVariants as token
use Rattle.evp_expr.specs.declared.state.Frame.{Frame}
use Rattle.evp_expr.specs.declared.state.Frame.TheVariants as frame
use Rattle.evp_expr.specs.declared.state.Mode.{Mode}
use Rattle.evp_expr.specs.declared.state.Mode.TheVariants as mode
use Rattle.evp_expr.specs.Tree.{Tree, field, index, length_of, same, signed, joined}
use Rattle.evp_expr.specs.Grammar.{Part, Behind, Unary, Atom, Path, BehindPath, Front, behind}
use Rattle.evp_expr.specs.Lexing.{placed}
use Rattle.evp_expr.specs.Steps.{State}

-- Behind an operand with the tree l, within these frames, the tokens complete the whole, with the tree t.
-- At most d further levels may be open within the operand.
abbrev pub Resumes : ℕ → List Frame → List Tree → Tree → List Placed → Tree → Type 0
Resumes d [] [] l ts t = (ts ≡ []) × (l ≡ t)
Resumes d [] (x ∷ xs) l ts t = ⊥
Resumes d (frame.Rung level None ∷ fs) trees l ts t =
    (us : List Placed) × (m : Tree) × Front d (Behind level l) ts us m × Resumes d fs trees m us t
Resumes d (frame.Rung level (Some p) ∷ fs) [] l ts t = ⊥
Resumes d (frame.Rung level (Some p) ∷ fs) (left ∷ trees) l ts t =
    (us : List Placed) × (m : Tree) × Front d (behind level (joined p.at p.operator left l)) ts us m × Resumes d fs trees m us t
Resumes d (frame.Sign at s ∷ fs) trees l ts t = Resumes (suc d) fs trees (signed at s l) ts t
Resumes d (frame.Group ∷ fs) trees l ts t =
    (end : ℕ) × (us : List Placed) × (ts ≡ placed end token.CloseParen ∷ us) × Resumes (suc d) fs trees l us t
Resumes d (frame.Index at ∷ fs) [] l ts t = ⊥
Resumes d (frame.Index at ∷ fs) (p ∷ trees) l ts t =
    (end : ℕ) × (us : List Placed) × (vs : List Placed) × (m : Tree) × (ts ≡ placed end token.CloseBracket ∷ us)
    × Front (suc d) (BehindPath (index p at l)) us vs m × Resumes (suc d) fs trees m vs t
Resumes d (frame.Length ∷ fs) trees l ts t =
    (end : ℕ) × (us : List Placed) × (ts ≡ placed end token.CloseParen ∷ us) × Resumes (suc d) fs trees (length_of l) us t
Resumes d (frame.Same ∷ fs) trees l ts t =
    (comma : ℕ) × (quote : ℕ) × (end : ℕ) × (text : List ℕ) × (us : List Placed)
    × (ts ≡ placed comma token.Comma ∷ placed quote (token.Text text) ∷ placed end token.CloseParen ∷ us)
    × Resumes (suc d) fs trees (same l text) us t

-- a phrase of the part stands next, and the rest completes the whole
abbrev pub Continues : Part → ℕ → List Frame → List Tree → List Placed → Tree → Type 0
Continues part d fs trees ts t = (us : List Placed) × (m : Tree) × Front d part ts us m × Resumes d fs trees m us t

-- the tokens complete the state to an expression with the tree t
abbrev pub CompletesAt : Mode → ℕ → List Frame → List Tree → List Placed → Tree → Type 0
CompletesAt mode.Operand d fs trees ts t = Continues Unary d fs trees ts t
CompletesAt mode.PathStart d fs trees ts t = Continues Path d fs trees ts t
CompletesAt mode.FieldName d fs [] ts t = ⊥
CompletesAt mode.FieldName d fs (p ∷ trees) ts t =
    (at : ℕ) × (word : List ℕ) × (us : List Placed) × (ts ≡ placed at (token.Name word) ∷ us)
    × Continues (BehindPath (field p at word)) d fs trees us t
CompletesAt (mode.AfterName at word) d fs trees ts t = Continues Atom d fs trees (placed at (token.Name word) ∷ ts) t
CompletesAt mode.AfterPath d fs [] ts t = ⊥
CompletesAt mode.AfterPath d fs (p ∷ trees) ts t = Continues (BehindPath p) d fs trees ts t
CompletesAt mode.AfterOperand d fs [] ts t = ⊥
CompletesAt mode.AfterOperand d fs (l ∷ trees) ts t = Resumes d fs trees l ts t
CompletesAt mode.TextOfSame d (frame.Same ∷ fs) (p ∷ trees) ts t =
    (quote : ℕ) × (end : ℕ) × (text : List ℕ) × (us : List Placed)
    × (ts ≡ placed quote (token.Text text) ∷ placed end token.CloseParen ∷ us) × Resumes (suc d) fs trees (same p text) us t
CompletesAt mode.TextOfSame d _ _ ts t = ⊥
CompletesAt (mode.EndOfSame text) d (frame.Same ∷ fs) (p ∷ trees) ts t =
    (end : ℕ) × (us : List Placed) × (ts ≡ placed end token.CloseParen ∷ us) × Resumes (suc d) fs trees (same p text) us t
CompletesAt (mode.EndOfSame text) d _ _ ts t = ⊥

abbrev pub Completes : ℕ → State → List Placed → Tree → Type 0
Completes d s ts t = CompletesAt s.mode d s.frames s.trees ts t
