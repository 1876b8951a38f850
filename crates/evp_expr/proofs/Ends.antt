-- Each state that can be reached can be completed, and is complete exactly where the grammar says so.
use Rattle.std.proofs.Common.{◌≡◌, ℕ, suc, List, [], ◌∷◌, Some, None, pos, refl, sym, ap, subst}
use Rattle.evp_expr.specs.declared.operator.Level.{Level}
use Rattle.evp_expr.specs.declared.operator.Level.TheVariants.{Disjunction, Conjunction, Comparison, Sum, Product}
use Rattle.evp_expr.specs.declared.token.Placed.{Placed}
use Rattle.evp_expr.specs.declared.token.Token.TheVariants as token
use Rattle.evp_expr.specs.declared.state.Frame.{Frame}
use Rattle.evp_expr.specs.declared.state.Frame.TheVariants as frame
use Rattle.evp_expr.specs.declared.state.Mode.{Mode}
use Rattle.evp_expr.specs.declared.state.Mode.TheVariants as mode
use Rattle.evp_expr.specs.Levels.{rank}
use Rattle.evp_expr.specs.Tree.{Tree, number, name, field, index, length_of, same, signed, joined}
use Rattle.evp_expr.specs.Lexing.{placed}
use Rattle.evp_expr.specs.Grammar.{Behind, Unary, Atom, Path, BehindPath, Front, behind, no_more, complete, unsigned, literal, path, first}
use Rattle.evp_expr.specs.Grammar.{path_end}
use Rattle.evp_expr.specs.Steps.{close_all, finish_at}
use Rattle.evp_expr.specs.Standing.{Ordered, StandsAt}
use Rattle.evp_expr.proofs.Completes.{Resumes, CompletesAt}
use Rattle.evp_expr.proofs.AfterSound.{behind_ends}

-- some tokens complete a whole
Completable : ℕ → List Frame → List Tree → Tree → Type 0
Completable d fs trees l = (ts : List Placed) × (t : Tree) × Resumes d fs trees l ts t

resumable : (n d : ℕ) (fs : List Frame) (trees : List Tree) (l : Tree) → Ordered n fs trees → Completable d fs trees l
unfolding Completable
resumable n d [] [] l o = ([], l, (refl, refl))
resumable n d [] (x ∷ trees) l o = elim o [ ]
resumable n d (frame.Rung level None ∷ fs) trees l o =
    let w = resumable (rank level) d fs trees l o.1 in (w.0, w.1, (w.0, l, no_more, w.2))
resumable n d (frame.Rung level (Some p) ∷ fs) [] l o = elim o [ ]
resumable n d (frame.Rung level (Some p) ∷ fs) (left ∷ trees) l o =
    let w =
    resumable (rank level) d fs trees (joined p.at p.operator left l) o.1 in
    (w.0, w.1, (w.0, joined p.at p.operator left l, behind_ends level d w.0 _, w.2))
resumable n d (frame.Sign at s ∷ fs) trees l o = resumable 5 (suc d) fs trees (signed at s l) o.1
resumable n d (frame.Group ∷ fs) trees l o =
    let w = resumable 5 (suc d) fs trees l o in (placed 0 token.CloseParen ∷ w.0, w.1, (0, w.0, refl, w.2))
resumable n d (frame.Index at ∷ fs) [] l o = elim o [ ]
resumable n d (frame.Index at ∷ fs) (p ∷ trees) l o =
    let w =
    resumable 5 (suc d) fs trees (index p at l) o in (
      placed 0 token.CloseBracket ∷ w.0,
      w.1,
      (0, w.0, w.0, index p at l, refl, path_end, w.2),
    )
resumable n d (frame.Length ∷ fs) trees l o =
    let w = resumable 5 (suc d) fs trees (length_of l) o in (placed 0 token.CloseParen ∷ w.0, w.1, (0, w.0, refl, w.2))
resumable n d (frame.Same ∷ fs) trees l o =
    let w =
    resumable 5 (suc d) fs trees (same l []) o in (
      placed 0 token.Comma ∷ placed 0 (token.Text []) ∷ placed 0 token.CloseParen ∷ w.0,
      w.1,
      (0, 0, 0, [], w.0, refl, w.2),
    )

pub completable : (m : Mode) (d : ℕ) (fs : List Frame) (trees : List Tree) → StandsAt m fs trees → (ts : List Placed) × (t : Tree)
    × CompletesAt m d fs trees ts t
unfolding Completable
completable mode.Operand d fs trees o =
    let w =
    resumable 5 d fs trees (number (pos 0)) o in (
      placed 0 (token.Number (pos 0)) ∷ w.0,
      w.1,
      (w.0, number (pos 0), unsigned literal, w.2),
    )
completable mode.PathStart d fs trees o =
    let w = resumable 5 d fs trees (name 0 []) o in (placed 0 (token.Name []) ∷ w.0, w.1, (w.0, name 0 [], first path_end, w.2))
completable mode.FieldName d fs [] o = elim o [ ]
completable mode.FieldName d fs (p ∷ trees) o =
    let w =
    resumable 5 d fs trees (field p 0 []) o in (
      placed 0 (token.Name []) ∷ w.0,
      w.1,
      (0, [], w.0, refl, (w.0, field p 0 [], path_end, w.2)),
    )
completable (mode.AfterName at word) d fs trees o =
    let w = resumable 5 d fs trees (name at word) o in (w.0, w.1, (w.0, name at word, path (first path_end), w.2))
completable mode.AfterPath d fs [] o = elim o [ ]
completable mode.AfterPath d fs (p ∷ trees) o =
    let w = resumable 5 d fs trees p o in (w.0, w.1, (w.0, p, path_end, w.2))
completable mode.AfterOperand d fs [] o = elim o [ ]
completable mode.AfterOperand d fs (l ∷ trees) o = resumable 5 d fs trees l o
completable mode.TextOfSame d (frame.Same ∷ fs) (p ∷ trees) o =
    let w =
    resumable 5 (suc d) fs trees (same p []) o in (
      placed 0 (token.Text []) ∷ placed 0 token.CloseParen ∷ w.0,
      w.1,
      (0, 0, [], w.0, refl, w.2),
    )
completable mode.TextOfSame d _ _ o = elim o [ ]
completable (mode.EndOfSame text) d (frame.Same ∷ fs) (p ∷ trees) o =
    let w = resumable 5 (suc d) fs trees (same p text) o in (placed 0 token.CloseParen ∷ w.0, w.1, (0, w.0, refl, w.2))
completable (mode.EndOfSame text) d _ _ o = elim o [ ]

-- nothing stands behind a phrase where no token is left
behind_nothing : {d : ℕ} {l : Level} {lt : Tree} {us : List Placed} {m : Tree} → Front d (Behind l lt) [] us m → ([] ≡ us) × (lt ≡ m)
behind_nothing no_more = (refl, refl)

pending_nothing : (l : Level) {d : ℕ} {lt : Tree} {us : List Placed} {m : Tree} → Front d (behind l lt) [] us m → ([] ≡ us) × (lt ≡ m)
pending_nothing Disjunction f = behind_nothing f
pending_nothing Conjunction f = behind_nothing f
pending_nothing Comparison complete = (refl, refl)
pending_nothing Sum f = behind_nothing f
pending_nothing Product f = behind_nothing f

path_nothing : {d : ℕ} {p : Tree} {us : List Placed} {m : Tree} → Front d (BehindPath p) [] us m → ([] ≡ us) × (p ≡ m)
path_nothing path_end = (refl, refl)

name_nothing : {d at : ℕ} {word : List ℕ} {us : List Placed} {m : Tree} → Front d Atom (placed at (token.Name word) ∷ []) us m → ([] ≡ us)
    × (name at word ≡ m)
name_nothing (path (first f)) = path_nothing f

moved : (d : ℕ) (fs : List Frame) (trees : List Tree) (us : List Placed) (l m t : Tree) → ([] ≡ us) × (l ≡ m) → Resumes d fs trees m us t
    → Resumes d fs trees l [] t
moved d fs trees us l m t (e, k) r =
    subst (λ y. Resumes d fs trees l y t) (sym e) (subst (λ y. Resumes d fs trees y us t) (sym k) r)

no_path : {d : ℕ} {us : List Placed} {m : Tree} → Front d Path [] us m → ⊥
no_path f = elim f [ ]

no_atom : {d : ℕ} {us : List Placed} {m : Tree} → Front d Atom [] us m → ⊥
no_atom (path f) = no_path f

no_unary : {d : ℕ} {us : List Placed} {m : Tree} → Front d Unary [] us m → ⊥
no_unary (unsigned f) = no_atom f

-- the text may end where the grammar has its end
pub closes : (n d : ℕ) (fs : List Frame) (trees : List Tree) (l t : Tree) → Ordered n fs trees → Resumes d fs trees l [] t
    → close_all fs (l ∷ trees) ≡ Some t
closes n d [] [] l t o r = ap Some r.1
closes n d [] (x ∷ trees) l t o r = elim o [ ]
closes n d (frame.Rung level None ∷ fs) trees l t o (us, m, f, r) =
    closes (rank level) d fs trees l t o.1 (moved d fs trees us l m t (behind_nothing f) r)
closes n d (frame.Rung level (Some p) ∷ fs) [] l t o r = elim o [ ]
closes n d (frame.Rung level (Some p) ∷ fs) (left ∷ trees) l t o (us, m, f, r) =
    closes (rank level) d fs trees _ t o.1 (moved d fs trees us _ m t (pending_nothing level f) r)
closes n d (frame.Sign at s ∷ fs) trees l t o r = closes 5 (suc d) fs trees (signed at s l) t o.1 r
closes n d (frame.Group ∷ fs) trees l t o (end, us, e, r) = absurd (cc)
closes n d (frame.Index at ∷ fs) [] l t o r = elim o [ ]
closes n d (frame.Index at ∷ fs) (p ∷ trees) l t o (end, us, vs, m, e, f, r) = absurd (cc)
closes n d (frame.Length ∷ fs) trees l t o (end, us, e, r) = absurd (cc)
closes n d (frame.Same ∷ fs) trees l t o (comma, quote, end, text, us, e, r) = absurd (cc)

pub finishes : (m : Mode) (d : ℕ) (fs : List Frame) (trees : List Tree) (t : Tree) → StandsAt m fs trees → CompletesAt m d fs trees [] t
    → finish_at m fs trees ≡ Some t
finishes mode.Operand d fs trees t o (us, m, f, r) = absurd (no_unary f)
finishes mode.PathStart d fs trees t o (us, m, f, r) = absurd (no_path f)
finishes mode.FieldName d fs [] t o c = elim o [ ]
finishes mode.FieldName d fs (p ∷ trees) t o (at, word, us, e, c) = absurd (cc)
finishes (mode.AfterName at word) d fs trees t o (us, m, f, r) =
    closes 5 d fs trees (name at word) t o (moved d fs trees us _ m t (name_nothing f) r)
finishes mode.AfterPath d fs [] t o c = elim o [ ]
finishes mode.AfterPath d fs (p ∷ trees) t o (us, m, f, r) =
    closes 5 d fs trees p t o (moved d fs trees us p m t (path_nothing f) r)
finishes mode.AfterOperand d fs [] t o c = elim o [ ]
finishes mode.AfterOperand d fs (l ∷ trees) t o c = closes 5 d fs trees l t o c
finishes mode.TextOfSame d (frame.Same ∷ fs) (p ∷ trees) t o (quote, end, text, us, e, r) = absurd (cc)
finishes mode.TextOfSame d _ _ t o c = elim o [ ]
finishes (mode.EndOfSame text) d (frame.Same ∷ fs) (p ∷ trees) t o (end, us, e, r) = absurd (cc)
finishes (mode.EndOfSame text) d _ _ t o c = elim o [ ]

-- where it ends, the grammar has its end
closed : (n d : ℕ) (fs : List Frame) (trees : List Tree) (l t : Tree) → Ordered n fs trees → close_all fs (l ∷ trees) ≡ Some t
    → Resumes d fs trees l [] t
closed n d [] [] l t o e = (refl, cc)
closed n d [] (x ∷ trees) l t o e = elim o [ ]
closed n d (frame.Rung level None ∷ fs) trees l t o e = ([], l, no_more, closed (rank level) d fs trees l t o.1 e)
closed n d (frame.Rung level (Some p) ∷ fs) [] l t o e = elim o [ ]
closed n d (frame.Rung level (Some p) ∷ fs) (left ∷ trees) l t o e =
    ([], joined p.at p.operator left l, behind_ends level d [] _, closed (rank level) d fs trees _ t o.1 e)
closed n d (frame.Sign at s ∷ fs) trees l t o e = closed 5 (suc d) fs trees (signed at s l) t o.1 e
closed n d (frame.Group ∷ fs) trees l t o e = absurd (cc)
closed n d (frame.Index at ∷ fs) [] l t o e = elim o [ ]
closed n d (frame.Index at ∷ fs) (p ∷ trees) l t o e = absurd (cc)
closed n d (frame.Length ∷ fs) trees l t o e = absurd (cc)
closed n d (frame.Same ∷ fs) trees l t o e = absurd (cc)

pub finished : (m : Mode) (d : ℕ) (fs : List Frame) (trees : List Tree) (t : Tree) → StandsAt m fs trees → finish_at m fs trees ≡ Some t
    → CompletesAt m d fs trees [] t
finished mode.Operand d fs trees t o e = absurd (cc)
finished mode.PathStart d fs trees t o e = absurd (cc)
finished mode.FieldName d fs [] t o e = elim o [ ]
finished mode.FieldName d fs (p ∷ trees) t o e = absurd (cc)
finished (mode.AfterName at word) d fs trees t o e = ([], name at word, path (first path_end), closed 5 d fs trees _ t o e)
finished mode.AfterPath d fs [] t o e = elim o [ ]
finished mode.AfterPath d fs (p ∷ trees) t o e = ([], p, path_end, closed 5 d fs trees p t o e)
finished mode.AfterOperand d fs [] t o e = elim o [ ]
finished mode.AfterOperand d fs (l ∷ trees) t o e = closed 5 d fs trees l t o e
finished mode.TextOfSame d fs trees t o e = absurd (cc)
finished (mode.EndOfSame text) d fs trees t o e = absurd (cc)
