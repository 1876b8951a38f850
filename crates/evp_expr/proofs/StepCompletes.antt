-- A token that the grammar has next leads on, in each state.
use Rattle.std.proofs.Common.{◌≡◌, ℕ, suc, ◌+◌, List, [], ◌∷◌, Option, Some, None, refl, sym, ◌∙◌, ap, subst, arith}
use Rattle.evp_expr.specs.declared.operator.Sign.TheVariants as sign
use Rattle.evp_expr.specs.declared.token.Placed.{Placed}
use Rattle.evp_expr.specs.declared.token.Token.{Token}
use Rattle.evp_expr.specs.declared.token.Token.TheVariants as token
use Rattle.evp_expr.specs.declared.state.Frame.{Frame}
use Rattle.evp_expr.specs.declared.state.Frame.TheVariants as frame
use Rattle.evp_expr.specs.declared.state.Mode.{Mode}
use Rattle.evp_expr.specs.declared.state.Mode.TheVariants as mode
use Rattle.evp_expr.specs.Levels.{levels}
use Rattle.evp_expr.specs.Tree.{Tree, number, name, field, same}
use Rattle.evp_expr.specs.Grammar.{Unary, Atom, Path, BehindPath, Front, negated, denied, unsigned, literal, group, path, measured}
use Rattle.evp_expr.specs.Grammar.{compared, first, path_end, dotted, subscripted, len_word, same_word}
use Rattle.evp_expr.specs.Lexing.{placed}
use Rattle.evp_expr.specs.Steps.{State, state, rungs, after, begins, extends, follows_name, begins_path, names_field, gives_text, ends_same}
use Rattle.evp_expr.specs.Steps.{step_at}
use Rattle.evp_expr.specs.Standing.{Ordered, StandsAt}
use Rattle.evp_expr.proofs.Completes.{Continues, Resumes, CompletesAt}
use Rattle.evp_expr.proofs.Climbs.{whole_to_unary, Rejects, after_none}
use Rattle.evp_expr.proofs.After.{Goes, after_completes}

operand_goes : (fs : List Frame) (trees : List Tree) (t : Tree) {d at : ℕ} {tok : Token} {ts us : List Placed} {m : Tree}
    → Front d Unary (placed at tok ∷ ts) us m → Resumes d fs trees m us t → Goes (begins at tok fs trees) (d + levels fs) ts t
operand_goes fs trees t (negated {d = k} {at = at} {ts = ts} {rest = us} {t = m} g) r =
    (state mode.Operand (frame.Sign at sign.Negate ∷ fs) trees, k, refl, omega arith, (us, m, g, r))
operand_goes fs trees t (denied {d = k} {at = at} {ts = ts} {rest = us} {t = m} g) r =
    (state mode.Operand (frame.Sign at sign.Not ∷ fs) trees, k, refl, omega arith, (us, m, g, r))
operand_goes fs trees t (unsigned (literal {d = k} {n = n})) r =
    (state mode.AfterOperand fs (number n ∷ trees), k, refl, refl, r)
operand_goes fs trees t (unsigned (group {d = k} {end = end} {ts = ts} {rest = us} {t = m} g)) r = (
  state mode.Operand (rungs (frame.Group ∷ fs)) trees,
  k,
  refl,
  omega arith,
  whole_to_unary k (frame.Group ∷ fs) trees ts t (placed end token.CloseParen ∷ us, m, g, (end, us, refl, r)),
)
operand_goes fs trees t (unsigned {d = k} {rest = us} {t = m} (path (first {at = at} {word = word} g))) r =
    (state (mode.AfterName at word) fs trees, k, refl, refl, (us, m, path (first g), r))
operand_goes fs trees t (unsigned {d = k} {rest = us} {t = m} (measured {at = at} {paren = paren} {end = end} g)) r =
    (state (mode.AfterName at len_word) fs trees, k, refl, refl, (us, m, measured {paren = paren} {end = end} g, r))
operand_goes fs trees t
    (unsigned {d = k} {rest = us} {t = m} (compared {at = at} {paren = paren} {comma = comma} {quote = quote} {end = end} g)) r = (
      state (mode.AfterName at same_word) fs trees,
      k,
      refl,
      refl,
      (us, m, compared {paren = paren} {comma = comma} {quote = quote} {end = end} g, r),
    )

-- tokens that never stand behind an operand that nothing extends
dot_rejected : Rejects 5 token.Dot
dot_rejected = record { joins_none = λ l p h. refl; no_paren = refl; no_bracket = refl; no_comma = refl }

bracket_rejected : Rejects 5 token.OpenBracket
bracket_rejected = record { joins_none = λ l p h. refl; no_paren = refl; no_bracket = refl; no_comma = refl }

paren_rejected : Rejects 5 token.OpenParen
paren_rejected = record { joins_none = λ l p h. refl; no_paren = refl; no_bracket = refl; no_comma = refl }

goes_nowhere : (next : Option State) (total : ℕ) (ts : List Placed) (t : Tree) → next ≡ None → Goes next total ts t → ⊥
goes_nowhere next total ts t e (s, k, h, q, c) =
    let w : ◌≡◌ {A = Option State} None (Some s) = sym e ∙ h in cc

extends_goes : (at : ℕ) (tok : Token) (fs : List Frame) (trees ready : List Tree) (total : ℕ) (ts : List Placed) (t : Tree)
    → Ordered 5 fs trees → Goes (after at tok fs ready) total ts t → Goes (extends at tok fs ready) total ts t
extends_goes at token.Dot fs trees ready total ts t o g =
    absurd (goes_nowhere _ total ts t (after_none at token.Dot 5 dot_rejected 5 fs trees ready (omega arith) o) g)
extends_goes at token.OpenBracket fs trees ready total ts t o g =
    absurd (goes_nowhere _ total ts t (after_none at token.OpenBracket 5 bracket_rejected 5 fs trees ready (omega arith) o) g)
extends_goes at _ fs trees ready total ts t o g = g

path_goes : (fs : List Frame) (trees : List Tree) (t : Tree) {d at : ℕ} {tok : Token} {p : Tree} {ts us : List Placed} {m : Tree}
    → Ordered 5 fs trees → Front d (BehindPath p) (placed at tok ∷ ts) us m → Resumes d fs trees m us t
    → Goes (extends at tok fs (p ∷ trees)) (d + levels fs) ts t
path_goes fs trees t {d = d} {at = at} {tok = tok} {p = p} {ts = ts} o path_end r =
    extends_goes at tok fs trees (p ∷ trees) (d + levels fs) ts t o (after_completes 5 at tok fs trees p d ts t o r)
path_goes fs trees t {p = p} o (dotted {d = k} {at = a} {word = w} {ts = ts} {rest = us} {tree = m} g) r =
    (state mode.FieldName fs (p ∷ trees), k, refl, refl, (a, w, ts, refl, (us, m, g, r)))
path_goes fs trees t {p = p} o (subscripted {d = k} {at = at} {end = end} {ts = ts} {us = vs} {rest = us} {i = i} {tree = m} g h) r = (
  state mode.Operand (rungs (frame.Index at ∷ fs)) (p ∷ trees),
  k,
  refl,
  omega arith,
  whole_to_unary k (frame.Index at ∷ fs) (p ∷ trees) ts t (placed end token.CloseBracket ∷ vs, i, g, (end, vs, us, m, refl, h, r)),
)

follows_goes : (place : ℕ) (word : List ℕ) (at : ℕ) (tok : Token) (fs : List Frame) (trees : List Tree) (total : ℕ) (ts : List Placed)
    (t : Tree) → Ordered 5 fs trees → Goes (extends at tok fs (name place word ∷ trees)) total ts t
    → Goes (follows_name place word at tok fs trees) total ts t
follows_goes place word at token.OpenParen fs trees total ts t o g =
    absurd (goes_nowhere _ total ts t (after_none at token.OpenParen 5 paren_rejected 5 fs trees (name place word ∷ trees) (omega arith) o)
    g)
follows_goes place word at token.Dot fs trees total ts t o g = g
follows_goes place word at _ fs trees total ts t o g = g

name_goes : (fs : List Frame) (trees : List Tree) (t : Tree) {d place at : ℕ} {word : List ℕ} {tok : Token} {ts us : List Placed} {m : Tree}
    → Ordered 5 fs trees → Front d Atom (placed place (token.Name word) ∷ placed at tok ∷ ts) us m → Resumes d fs trees m us t
    → Goes (follows_name place word at tok fs trees) (d + levels fs) ts t
name_goes fs trees t {d = d} {place = place} {at = at} {word = word} {tok = tok} {ts = ts} o (path (first g)) r =
    follows_goes place word at tok fs trees (d + levels fs) ts t o (path_goes fs trees t o g r)
name_goes fs trees t o (measured {d = k} {end = end} {ts = ts} {rest = us} {t = m} g) r =
    (state mode.PathStart (frame.Length ∷ fs) trees, k, refl, omega arith, (placed end token.CloseParen ∷ us, m, g, (end, us, refl, r)))
name_goes fs trees t o (compared {d = k} {comma = comma} {quote = quote} {end = end} {text = text} {ts = ts} {rest = us} {t = m} g) r = (
  state mode.PathStart (frame.Same ∷ fs) trees,
  k,
  refl,
  omega arith,
  (
    placed comma token.Comma ∷ placed quote (token.Text text) ∷ placed end token.CloseParen ∷ us,
    m,
    g,
    (comma, quote, end, text, us, refl, r),
  ),
)

path_start_goes : (fs : List Frame) (trees : List Tree) (t : Tree) {d at : ℕ} {tok : Token} {ts us : List Placed} {m : Tree}
    → Front d Path (placed at tok ∷ ts) us m → Resumes d fs trees m us t → Goes (begins_path at tok fs trees) (d + levels fs) ts t
path_start_goes fs trees t (first {d = k} {at = at} {word = word} {rest = us} {t = m} g) r =
    (state mode.AfterPath fs (name at word ∷ trees), k, refl, refl, (us, m, g, r))

-- what a token means that is the first of some tokens
heads : (at : ℕ) (tok : Token) (ts : List Placed) (a : ℕ) (x : Token) (us : List Placed) → placed at tok ∷ ts ≡ placed a x ∷ us → (a ≡ at)
    × (x ≡ tok) × (us ≡ ts)
heads at tok ts a x us e =
    let q : placed at tok ≡ placed a x = cc in
    (sym (ap (λ y. y.at) q), sym (ap (λ y. y.token) q), cc)

pub step_completes : (m : Mode) (fs : List Frame) (trees : List Tree) (at : ℕ) (tok : Token) (d : ℕ) (ts : List Placed) (t : Tree)
    → StandsAt m fs trees → CompletesAt m d fs trees (placed at tok ∷ ts) t → Goes (step_at m fs trees at tok) (d + levels fs) ts t
step_completes mode.Operand fs trees at tok d ts t o (us, m, f, r) = operand_goes fs trees t f r
step_completes mode.PathStart fs trees at tok d ts t o (us, m, f, r) = path_start_goes fs trees t f r
step_completes mode.FieldName fs [] at tok d ts t o c = elim o [ ]
step_completes mode.FieldName fs (p ∷ trees) at tok d ts t o (a, word, us, e, c) =
    let h = heads at tok ts a (token.Name word) us e in
    subst (λ x. Goes (names_field at x fs (p ∷ trees)) (d + levels fs) ts t) h.1 (
      state mode.AfterPath fs (field p at word ∷ trees),
      d,
      refl,
      refl,
      subst (λ x. Continues (BehindPath (field p x word)) d fs trees ts t) h.0
          (subst (λ x. Continues (BehindPath (field p a word)) d fs trees x t) h.2 c),
    )
step_completes (mode.AfterName place word) fs trees at tok d ts t o (us, m, f, r) = name_goes fs trees t o f r
step_completes mode.AfterPath fs [] at tok d ts t o c = elim o [ ]
step_completes mode.AfterPath fs (p ∷ trees) at tok d ts t o (us, m, f, r) = path_goes fs trees t o f r
step_completes mode.AfterOperand fs [] at tok d ts t o c = elim o [ ]
step_completes mode.AfterOperand fs (l ∷ trees) at tok d ts t o c = after_completes 5 at tok fs trees l d ts t o c
step_completes mode.TextOfSame (frame.Same ∷ fs) (p ∷ trees) at tok d ts t o (quote, end, text, us, e, r) =
    let h = heads at tok ts quote (token.Text text) (placed end token.CloseParen ∷ us) e in
    subst (λ x. Goes (gives_text x (frame.Same ∷ fs) (p ∷ trees)) (d + suc (levels fs)) ts t) h.1
    (state (mode.EndOfSame text) (frame.Same ∷ fs) (p ∷ trees), d, refl, refl, (end, us, sym h.2, r))
step_completes mode.TextOfSame _ _ at tok d ts t o c = elim o [ ]
step_completes (mode.EndOfSame text) (frame.Same ∷ fs) (p ∷ trees) at tok d ts t o (end, us, e, r) =
    let h = heads at tok ts end token.CloseParen us e in
    subst (λ x. Goes (ends_same text x (frame.Same ∷ fs) (p ∷ trees)) (d + suc (levels fs)) ts t) h.1 (
      state mode.AfterOperand fs (same p text ∷ trees),
      suc d,
      refl,
      omega arith,
      subst (λ x. Resumes (suc d) fs trees (same p text) x t) h.2 r,
    )
step_completes (mode.EndOfSame text) _ _ at tok d ts t o c = elim o [ ]
