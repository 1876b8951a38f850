-- A token behind an operand leads on exactly where the grammar has it there.
use Rattle.std.proofs.Common.{◌≡◌, ℕ, suc, ◌+◌, List, [], ◌∷◌, Bool, true, false, ◌&&◌, ◌⊎◌, inl, inr, Option, Some, None, refl, sym, ◌∙◌}
use Rattle.std.proofs.Common.{ap, subst, arith, nat_eq}
use Rattle.std.proofs.lemmas.Grind.{common_steps}
use Rattle.evp_expr.specs.declared.operator.Operator.{Operator}
use Rattle.evp_expr.specs.declared.operator.Level.{Level}
use Rattle.evp_expr.specs.declared.operator.Level.TheVariants.{Disjunction, Conjunction, Comparison, Sum, Product}
use Rattle.evp_expr.specs.declared.token.Placed.{Placed}
use Rattle.evp_expr.specs.declared.token.Token.{Token}
use Rattle.evp_expr.specs.declared.token.Token.TheVariants as token
use Rattle.evp_expr.specs.declared.state.Pending.{Pending}
use Rattle.evp_expr.specs.declared.state.Frame.{Frame}
use Rattle.evp_expr.specs.declared.state.Frame.TheVariants as frame
use Rattle.evp_expr.specs.declared.state.Mode.TheVariants as mode
use Rattle.evp_expr.specs.Levels.{rank, level_of, levels}
use Rattle.evp_expr.specs.Tree.{Tree, index, length_of, signed, joined}
use Rattle.evp_expr.specs.Grammar.{Behind, Complete, BehindPath, Front, operand, behind, no_more, more, complete}
use Rattle.evp_expr.specs.Lexing.{placed}
use Rattle.evp_expr.specs.Steps.{State, state, above, joins, takes_more, after, settle}
use Rattle.evp_expr.specs.Standing.{Ordered}
use Rattle.evp_expr.proofs.Completes.{Continues, Resumes, Completes}
use Rattle.evp_expr.proofs.Climbs.{to_unary, Rejects, after_none}

-- no phrase of one level is one of another
rank-injective : (k l : Level) → rank k ≡ rank l → k ≡ l
rank-injective Disjunction Disjunction e = refl
rank-injective Conjunction Conjunction e = refl
rank-injective Comparison Comparison e = refl
rank-injective Sum Sum e = refl
rank-injective Product Product e = refl
rank-injective _ _ e = absurd (omega arith)

pub levels-above : (l : Level) (fs : List Frame) → levels (above l fs) ≡ levels fs
levels-above Disjunction fs = refl
levels-above Conjunction fs = refl
levels-above Comparison fs = refl
levels-above Sum fs = refl
levels-above Product fs = refl

pub option_cases : {A : Type 0} (o : Option A) → (o ≡ None) ⊎ ((x : A) × (o ≡ Some x))
option_cases None = inl refl
option_cases (Some x) = inr (x, refl)

-- the operator of a token that goes on with a level
pub record Joins (l : Level) (p : Option Pending) (tok : Token) (o : Operator) : Type 0 where
  pub is_operator : tok ≡ token.Operator o
  pub of_level : level_of o ≡ l
  pub takes : takes_more l p ≡ true

pub joins_some : (l : Level) (p : Option Pending) (tok : Token) (o : Operator) → joins l p tok ≡ Some o → Joins l p tok o
joins_some l p (token.Operator k) o e = go (nat_eq (rank (level_of k)) (rank l)) (takes_more l p) refl refl e
  where
    go : (same_rank may : Bool) → nat_eq (rank (level_of k)) (rank l) ≡ same_rank → takes_more l p ≡ may → (elim (same_rank && may) [
      | true ↦ Some k
      | false ↦ None
    ]) ≡ Some o → Joins l p (token.Operator k) o
    go true true s m e = let q : k ≡ o = cc in record {
      is_operator = ap token.Operator q;
      of_level = rank-injective _ _ (grind (arith, common_steps));
      takes = m;
    }
    go true false s m e = absurd (cc)
    go false may s m e = absurd (cc)
joins_some l p (token.Name word) o e = absurd (cc)
joins_some l p (token.Number n) o e = absurd (cc)
joins_some l p (token.Text text) o e = absurd (cc)
joins_some l p token.Not o e = absurd (cc)
joins_some l p token.OpenParen o e = absurd (cc)
joins_some l p token.CloseParen o e = absurd (cc)
joins_some l p token.OpenBracket o e = absurd (cc)
joins_some l p token.CloseBracket o e = absurd (cc)
joins_some l p token.Dot o e = absurd (cc)
joins_some l p token.Comma o e = absurd (cc)

joins_own : (p : Option Pending) (o : Operator) → takes_more (level_of o) p ≡ true → joins (level_of o) p (token.Operator o) ≡ Some o
joins_own p o m = let s : nat_eq (rank (level_of o)) (rank (level_of o)) ≡ true = grind (arith, common_steps) in rw (s, m, joins)

operator_rejects : (o : Operator) → Rejects (rank (level_of o)) (token.Operator o)
operator_rejects o = record {
  joins_none = λ l p h. let s : nat_eq (rank (level_of o)) (rank l) ≡ false = grind (arith, common_steps) in rw (s, joins);
  no_paren = refl;
  no_bracket = refl;
  no_comma = refl;
}

pub after_rung_none : (at : ℕ) (tok : Token) (l : Level) (p : Option Pending) (fs : List Frame) (ready : List Tree) → joins l p tok ≡ None
    → after at tok (frame.Rung l p ∷ fs) ready ≡ after at tok fs (settle p ready)
after_rung_none at tok l p fs ready j = rw (j, after)

pub after_rung_some : (at : ℕ) (tok : Token) (l : Level) (p : Option Pending) (o : Operator) (fs : List Frame) (ready : List Tree)
    → joins l p tok ≡ Some o → after at tok (frame.Rung l p ∷ fs) ready
    ≡ Some (state mode.Operand (above l (frame.Rung l (Some (record { at = at; operator = o })) ∷ fs)) (settle p ready))
after_rung_some at tok l p o fs ready j = rw (j, after)

-- where the tokens complete the next state, with the same levels in all
abbrev pub Goes : Option State → ℕ → List Placed → Tree → Type 0
Goes next total ts t = (s : State) × (d : ℕ) × (next ≡ Some s) × (d + levels s.frames ≡ total) × Completes d s ts t

-- what may stand behind a phrase of a level: more of it, or nothing
TailOf : Level → Option Pending → ℕ → Tree → List Placed → List Placed → Tree → Type 0
TailOf l p d lt ts us m = ((takes_more l p ≡ true) × Front d (Behind l lt) ts us m) ⊎ ((ts ≡ us) × (lt ≡ m))

none_tail : (l : Level) (d : ℕ) (lt : Tree) (ts us : List Placed) (m : Tree) → Front d (Behind l lt) ts us m → TailOf l None d lt ts us m
unfolding TailOf
none_tail Disjunction d lt ts us m f = inl (refl, f)
none_tail Conjunction d lt ts us m f = inl (refl, f)
none_tail Comparison d lt ts us m f = inl (refl, f)
none_tail Sum d lt ts us m f = inl (refl, f)
none_tail Product d lt ts us m f = inl (refl, f)

complete_ends : {d : ℕ} {lt : Tree} {ts us : List Placed} {m : Tree} → Front d (Complete lt) ts us m → (ts ≡ us) × (lt ≡ m)
complete_ends complete = (refl, refl)

some_tail : (l : Level) (p : Pending) (d : ℕ) (lt : Tree) (ts us : List Placed) (m : Tree) → Front d (behind l lt) ts us m
    → TailOf l (Some p) d lt ts us m
unfolding TailOf
some_tail Disjunction p d lt ts us m f = inl (refl, f)
some_tail Conjunction p d lt ts us m f = inl (refl, f)
some_tail Comparison p d lt ts us m f = inr (complete_ends f)
some_tail Sum p d lt ts us m f = inl (refl, f)
some_tail Product p d lt ts us m f = inl (refl, f)

-- what stands behind a phrase where a token follows
BehindCases : ℕ → Level → Tree → ℕ → Token → List Placed → List Placed → Tree → Type 0
BehindCases d l lt at tok ts us m =
    ((placed at tok ∷ ts ≡ us) × (lt ≡ m)) ⊎ ((o : Operator) × (vs : List Placed) × (r : Tree) × (tok ≡ token.Operator o) × (level_of o ≡ l)
    × Front d (operand l) ts vs r × Front d (behind l (joined at o lt r)) vs us m)

behind_cases : {d : ℕ} {l : Level} {lt : Tree} {at : ℕ} {tok : Token} {ts us : List Placed} {m : Tree}
    → Front d (Behind l lt) (placed at tok ∷ ts) us m → BehindCases d l lt at tok ts us m
unfolding BehindCases
behind_cases no_more = inl (refl, refl)
behind_cases (more {op = o} {us = vs} {right = r} e f b) = inr (o, vs, r, refl, e, f, b)

module _ (at : ℕ) (tok : Token) (l : Level) (p : Option Pending) (fs : List Frame) (ready : List Tree) (d : ℕ) (ts : List Placed)
    (t lt : Tree) (trees : List Tree) (settles : settle p ready ≡ lt ∷ trees) (o : Ordered (rank l) fs trees) where
  -- the phrase ends before the token
  rung_ends : Goes (after at tok fs (lt ∷ trees)) (d + levels fs) ts t
      → Goes (after at tok (frame.Rung l p ∷ fs) ready) (d + levels fs) ts t
  rung_ends (s, k, e, q, c) = go (option_cases (joins l p tok))
    where
      go : ((joins l p tok ≡ None) ⊎ ((x : Operator) × (joins l p tok ≡ Some x)))
          → Goes (after at tok (frame.Rung l p ∷ fs) ready) (d + levels fs) ts t
      go (inl j) = (s, k, after_rung_none at tok l p fs ready j ∙ (ap (λ x. after at tok fs x) settles ∙ e), q, c)
      go (inr (x, j)) =
          let h = joins_some l p tok x j in
          let rejects : Rejects (rank l) tok = subst (λ y. Rejects (rank l) y) (sym h.is_operator)
          (subst (λ y. Rejects (rank y) (token.Operator x)) h.of_level (operator_rejects x)) in
          let none = after_none at tok (rank l) rejects (rank l) fs trees (lt ∷ trees) (omega arith) o in
          absurd (let q : ◌≡◌ {A = Option State} None (Some s) = sym none ∙ e in cc)

  -- the token goes on with the phrase
  rung_joins : (x : Operator) → tok ≡ token.Operator x → level_of x ≡ l → takes_more l p ≡ true
      → Continues (operand l) d (frame.Rung l (Some (record { at = at; operator = x })) ∷ fs) (lt ∷ trees) ts t
      → Goes (after at tok (frame.Rung l p ∷ fs) ready) (d + levels fs) ts t
  rung_joins x e level may c =
      let j : joins l p tok ≡ Some x = subst (λ y. joins l p y ≡ Some x) (sym e)
      (subst (λ y. takes_more y p ≡ true → joins y p (token.Operator x) ≡ Some x) level (joins_own p x) may) in (
        state mode.Operand (above l (frame.Rung l (Some (record { at = at; operator = x })) ∷ fs)) (lt ∷ trees),
        d,
        after_rung_some at tok l p x fs ready j
            ∙ ap (λ y. Some (state mode.Operand (above l (frame.Rung l (Some (record { at = at; operator = x })) ∷ fs)) y)) settles,
        ap (λ y. d + y) (levels-above l _),
        to_unary l d _ (lt ∷ trees) ts t c,
      )

  rung_goes : (us : List Placed) (m : Tree)
      → (Resumes d fs trees lt (placed at tok ∷ ts) t → Goes (after at tok fs (lt ∷ trees)) (d + levels fs) ts t)
      → TailOf l p d lt (placed at tok ∷ ts) us m → Resumes d fs trees m us t
      → Goes (after at tok (frame.Rung l p ∷ fs) ready) (d + levels fs) ts t
  unfolding TailOf BehindCases
  rung_goes us m ih (inr (e, k)) r = rung_ends
      (ih (subst (λ y. Resumes d fs trees lt y t) (sym e) (subst (λ y. Resumes d fs trees y us t) (sym k) r)))
  rung_goes us m ih (inl (may, f)) r = go (behind_cases f)
    where
      go : BehindCases d l lt at tok ts us m → Goes (after at tok (frame.Rung l p ∷ fs) ready) (d + levels fs) ts t
      go (inl (e, k)) = rung_ends (ih (subst (λ y. Resumes d fs trees lt y t) (sym e) (subst (λ y. Resumes d fs trees y us t) (sym k) r)))
      go (inr (x, vs, right, e, level, f, b)) = rung_joins x e level may (vs, right, f, (us, m, b, r))

-- a token behind an operand, as the grammar has it, leads on
pub after_completes : (n at : ℕ) (tok : Token) (fs : List Frame) (trees : List Tree) (l : Tree) (d : ℕ) (ts : List Placed) (t : Tree)
    → Ordered n fs trees → Resumes d fs trees l (placed at tok ∷ ts) t → Goes (after at tok fs (l ∷ trees)) (d + levels fs) ts t
after_completes n at tok [] [] l d ts t o r = absurd (let e : ◌≡◌ {A = List Placed} (placed at tok ∷ ts) [] = r.0 in cc)
after_completes n at tok [] (x ∷ trees) l d ts t o r = elim o [ ]
after_completes n at tok (frame.Rung level None ∷ fs) trees l d ts t o (us, m, f, r) =
    rung_goes at tok level None fs (l ∷ trees) d ts t l trees refl o.1 us m (after_completes (rank level) at tok fs trees l d ts t o.1)
    (none_tail level d l _ us m f) r
after_completes n at tok (frame.Rung level (Some p) ∷ fs) [] l d ts t o r = elim o [ ]
after_completes n at tok (frame.Rung level (Some p) ∷ fs) (left ∷ trees) l d ts t o (us, m, f, r) =
    rung_goes at tok level (Some p) fs (l ∷ left ∷ trees) d ts t (joined p.at p.operator left l) trees refl o.1 us m
    (after_completes (rank level) at tok fs trees (joined p.at p.operator left l) d ts t o.1) (some_tail level p d _ _ us m f) r
after_completes n at tok (frame.Sign place s ∷ fs) trees l d ts t o r =
    let g = after_completes 5 at tok fs trees (signed place s l) (suc d) ts t o.1 r in
    (g.0, g.1, g.2, (let e : g.1 + levels g.0.frames ≡ suc d + levels fs = g.3 in omega arith), g.4)
after_completes n at tok (frame.Group ∷ fs) trees l d ts t o (end, us, e, r) =
    let first : placed at tok ≡ placed end token.CloseParen = cc in
    let closes : tok ≡ token.CloseParen = ap (λ x. x.token) first in
    let rest : us ≡ ts = cc in
    subst (λ x. Goes (after at x (frame.Group ∷ fs) (l ∷ trees)) (d + suc (levels fs)) ts t) (sym closes)
    (state mode.AfterOperand fs (l ∷ trees), suc d, refl, omega arith, subst (λ x. Resumes (suc d) fs trees l x t) rest r)
after_completes n at tok (frame.Index place ∷ fs) [] l d ts t o r = elim o [ ]
after_completes n at tok (frame.Index place ∷ fs) (p ∷ trees) l d ts t o (end, us, vs, m, e, f, r) =
    let first : placed at tok ≡ placed end token.CloseBracket = cc in
    let closes : tok ≡ token.CloseBracket = ap (λ x. x.token) first in
    let rest : us ≡ ts = cc in
    subst (λ x. Goes (after at x (frame.Index place ∷ fs) (l ∷ p ∷ trees)) (d + suc (levels fs)) ts t) (sym closes) (
      state mode.AfterPath fs (index p place l ∷ trees),
      suc d,
      refl,
      omega arith,
      (vs, m, subst (λ x. Front (suc d) (BehindPath (index p place l)) x vs m) rest f, r),
    )
after_completes n at tok (frame.Length ∷ fs) trees l d ts t o (end, us, e, r) =
    let first : placed at tok ≡ placed end token.CloseParen = cc in
    let closes : tok ≡ token.CloseParen = ap (λ x. x.token) first in
    let rest : us ≡ ts = cc in
    subst (λ x. Goes (after at x (frame.Length ∷ fs) (l ∷ trees)) (d + suc (levels fs)) ts t) (sym closes) (
      state mode.AfterOperand fs (length_of l ∷ trees),
      suc d,
      refl,
      omega arith,
      subst (λ x. Resumes (suc d) fs trees (length_of l) x t) rest r,
    )
after_completes n at tok (frame.Same ∷ fs) trees l d ts t o (comma, quote, end, text, us, e, r) =
    let first : placed at tok ≡ placed comma token.Comma = cc in
    let closes : tok ≡ token.Comma = ap (λ x. x.token) first in
    let rest : ts ≡ placed quote (token.Text text) ∷ placed end token.CloseParen ∷ us = cc in
    subst (λ x. Goes (after at x (frame.Same ∷ fs) (l ∷ trees)) (d + suc (levels fs)) ts t) (sym closes)
    (state mode.TextOfSame (frame.Same ∷ fs) (l ∷ trees), d, refl, refl, (quote, end, text, us, rest, r))
