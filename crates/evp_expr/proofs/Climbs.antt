-- A phrase of a level stands on the rungs of that level.
use Rattle.std.proofs.Common.{◌≡◌, ℕ, suc, ◌<◌, ◌≤◌, List, [], ◌∷◌, Option, Some, None, false, refl, arith}
use Rattle.evp_expr.specs.declared.operator.Level.{Level}
use Rattle.evp_expr.specs.declared.operator.Level.TheVariants.{Disjunction, Conjunction, Comparison, Sum, Product}
use Rattle.evp_expr.specs.declared.token.Placed.{Placed}
use Rattle.evp_expr.specs.declared.token.Token.{Token}
use Rattle.evp_expr.specs.declared.state.Pending.{Pending}
use Rattle.evp_expr.specs.declared.state.Frame.{Frame}
use Rattle.evp_expr.specs.declared.state.Frame.TheVariants as frame
use Rattle.evp_expr.specs.Levels.{rank}
use Rattle.evp_expr.specs.Tree.{Tree}
use Rattle.evp_expr.specs.Grammar.{Chain, Unary, operand, chain}
use Rattle.evp_expr.specs.Steps.{above, rungs, joins, is_close_paren, is_close_bracket, is_comma, after, settle}
use Rattle.evp_expr.specs.Standing.{Ordered}
use Rattle.evp_expr.proofs.Completes.{Continues}

climbs : (l : Level) (d : ℕ) (fs : List Frame) (trees : List Tree) (ts : List Placed) (t : Tree) → Continues (Chain l) d fs trees ts t
    → Continues (operand l) d (frame.Rung l None ∷ fs) trees ts t
climbs l d fs trees ts t (us, m, chain {us = vs} {t = first} f b, r) = (vs, first, f, (us, m, b, r))

descends : (l : Level) (d : ℕ) (fs : List Frame) (trees : List Tree) (ts : List Placed) (t : Tree)
    → Continues (operand l) d (frame.Rung l None ∷ fs) trees ts t → Continues (Chain l) d fs trees ts t
descends l d fs trees ts t (vs, first, f, (us, m, b, r)) = (us, m, chain f b, r)

-- a rung with nothing pending on the frames
abbrev on : Level → List Frame → List Frame
on l fs = frame.Rung l None ∷ fs

pub to_unary : (l : Level) (d : ℕ) (fs : List Frame) (trees : List Tree) (ts : List Placed) (t : Tree)
    → Continues (operand l) d fs trees ts t → Continues Unary d (above l fs) trees ts t
to_unary Product d fs trees ts t c = c
to_unary Sum d fs trees ts t c = climbs Product d fs trees ts t c
to_unary Comparison d fs trees ts t c = climbs Product d (on Sum fs) trees ts t (climbs Sum d fs trees ts t c)
to_unary Conjunction d fs trees ts t c =
    climbs Product d (on Sum (on Comparison fs)) trees ts t
    (climbs Sum d (on Comparison fs) trees ts t (climbs Comparison d fs trees ts t c))
to_unary Disjunction d fs trees ts t c =
    climbs Product d (on Sum (on Comparison (on Conjunction fs))) trees ts t
    (climbs Sum d (on Comparison (on Conjunction fs)) trees ts t
    (climbs Comparison d (on Conjunction fs) trees ts t (climbs Conjunction d fs trees ts t c)))

pub from_unary : (l : Level) (d : ℕ) (fs : List Frame) (trees : List Tree) (ts : List Placed) (t : Tree)
    → Continues Unary d (above l fs) trees ts t → Continues (operand l) d fs trees ts t
from_unary Product d fs trees ts t c = c
from_unary Sum d fs trees ts t c = descends Product d fs trees ts t c
from_unary Comparison d fs trees ts t c = descends Sum d fs trees ts t (descends Product d (on Sum fs) trees ts t c)
from_unary Conjunction d fs trees ts t c =
    descends Comparison d fs trees ts t
    (descends Sum d (on Comparison fs) trees ts t (descends Product d (on Sum (on Comparison fs)) trees ts t c))
from_unary Disjunction d fs trees ts t c =
    descends Conjunction d fs trees ts t
    (descends Comparison d (on Conjunction fs) trees ts t (descends Sum d (on Comparison (on Conjunction fs)) trees ts t
    (descends Product d (on Sum (on Comparison (on Conjunction fs))) trees ts t c)))

pub whole_to_unary : (d : ℕ) (fs : List Frame) (trees : List Tree) (ts : List Placed) (t : Tree)
    → Continues (Chain Disjunction) d fs trees ts t → Continues Unary d (rungs fs) trees ts t
whole_to_unary d fs trees ts t c = to_unary Disjunction d (on Disjunction fs) trees ts t (climbs Disjunction d fs trees ts t c)

pub whole_from_unary : (d : ℕ) (fs : List Frame) (trees : List Tree) (ts : List Placed) (t : Tree) → Continues Unary d (rungs fs) trees ts t
    → Continues (Chain Disjunction) d fs trees ts t
whole_from_unary d fs trees ts t c = descends Disjunction d fs trees ts t (from_unary Disjunction d (on Disjunction fs) trees ts t c)

-- the rungs of an operand stand in order on those of its level
pub above-ordered : (l : Level) (p : Option Pending) (fs : List Frame) (trees : List Tree)
    → Ordered (suc (rank l)) (frame.Rung l p ∷ fs) trees → Ordered 5 (above l (frame.Rung l p ∷ fs)) trees
above-ordered Product p fs trees h = h
above-ordered Sum p fs trees h = (omega arith, h)
above-ordered Comparison p fs trees h = (omega arith, (omega arith, h))
above-ordered Conjunction p fs trees h = (omega arith, (omega arith, (omega arith, h)))
above-ordered Disjunction p fs trees h = (omega arith, (omega arith, (omega arith, (omega arith, h))))

-- a token that no level below n goes on with, and that closes nothing
pub record Rejects (n : ℕ) (tok : Token) : Type 0 where
  pub joins_none : (l : Level) (p : Option Pending) → rank l < n → joins l p tok ≡ None
  pub no_paren : is_close_paren tok ≡ false
  pub no_bracket : is_close_bracket tok ≡ false
  pub no_comma : is_comma tok ≡ false

module _ (at : ℕ) (tok : Token) (n : ℕ) (h : Rejects n tok) where
  pub after_none : (m : ℕ) (fs : List Frame) (trees ready : List Tree) → m ≤ n → Ordered m fs trees → after at tok fs ready ≡ None
  after_none m [] trees ready below o = refl
  after_none m (frame.Rung l None ∷ fs) trees ready below o =
      rw (h.joins_none l None (omega (arith, o.0)), after) (after_none (rank l) fs trees ready (omega (arith, o.0)) o.1)
  after_none m (frame.Rung l (Some p) ∷ fs) [] ready below o = elim o [ ]
  after_none m (frame.Rung l (Some p) ∷ fs) (left ∷ trees) ready below o =
      rw (h.joins_none l (Some p) (omega (arith, o.0)), after) (after_none (rank l) fs trees (settle (Some p) ready) (omega (arith, o.0))
      o.1)
  after_none m (frame.Sign place s ∷ fs) trees ready below o =
      after_none 5 fs trees _ (omega (arith, o.0)) o.1
  after_none m (frame.Group ∷ fs) trees ready below o = rw (h.no_paren, after)
  after_none m (frame.Index place ∷ fs) trees ready below o = rw (h.no_bracket, after)
  after_none m (frame.Length ∷ fs) trees ready below o = rw (h.no_paren, after)
  after_none m (frame.Same ∷ fs) trees ready below o = rw (h.no_comma, after)
