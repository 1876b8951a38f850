-- Reading from left to right is the grammar: what it reaches, and where it stops.
use Rattle.std.proofs.Common.{◌≡◌, ℕ, ◌+◌, ◌-◌, ◌<◌, ◌≤◌, List, [], ◌∷◌, ◌++◌, append_assoc, ◌⊎◌, inl, inr, Option, Some, None, Bool, true}
use Rattle.std.proofs.Common.{false, nat_lt, refl, sym, ◌∙◌, subst, arith}
use Rattle.std.proofs.lemmas.Grind.{common_steps}
use Rattle.std.proofs.lemmas.List.{append-nil}
use Rattle.evp_expr.specs.declared.fault.ExprFault.{ExprFault}
use Rattle.evp_expr.specs.declared.fault.ExprFault.TheVariants as fault
use Rattle.evp_expr.specs.declared.operator.Level.TheVariants.{Disjunction}
use Rattle.evp_expr.specs.declared.token.Placed.{Placed}
use Rattle.evp_expr.specs.Levels.{levels}
use Rattle.evp_expr.specs.Tree.{Tree}
use Rattle.evp_expr.specs.Grammar.{Chain, Front, IsExpression, BeginsExpression, most_levels}
use Rattle.evp_expr.specs.Parsing.{BeginsSome, IsUnexpected, IsDeep, IsCut}
use Rattle.evp_expr.specs.Steps.{State, start}
use Rattle.evp_expr.proofs.Completes.{Completes}
use Rattle.evp_expr.proofs.Climbs.{whole_to_unary, whole_from_unary, above-ordered}
use Rattle.evp_expr.proofs.After.{option_cases}
use Rattle.evp_expr.proofs.StepCompletes.{step_completes}
use Rattle.evp_expr.proofs.StepSound.{step_leads}
use Rattle.evp_expr.proofs.Ends.{completable, finishes, finished}
use Rattle.evp_expr.proofs.Running.{step, finish, run, Reached, Stopped, Stands}

-- the state s stands for the tokens so far: what completes it completes them, and the other way round
pub record Follows (before : List Placed) (s : State) : Type 0 where
  pub stands : Stands s
  pub sound : (d k : ℕ) (ts : List Placed) (t : Tree) → most_levels ≤ d → k + levels s.frames ≡ d → Completes k s ts t
      → IsExpression d (before ++ ts) t
  pub exact : (d : ℕ) (ts : List Placed) (t : Tree) → IsExpression d (before ++ ts) t → (k : ℕ) × (k + levels s.frames ≡ d)
      × Completes k s ts t

-- and no more levels are open than may be
pub record Reads (before : List Placed) (s : State) : Type 0 where
  pub follows : Follows before s
  pub within : levels s.frames ≤ most_levels

whole : (d : ℕ) (ts us : List Placed) (m t : Tree) → Front d (Chain Disjunction) ts us m → us ≡ [] → m ≡ t → IsExpression d ts t
whole d ts us m t f e k = subst (λ y. Front d (Chain Disjunction) ts [] y) k (subst (λ y. Front d (Chain Disjunction) ts y m) e f)

pub reads_start : Reads [] start
reads_start = record {
  follows = record {
    stands = above-ordered Disjunction None [] [] (omega arith, tt);
    sound = λ d k ts t h e c.
        let w = whole_from_unary k [] [] ts t c in
        let same : k ≡ d = omega arith in
        subst (λ y. IsExpression y ts t) same (whole k ts w.0 w.1 t w.2 w.3.0 w.3.1);
    exact = λ d ts t h. (d, omega arith, whole_to_unary d [] [] ts t ([], t, h, (refl, refl)));
  };
  within = omega arith;
}

-- the tokens so far, with one more
joined_on : (before : List Placed) (p : Placed) (ts : List Placed) → (before ++ p ∷ []) ++ ts ≡ before ++ p ∷ ts
joined_on before p ts = append_assoc before (p ∷ []) ts

-- where the grammar goes on with a token, reading does
expected : (before : List Placed) (s : State) → Follows before s → (p : Placed) (d : ℕ) (ts : List Placed) (t : Tree)
    → IsExpression d ((before ++ p ∷ []) ++ ts) t → (n : State) × (k : ℕ) × (step s p ≡ Some n) × (k + levels n.frames ≡ d)
    × Completes k n ts t
expected before s h p d ts t e =
    let w = h.exact d (p ∷ ts) t (subst (λ y. IsExpression d y t) (joined_on before p ts) e) in
    let g = step_completes s.mode s.frames s.trees p.at p.token w.0 ts t h.stands w.2 in
    let same : w.0 + levels s.frames ≡ d = w.1 in
    (g.0, g.1, g.2, g.3 ∙ same, g.4)

follows_on : (before : List Placed) (s : State) → Reads before s → (p : Placed) (n : State) → step s p ≡ Some n
    → Follows (before ++ p ∷ []) n
follows_on before s h p n e =
    let leads = step_leads s.mode s.frames s.trees p.at p.token n h.follows.stands e in
    record {
      stands = leads.stands;
      sound = λ d k ts t wide q c.
          let within : levels s.frames ≤ most_levels = h.within in
          let room : (d - levels s.frames) + levels s.frames ≡ d = omega arith in
          let back = leads.sound (d - levels s.frames) k ts t (room ∙ sym q) c in
          subst (λ y. IsExpression d y t) (sym (joined_on before p ts)) (h.follows.sound d (d - levels s.frames) (p ∷ ts) t wide room back);
      exact = λ d ts t x.
          let g = expected before s h.follows p d ts t x in
          let same : g.0 ≡ n = (let w = sym g.2 ∙ e in cc) in
          (g.1, subst (λ y. g.1 + levels y.frames ≡ d) same g.3, subst (λ y. Completes g.1 y ts t) same g.4);
    }

-- a state that is reached begins an expression of as many levels as are open in it
begins_from : (before : List Placed) (s : State) → Follows before s → (d k : ℕ) → most_levels ≤ d → k + levels s.frames ≡ d
    → BeginsExpression d before
begins_from before s h d k wide q =
    let w = completable s.mode k s.frames s.trees h.stands in
    (w.0, w.1, h.sound d k w.0 w.1 wide q w.2)

pub reads_begin : (before : List Placed) (s : State) → Reads before s → BeginsExpression most_levels before
reads_begin before s h =
    let within : levels s.frames ≤ most_levels = h.within in
    begins_from before s h.follows most_levels (most_levels - levels s.frames) (omega arith) (omega arith)

-- the fault of the first token that is unexpected or too deep
abbrev pub StopFault : List Placed → ExprFault → Type 0
StopFault tokens (fault.Unexpected at) = IsUnexpected tokens at
StopFault tokens (fault.Deep at) = IsDeep tokens at
StopFault tokens _ = ⊥

refused : (before : List Placed) (s : State) (p : Placed) (others : List Placed) → Reads before s → step s p ≡ None
    → IsUnexpected (before ++ p ∷ others) p.at
refused before s p others h e = record {
  first = record {
    before = before;
    token = p;
    others = others;
    split = refl;
    begins = reads_begin before s h;
    stops = λ x. nowhere (most_levels, x);
    place = refl;
  };
  unexpected = nowhere;
}
  where
    nowhere : BeginsSome (before ++ p ∷ []) → ⊥
    nowhere (d, (ts, t, x)) =
        let g = expected before s h.follows p d ts t x in
        let w : ◌≡◌ {A = Option State} None (Some g.0) = sym e ∙ g.2 in cc

too_deep : (before : List Placed) (s n : State) (p : Placed) (others : List Placed) → Reads before s → step s p ≡ Some n
    → most_levels < levels n.frames → IsDeep (before ++ p ∷ others) p.at
too_deep before s n p others h e deep =
    let next = follows_on before s h p n e in
    record {
      first = record {
        before = before;
        token = p;
        others = others;
        split = refl;
        begins = reads_begin before s h;
        stops = λ x. let k = next.exact most_levels x.0 x.1 x.2 in (let q : k.0 + levels n.frames ≡ most_levels = k.1 in omega arith);
        place = refl;
      };
      expected = (levels n.frames, begins_from (before ++ p ∷ []) n next (levels n.frames) 0 (omega arith) (omega arith));
    }

-- what reading these tokens from a state means
RunMeans : List Placed → State → List Placed → Type 0
RunMeans before s ts =
    ((n : State) → run s ts ≡ Reached n → Reads (before ++ ts) n) × ((f : ExprFault) → run s ts ≡ Stopped f → StopFault (before ++ ts) f)

pub run_on : (s n : State) (p : Placed) (ts : List Placed) → step s p ≡ Some n → nat_lt most_levels (levels n.frames) ≡ false
    → run s (p ∷ ts) ≡ run n ts
run_on s n p ts e b = rw (e, b, run)

pub run_deep : (s n : State) (p : Placed) (ts : List Placed) → step s p ≡ Some n → nat_lt most_levels (levels n.frames) ≡ true
    → run s (p ∷ ts) ≡ Stopped (fault.Deep p.at)
run_deep s n p ts e b = rw (e, b, run)

pub run_refused : (s : State) (p : Placed) (ts : List Placed) → step s p ≡ None → run s (p ∷ ts) ≡ Stopped (fault.Unexpected p.at)
run_refused s p ts e = rw (e, run)

fault_of : (f g : ExprFault) → Stopped f ≡ Stopped g → f ≡ g
fault_of f g e = cc

-- where the next token is refused, deep or taken
after_refusal : (before : List Placed) (s : State) (p : Placed) (ts : List Placed) → Reads before s → step s p ≡ None
    → RunMeans before s (p ∷ ts)
unfolding RunMeans
after_refusal before s p ts h e = (
  λ n w. absurd (let x = sym (run_refused s p ts e) ∙ w in cc),
  λ f w. subst (λ y. StopFault (before ++ p ∷ ts) y) (fault_of _ f (sym (run_refused s p ts e) ∙ w)) (refused before s p ts h e),
)

after_deep : (before : List Placed) (s n : State) (p : Placed) (ts : List Placed) → Reads before s → step s p ≡ Some n
    → nat_lt most_levels (levels n.frames) ≡ true → RunMeans before s (p ∷ ts)
unfolding RunMeans
after_deep before s n p ts h e b = (
  λ m w. absurd (let x = sym (run_deep s n p ts e b) ∙ w in cc),
  λ f w. subst (λ y. StopFault (before ++ p ∷ ts) y) (fault_of _ f (sym (run_deep s n p ts e b) ∙ w))
      (too_deep before s n p ts h e (grind (arith, common_steps))),
)

after_step : (before : List Placed) (s n : State) (p : Placed) (ts : List Placed) → step s p ≡ Some n
    → nat_lt most_levels (levels n.frames) ≡ false → RunMeans (before ++ p ∷ []) n ts → RunMeans before s (p ∷ ts)
unfolding RunMeans
after_step before s n p ts e b ih = (
  λ m w. subst (λ y. Reads y m) (joined_on before p ts) (ih.0 m (sym (run_on s n p ts e b) ∙ w)),
  λ f w. subst (λ y. StopFault y f) (joined_on before p ts) (ih.1 f (sym (run_on s n p ts e b) ∙ w)),
)

run_means : (ts before : List Placed) (s : State) → Reads before s → RunMeans before s ts
unfolding RunMeans
run_means [] before s h = (
  λ n e. let w : s ≡ n = cc in subst (λ y. Reads (before ++ []) y) w (subst (λ y. Reads y s) (sym (append-nil before)) h),
  λ f e. absurd (cc),
)
run_means (p ∷ ts) before s h = go (λ n x. run_means ts (before ++ p ∷ []) n x) (option_cases (step s p))
  where
    by_levels : ((n : State) → Reads (before ++ p ∷ []) n → RunMeans (before ++ p ∷ []) n ts) → (n : State) → step s p ≡ Some n → (b : Bool)
        → nat_lt most_levels (levels n.frames) ≡ b → RunMeans before s (p ∷ ts)
    by_levels ih n e true b = after_deep before s n p ts h e b
    by_levels ih n e false b = after_step before s n p ts e b
        (ih n (record { follows = follows_on before s h p n e; within = grind (arith, common_steps) }))

    go : ((n : State) → Reads (before ++ p ∷ []) n → RunMeans (before ++ p ∷ []) n ts)
        → ((step s p ≡ None) ⊎ ((n : State) × (step s p ≡ Some n))) → RunMeans before s (p ∷ ts)
    go ih (inl e) = after_refusal before s p ts h e
    go ih (inr (n, e)) = by_levels ih n e (nat_lt most_levels (levels n.frames)) refl

-- what the run over all tokens means
pub run_reaches : (ts : List Placed) (n : State) → run start ts ≡ Reached n → Reads ts n
unfolding RunMeans
run_reaches ts n e = (run_means ts [] start reads_start).0 n e

pub run_stops : (ts : List Placed) (f : ExprFault) → run start ts ≡ Stopped f → StopFault ts f
unfolding RunMeans
run_stops ts f e = (run_means ts [] start reads_start).1 f e

-- the tree where all is read and the text may end
pub reached_tree : (ts : List Placed) (n : State) (t : Tree) → Reads ts n → finish n ≡ Some t → IsExpression most_levels ts t
reached_tree ts n t h e =
    let within : levels n.frames ≤ most_levels = h.within in
    let k = most_levels - levels n.frames in
    subst (λ y. IsExpression most_levels y t) (append-nil ts) (h.follows.sound most_levels k [] t (omega arith) (omega arith)
    (finished n.mode k n.frames n.trees t h.follows.stands e))

-- the only tree that the tokens have
pub expression_finishes : (ts : List Placed) (n : State) (d : ℕ) (t : Tree) → Reads ts n → IsExpression d ts t → finish n ≡ Some t
expression_finishes ts n d t h x =
    let w = h.follows.exact d [] t (subst (λ y. IsExpression d y t) (sym (append-nil ts)) x) in
    finishes n.mode w.0 n.frames n.trees t h.follows.stands w.2

pub reached_cut : (ts : List Placed) (n : State) → Reads ts n → finish n ≡ None → IsCut ts
reached_cut ts n h e = record {
  begins = reads_begin ts n h;
  unfinished = λ d t x. let w : ◌≡◌ {A = Option Tree} None (Some t) = sym e ∙ expression_finishes ts n d t h x in absurd (cc);
}
