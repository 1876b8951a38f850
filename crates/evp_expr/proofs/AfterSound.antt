-- Where a token behind an operand leads, the grammar has it there.
use Rattle.std.proofs.Common.{◌≡◌, ℕ, suc, ◌+◌, List, [], ◌∷◌, Bool, true, false, ◌⊎◌, inl, inr, Option, Some, None, refl, sym, ◌∙◌, ap}
use Rattle.std.proofs.Common.{subst, arith}
use Rattle.evp_expr.specs.declared.operator.Operator.{Operator}
use Rattle.evp_expr.specs.declared.operator.Level.{Level}
use Rattle.evp_expr.specs.declared.operator.Level.TheVariants.{Disjunction, Conjunction, Comparison, Sum, Product}
use Rattle.evp_expr.specs.declared.token.Placed.{Placed}
use Rattle.evp_expr.specs.declared.token.Token.{Token}
use Rattle.evp_expr.specs.declared.token.Token.TheVariants as token
use Rattle.evp_expr.specs.declared.state.Pending.{Pending}
use Rattle.evp_expr.specs.declared.state.Frame.{Frame}
use Rattle.evp_expr.specs.declared.state.Frame.TheVariants as frame
use Rattle.evp_expr.specs.declared.state.Mode.TheVariants as mode
use Rattle.evp_expr.specs.Levels.{rank, levels}
use Rattle.evp_expr.specs.Tree.{Tree, index, length_of, signed, joined}
use Rattle.evp_expr.specs.Grammar.{Behind, Unary, Front, behind, no_more, more, complete}
use Rattle.evp_expr.specs.Lexing.{placed}
use Rattle.evp_expr.specs.Steps.{State, state, above, joins, takes_more, is_close_paren, is_close_bracket, is_comma, after, settle}
use Rattle.evp_expr.specs.Standing.{Ordered}
use Rattle.evp_expr.proofs.Completes.{Continues, Resumes, CompletesAt, Completes}
use Rattle.evp_expr.proofs.Climbs.{from_unary, above-ordered}
use Rattle.evp_expr.proofs.After.{levels-above, option_cases, Joins, joins_some, after_rung_none, after_rung_some}
use Rattle.evp_expr.proofs.Running.{Stands}

pub if_some : {A : Type 0} (b : Bool) (x s : A) → (elim b [ true ↦ Some x | false ↦ None ]) ≡ Some s → (b ≡ true) × (x ≡ s)
if_some true x s e = (refl, cc)
if_some false x s e = absurd (cc)

pub is_paren : (tok : Token) → is_close_paren tok ≡ true → tok ≡ token.CloseParen
is_paren token.CloseParen e = refl
is_paren _ e = absurd (cc)

is_bracket : (tok : Token) → is_close_bracket tok ≡ true → tok ≡ token.CloseBracket
is_bracket token.CloseBracket e = refl
is_bracket _ e = absurd (cc)

is_comma_token : (tok : Token) → is_comma tok ≡ true → tok ≡ token.Comma
is_comma_token token.Comma e = refl
is_comma_token _ e = absurd (cc)

-- a state that can be reached, from which the grammar leads back
pub record Leads (s : State) (at : ℕ) (tok : Token) (fs : List Frame) (trees : List Tree) (l : Tree) : Type 0 where
  pub stands : Stands s
  pub sound : (d k : ℕ) (ts : List Placed) (t : Tree) → d + levels fs ≡ k + levels s.frames → Completes k s ts t
      → Resumes d fs trees l (placed at tok ∷ ts) t

behind_more : (l : Level) (p : Pending) (x : Tree) → takes_more l (Some p) ≡ true → behind l x ≡ Behind l x
behind_more Disjunction p x m = refl
behind_more Conjunction p x m = refl
behind_more Comparison p x m = absurd (cc)
behind_more Sum p x m = refl
behind_more Product p x m = refl

pub behind_ends : (l : Level) (d : ℕ) (ts : List Placed) (x : Tree) → Front d (behind l x) ts ts x
behind_ends Disjunction d ts x = no_more
behind_ends Conjunction d ts x = no_more
behind_ends Comparison d ts x = complete
behind_ends Sum d ts x = no_more
behind_ends Product d ts x = no_more

-- what a phrase with a pending operator, or none, needs to go on
rung_resumes : (l : Level) (p : Option Pending) (fs : List Frame) (trees ready : List Tree) (first lt : Tree) (rest : List Tree)
    → settle p (first ∷ ready) ≡ lt ∷ rest → Ordered (suc (rank l)) (frame.Rung l p ∷ fs) ready → (d : ℕ) (ts us : List Placed) (m t : Tree)
    → ((p ≡ None) ⊎ (takes_more l p ≡ true)) → Front d (Behind l lt) ts us m → Resumes d fs rest m us t
    → Resumes d (frame.Rung l p ∷ fs) ready first ts t
rung_resumes l None fs trees ready first lt rest s o d ts us m t may f r =
    let e : first ≡ lt = cc in
    let g : ready ≡ rest = cc in
    (us, m, subst (λ x. Front d (Behind l x) ts us m) (sym e) f, subst (λ x. Resumes d fs x m us t) (sym g) r)
rung_resumes l (Some p) fs trees [] first lt rest s o d ts us m t may f r = elim o [ ]
rung_resumes l (Some p) fs trees (left ∷ others) first lt rest s o d ts us m t may f r =
    let e : joined p.at p.operator left first ≡ lt = cc in
    let g : others ≡ rest = cc in (
      us,
      m,
      subst (λ x. Front d x ts us m) (sym (behind_more l p _ (takes may))) (subst (λ x. Front d (Behind l x) ts us m) (sym e) f),
      subst (λ x. Resumes d fs x m us t) (sym g) r,
    )
  where
    takes : ((Some p ≡ None) ⊎ (takes_more l (Some p) ≡ true)) → takes_more l (Some p) ≡ true
    takes (inl e) = absurd (cc)
    takes (inr m) = m

-- the token goes on with the phrase of a rung
rung_leads : (at : ℕ) (tok : Token) (l : Level) (p : Option Pending) (x : Operator) (fs : List Frame) (ready : List Tree) (first lt : Tree)
    (rest : List Tree) (s : State) → settle p (first ∷ ready) ≡ lt ∷ rest → Ordered (suc (rank l)) (frame.Rung l p ∷ fs) ready
    → Ordered (rank l) fs rest → Joins l p tok x
    → state mode.Operand (above l (frame.Rung l (Some (record { at = at; operator = x })) ∷ fs)) (lt ∷ rest) ≡ s
    → Leads s at tok (frame.Rung l p ∷ fs) ready first
rung_leads at tok l p x fs ready first lt rest s settles o ordered j e =
    subst (λ y. Leads y at tok (frame.Rung l p ∷ fs) ready first) e (record {
      stands = above-ordered l (Some (record { at = at; operator = x })) fs (lt ∷ rest) (omega arith, ordered);
      sound = λ d k ts t q c.
          let same : d ≡ k = (let a = levels-above l (frame.Rung l (Some (record { at = at; operator = x })) ∷ fs) in omega arith) in
          let w = from_unary l d _ (lt ∷ rest) ts t
          (subst (λ y. Continues Unary y (above l (frame.Rung l (Some (record { at = at; operator = x })) ∷ fs)) (lt ∷ rest) ts t)
          (sym same) c) in
          let f = subst (λ y. Front d (Behind l lt) (placed at y ∷ ts) w.3.0 w.3.1) (sym j.is_operator)
          (more {at = at} j.of_level w.2 w.3.2) in
          rung_resumes l p fs rest ready first lt rest settles o d _ w.3.0 w.3.1 t (inr j.takes) f w.3.3;
    })

-- the `,` of `same`, where its text and its end follow
in_comma : (at d : ℕ) (fs : List Frame) (l : Tree) (trees : List Tree) (ts : List Placed) (t : Tree)
    → CompletesAt mode.TextOfSame d (frame.Same ∷ fs) (l ∷ trees) ts t → Resumes d (frame.Same ∷ fs) trees l (placed at token.Comma ∷ ts) t
in_comma at d fs l trees ts t (quote, end, text, us, e, r) =
    (at, quote, end, text, us, ap (λ x. placed at token.Comma ∷ x) e, r)

pub after_leads : (n at : ℕ) (tok : Token) (fs : List Frame) (trees : List Tree) (l : Tree) (s : State) → Ordered n fs trees
    → after at tok fs (l ∷ trees) ≡ Some s → Leads s at tok fs trees l
after_leads n at tok [] [] l s o e = absurd (cc)
after_leads n at tok [] (x ∷ trees) l s o e = elim o [ ]
after_leads n at tok (frame.Rung level None ∷ fs) trees l s o e =
    go (after_leads (rank level) at tok fs trees l s o.1) (option_cases (joins level None tok))
  where
    go : (after at tok fs (l ∷ trees) ≡ Some s → Leads s at tok fs trees l)
        → ((joins level None tok ≡ None) ⊎ ((x : Operator) × (joins level None tok ≡ Some x)))
        → Leads s at tok (frame.Rung level None ∷ fs) trees l
    go ih (inl j) =
        let h = ih (sym (after_rung_none at tok level None fs (l ∷ trees) j) ∙ e) in
        record {
          stands = h.stands;
          sound = λ d k ts t q c. (placed at tok ∷ ts, l, no_more, h.sound d k ts t q c);
        }
    go ih (inr (x, j)) =
        let w = sym (after_rung_some at tok level None x fs (l ∷ trees) j) ∙ e in
        rung_leads at tok level None x fs trees l l trees s refl (omega arith, o.1) o.1 (joins_some level None tok x j) (cc)
after_leads n at tok (frame.Rung level (Some p) ∷ fs) [] l s o e = elim o [ ]
after_leads n at tok (frame.Rung level (Some p) ∷ fs) (left ∷ trees) l s o e =
    go (after_leads (rank level) at tok fs trees (joined p.at p.operator left l) s o.1) (option_cases (joins level (Some p) tok))
  where
    go : (after at tok fs (joined p.at p.operator left l ∷ trees) ≡ Some s → Leads s at tok fs trees (joined p.at p.operator left l))
        → ((joins level (Some p) tok ≡ None) ⊎ ((x : Operator) × (joins level (Some p) tok ≡ Some x)))
        → Leads s at tok (frame.Rung level (Some p) ∷ fs) (left ∷ trees) l
    go ih (inl j) =
        let h = ih (sym (after_rung_none at tok level (Some p) fs (l ∷ left ∷ trees) j) ∙ e) in
        record {
          stands = h.stands;
          sound = λ d k ts t q c. (placed at tok ∷ ts, joined p.at p.operator left l, behind_ends level d _ _, h.sound d k ts t q c);
        }
    go ih (inr (x, j)) =
        let w = sym (after_rung_some at tok level (Some p) x fs (l ∷ left ∷ trees) j) ∙ e in
        rung_leads at tok level (Some p) x fs (left ∷ trees) l (joined p.at p.operator left l) trees s refl (omega arith, o.1) o.1
        (joins_some level (Some p) tok x j) (cc)
after_leads n at tok (frame.Sign place sign ∷ fs) trees l s o e =
    let h = after_leads 5 at tok fs trees (signed place sign l) s o.1 e in
    record {
      stands = h.stands;
      sound = λ d k ts t q c. h.sound (suc d) k ts t (omega arith) c;
    }
after_leads n at tok (frame.Group ∷ fs) trees l s o e =
    let w = if_some (is_close_paren tok) _ s e in
    subst (λ y. Leads s at y (frame.Group ∷ fs) trees l) (sym (is_paren tok w.0))
    (subst (λ y. Leads y at token.CloseParen (frame.Group ∷ fs) trees l) w.1 (record {
      stands = o;
      sound = λ d k ts t q c. (at, ts, refl, (let same : k ≡ suc d = omega arith in subst (λ y. Resumes y fs trees l ts t) same c));
    }))
after_leads n at tok (frame.Index place ∷ fs) [] l s o e = elim o [ ]
after_leads n at tok (frame.Index place ∷ fs) (p ∷ trees) l s o e =
    let w = if_some (is_close_bracket tok) _ s e in
    subst (λ y. Leads s at y (frame.Index place ∷ fs) (p ∷ trees) l) (sym (is_bracket tok w.0))
    (subst (λ y. Leads y at token.CloseBracket (frame.Index place ∷ fs) (p ∷ trees) l) w.1 (record {
      stands = o;
      sound = λ d k ts t q c.
          let same : k ≡ suc d = omega arith in
          let r = subst (λ y. CompletesAt mode.AfterPath y fs (index p place l ∷ trees) ts t) same c in
          (at, ts, r.0, r.1, refl, r.2, r.3);
    }))
after_leads n at tok (frame.Length ∷ fs) trees l s o e =
    let w = if_some (is_close_paren tok) _ s e in
    subst (λ y. Leads s at y (frame.Length ∷ fs) trees l) (sym (is_paren tok w.0))
    (subst (λ y. Leads y at token.CloseParen (frame.Length ∷ fs) trees l) w.1 (record {
      stands = o;
      sound = λ d k ts t q c.
          (at, ts, refl, (let same : k ≡ suc d = omega arith in subst (λ y. Resumes y fs trees (length_of l) ts t) same c));
    }))
after_leads n at tok (frame.Same ∷ fs) trees l s o e =
    let w = if_some (is_comma tok) _ s e in
    subst (λ y. Leads s at y (frame.Same ∷ fs) trees l) (sym (is_comma_token tok w.0))
    (subst (λ y. Leads y at token.Comma (frame.Same ∷ fs) trees l) w.1 (record {
      stands = o;
      sound = λ d k ts t q c.
          let same : k ≡ d = omega arith in
          in_comma at d fs l trees ts t (subst (λ y. CompletesAt mode.TextOfSame y (frame.Same ∷ fs) (l ∷ trees) ts t) same c);
    }))
