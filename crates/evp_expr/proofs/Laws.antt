-- A text has one answer: a tree or a fault.
use Rattle.std.proofs.Common.{◌≡◌, ℕ, zero, suc, Bool, true, false, nat_lt, ◌-◌, ◌<◌, ◌≤◌, List, [], ◌∷◌, ◌++◌, length, append_assoc, ◌⊎◌}
use Rattle.std.proofs.Common.{inl, inr, Some, None, refl, sym, ◌∙◌, ap, subst, arith}
use Rattle.std.proofs.lemmas.Grind.{common_steps}
use Rattle.std.proofs.lemmas.List.{append-nil}
use Rattle.evp_expr.specs.declared.fault.ExprFault.{ExprFault}
use Rattle.evp_expr.specs.declared.fault.ExprFault.TheVariants as fault
use Rattle.evp_expr.specs.declared.token.Placed.{Placed}
use Rattle.evp_expr.specs.Tree.{Tree}
use Rattle.evp_expr.specs.Lexing.{placed, is_blank, Lexeme, Whole, Missing, TooLarge, lexeme, Scan, Tokens, Faulty, behind_token, scan}
use Rattle.evp_expr.specs.Lexing.{tokens_of}
use Rattle.evp_expr.specs.Grammar.{IsExpression, BeginsExpression, most_levels}
use Rattle.evp_expr.specs.Parsing.{HasTree, HasFault, BeginsSome, StopsAt, IsUnexpected, IsDeep, IsCut, most_bytes}
use Rattle.evp_expr.specs.Laws.{OneTree, TreeOrFault, OneFault, EachTextIsAnswered}
use Rattle.evp_expr.specs.Steps.{State, start}
use Rattle.evp_expr.proofs.Runs.{Reads, StopFault, run_reaches, run_stops, reached_tree, reached_cut, expression_finishes}
use Rattle.evp_expr.proofs.After.{option_cases}
use Rattle.evp_expr.proofs.Running.{run, finish, Ending, Reached, Stopped}

ending_cases : (e : Ending) → ((s : State) × (e ≡ Reached s)) ⊎ ((f : ExprFault) × (e ≡ Stopped f))
ending_cases (Reached s) = inl (s, refl)
ending_cases (Stopped f) = inr (f, refl)

-- tokens that begin an expression stop nowhere
begins_stops : (tokens : List Placed) (at : ℕ) → BeginsExpression most_levels tokens → ¬ StopsAt tokens at
begins_stops tokens at (others, tree, e) stop =
    let whole = ap (λ x. x ++ others) stop.split ∙ append_assoc stop.before (stop.token ∷ stop.others) others in
    let again = sym (append_assoc stop.before (stop.token ∷ []) (stop.others ++ others)) in
    stop.stops (stop.others ++ others, tree, subst (λ x. IsExpression most_levels x tree) (whole ∙ again) e)

expression_begins : (tokens : List Placed) (tree : Tree) → IsExpression most_levels tokens tree → BeginsExpression most_levels tokens
expression_begins tokens tree e =
    ([], tree, subst (λ x. IsExpression most_levels x tree) (sym (append-nil tokens)) e)

-- two places at which a list is split are one, or one stands behind the other
SplitCases : List Placed → Placed → List Placed → Placed → Type 0
SplitCases fore p bs q =
    ((fore ≡ bs) × (p ≡ q)) ⊎ (((mid : List Placed) × (bs ≡ (fore ++ p ∷ []) ++ mid))
    ⊎ ((mid : List Placed) × (fore ≡ (bs ++ q ∷ []) ++ mid)))

split_cases : (fore bs : List Placed) (p q : Placed) (us vs : List Placed) → fore ++ p ∷ us ≡ bs ++ q ∷ vs → SplitCases fore p bs q
unfolding SplitCases
split_cases [] [] p q us vs e = inl (refl, cc)
split_cases [] (b ∷ bs) p q us vs e = inr (inl (bs, (let h : p ≡ b = cc in ap (λ x. x ∷ bs) (sym h))))
split_cases (a ∷ fore) [] p q us vs e = inr (inr (fore, (let h : a ≡ q = cc in ap (λ x. x ∷ fore) h)))
split_cases (a ∷ fore) (b ∷ bs) p q us vs e = go (split_cases fore bs p q us vs (cc))
  where
    go : SplitCases fore p bs q → SplitCases (a ∷ fore) p (b ∷ bs) q
    go (inl (x, y)) = inl ((let h : a ≡ b = cc in ap (λ z. z ∷ fore) h ∙ ap (λ z. b ∷ z) x), y)
    go (inr (inl (mid, x))) = inr (inl (mid, (let h : a ≡ b = cc in ap (λ z. z ∷ bs) (sym h) ∙ ap (λ z. a ∷ z) x)))
    go (inr (inr (mid, x))) = inr (inr (mid, (let h : a ≡ b = cc in ap (λ z. z ∷ fore) h ∙ ap (λ z. b ∷ z) x)))

-- tokens begin an expression where those that they begin do
shorter_begins : (d : ℕ) (fore mid : List Placed) → BeginsExpression d (fore ++ mid) → BeginsExpression d fore
shorter_begins d fore mid (others, tree, e) =
    (mid ++ others, tree, subst (λ x. IsExpression d x tree) (append_assoc fore mid others) e)

-- tokens stop at one place at most
one_stop : (tokens : List Placed) (at bt : ℕ) (a : StopsAt tokens at) (b : StopsAt tokens bt) → (a.before ≡ b.before) × (a.token ≡ b.token)
unfolding SplitCases
one_stop tokens at bt a b = go (split_cases a.before b.before a.token b.token a.others b.others (sym a.split ∙ b.split))
  where
    go : SplitCases a.before a.token b.before b.token → (a.before ≡ b.before) × (a.token ≡ b.token)
    go (inl h) = h
    go (inr (inl (mid, e))) = absurd (a.stops (shorter_begins most_levels _ mid (subst (λ x. BeginsExpression most_levels x) e b.begins)))
    go (inr (inr (mid, e))) = absurd (b.stops (shorter_begins most_levels _ mid (subst (λ x. BeginsExpression most_levels x) e a.begins)))

one_place : (tokens : List Placed) (at bt : ℕ) → StopsAt tokens at → StopsAt tokens bt → at ≡ bt
one_place tokens at bt a b =
    sym a.place ∙ (ap (λ x. x.at) (one_stop tokens at bt a b).1 ∙ b.place)

unexpected_deep : (tokens : List Placed) (at bt : ℕ) → IsUnexpected tokens at → ¬ IsDeep tokens bt
unexpected_deep tokens at bt u d =
    let h = one_stop tokens at bt u.first d.first in
    u.unexpected (subst (λ x. BeginsSome (x ++ u.first.token ∷ [])) (sym h.0)
    (subst (λ x. BeginsSome (d.first.before ++ x ∷ [])) (sym h.1) d.expected))

stop_fault_stops : (tokens : List Placed) (f : ExprFault) → StopFault tokens f → (at : ℕ) × StopsAt tokens at
stop_fault_stops tokens (fault.Unexpected at) h = (at, h.first)
stop_fault_stops tokens (fault.Deep at) h = (at, h.first)
stop_fault_stops tokens _ h = absurd h

one_stop_fault : (tokens : List Placed) (f g : ExprFault) → StopFault tokens f → StopFault tokens g → f ≡ g
one_stop_fault tokens (fault.Unexpected a) (fault.Unexpected b) u v = ap fault.Unexpected (one_place tokens a b u.first v.first)
one_stop_fault tokens (fault.Unexpected a) (fault.Deep b) u v = absurd (unexpected_deep tokens a b u v)
one_stop_fault tokens (fault.Deep a) (fault.Unexpected b) u v = absurd (unexpected_deep tokens b a v u)
one_stop_fault tokens (fault.Deep a) (fault.Deep b) u v = ap fault.Deep (one_place tokens a b u.first v.first)
one_stop_fault tokens (fault.Unexpected a) _ u v = absurd v
one_stop_fault tokens (fault.Deep a) _ u v = absurd v
one_stop_fault tokens _ g u v = absurd u

-- an expression is read to its end
expression_reached : (tokens : List Placed) (tree : Tree) → IsExpression most_levels tokens tree → (s : State) × Reads tokens s
expression_reached tokens tree e = go (ending_cases (run start tokens))
  where
    go : (((s : State) × (run start tokens ≡ Reached s)) ⊎ ((f : ExprFault) × (run start tokens ≡ Stopped f))) → (s : State)
        × Reads tokens s
    go (inl (s, h)) = (s, run_reaches tokens s h)
    go (inr (f, h)) =
        let w = stop_fault_stops tokens f (run_stops tokens f h) in
        absurd (begins_stops tokens w.0 (expression_begins tokens tree e) w.1)

one_scan : (text : List ℕ) (fore bs : List Placed) → tokens_of text ≡ Tokens fore → tokens_of text ≡ Tokens bs → fore ≡ bs
one_scan text fore bs a b = let e : Tokens fore ≡ Tokens bs = sym a ∙ b in cc

pub one_tree_law : OneTree
one_tree_law text a b h k =
    let same = one_scan text k.tokens h.tokens k.scanned h.scanned in
    let w = expression_reached h.tokens a h.parsed in
    let x = expression_finishes h.tokens w.0 most_levels a w.1 h.parsed in
    let y = expression_finishes h.tokens w.0 most_levels b w.1 (subst (λ z. IsExpression most_levels z b) same k.parsed) in
    let e : Some a ≡ Some b = sym x ∙ y in cc

-- the fault of a scanned text
ScannedFault : List Placed → ℕ → ExprFault → Type 0
ScannedFault tokens end f = StopFault tokens f ⊎ (IsCut tokens × (f ≡ fault.Unexpected end))

no_scanned_fault : (tokens : List Placed) (tree : Tree) (end : ℕ) (f : ExprFault) → IsExpression most_levels tokens tree
    → ¬ ScannedFault tokens end f
unfolding ScannedFault
no_scanned_fault tokens tree end f e (inl h) =
    let w = stop_fault_stops tokens f h in begins_stops tokens w.0 (expression_begins tokens tree e) w.1
no_scanned_fault tokens tree end f e (inr (cut, q)) = cut.unfinished most_levels tree e

one_scanned_fault : (tokens : List Placed) (end : ℕ) (f g : ExprFault) → ScannedFault tokens end f → ScannedFault tokens end g → f ≡ g
unfolding ScannedFault
one_scanned_fault tokens end f g (inl h) (inl k) = one_stop_fault tokens f g h k
one_scanned_fault tokens end f g (inl h) (inr (cut, q)) =
    let w = stop_fault_stops tokens f h in absurd (begins_stops tokens w.0 cut.begins w.1)
one_scanned_fault tokens end f g (inr (cut, q)) (inl k) =
    let w = stop_fault_stops tokens g k in absurd (begins_stops tokens w.0 cut.begins w.1)
one_scanned_fault tokens end f g (inr (cut, q)) (inr (other, r)) = q ∙ sym r

-- where a fault comes from: the length, the tokens or the grammar
data FaultCases (text : List ℕ) (f : ExprFault) : Type 0 where
  by_length : f ≡ fault.Long → most_bytes < length text → FaultCases text f
  by_tokens : length text ≤ most_bytes → tokens_of text ≡ Faulty f → FaultCases text f
  by_grammar : (tokens : List Placed) → length text ≤ most_bytes → tokens_of text ≡ Tokens tokens → ScannedFault tokens (length text) f
      → FaultCases text f

fault_cases : (text : List ℕ) (f : ExprFault) → HasFault text f → FaultCases text f
unfolding ScannedFault
fault_cases text fault.Long h = by_length refl h
fault_cases text (fault.Token at) h = by_tokens h.0 h.1
fault_cases text (fault.Literal at) h = by_tokens h.0 h.1
fault_cases text (fault.Unexpected at) h = by_grammar h.tokens h.short h.scanned (go h.holds)
  where
    go : (IsUnexpected h.tokens at ⊎ (IsCut h.tokens × (at ≡ length text))) → ScannedFault h.tokens (length text) (fault.Unexpected at)
    go (inl u) = inl u
    go (inr (cut, e)) = inr (cut, ap fault.Unexpected e)
fault_cases text (fault.Deep at) h = by_grammar h.tokens h.short h.scanned (inl h.holds)
fault_cases text fault.Memory h = absurd h

pub tree_or_fault_law : TreeOrFault
tree_or_fault_law text tree f h k = go (fault_cases text f k)
  where
    go : FaultCases text f → ⊥
    go (by_length q long) = let short = h.short in omega (arith, short, long)
    go (by_tokens short e) = let w : Tokens h.tokens ≡ Faulty f = sym h.scanned ∙ e in cc
    go (by_grammar tokens short e s) =
        let same = one_scan text h.tokens tokens h.scanned e in
        no_scanned_fault tokens tree (length text) f (subst (λ x. IsExpression most_levels x tree) same h.parsed) s

pub one_fault_law : OneFault
one_fault_law text f g h k = go (fault_cases text f h) (fault_cases text g k)
  where
    go : FaultCases text f → FaultCases text g → f ≡ g
    go (by_length a b) (by_length c d) = a ∙ sym c
    go (by_length a b) (by_tokens c d) = absurd (omega (arith, b, c))
    go (by_length a b) (by_grammar tokens c d e) = absurd (omega (arith, b, c))
    go (by_tokens a b) (by_length c d) = absurd (omega (arith, a, d))
    go (by_tokens a b) (by_tokens c d) = let w : Faulty f ≡ Faulty g = sym b ∙ d in cc
    go (by_tokens a b) (by_grammar tokens c d e) = absurd (let w : Faulty f ≡ Tokens tokens = sym b ∙ d in cc)
    go (by_grammar tokens a b e) (by_length c d) = absurd (omega (arith, a, d))
    go (by_grammar tokens a b e) (by_tokens c d) = absurd (let w : Tokens tokens ≡ Faulty g = sym b ∙ d in cc)
    go (by_grammar tokens a b e) (by_grammar others c d i) =
        let same = one_scan text others tokens d b in
        one_scanned_fault tokens (length text) f g e (subst (λ x. ScannedFault x (length text) g) same i)

-- the faults of tokens
LexFault : ExprFault → Type 0
LexFault (fault.Token at) = Unit {0}
LexFault (fault.Literal at) = Unit {0}
LexFault _ = ⊥

behind_faulty : (p : Placed) (s : Scan) (f : ExprFault) → behind_token p s ≡ Faulty f → s ≡ Faulty f
behind_faulty p (Tokens others) f e = absurd (cc)
behind_faulty p (Faulty g) f e = e

scan_fault : (n at : ℕ) (bytes : List ℕ) (f : ExprFault) → scan n at bytes ≡ Faulty f → LexFault f
unfolding LexFault
scan_fault n at [] f e = absurd (cc)
scan_fault (suc n) at (a ∷ bytes) f e = scan_fault n (suc at) bytes f e
scan_fault zero at (a ∷ bytes) f e = go (λ n x. scan_fault n (suc at) bytes f x) (is_blank a) (lexeme (a ∷ bytes)) e
  where
    go : ((n : ℕ) → scan n (suc at) bytes ≡ Faulty f → LexFault f) → (b : Bool) (x : Lexeme) → (elim b as (λ y. Scan) [
      | true ↦ scan 0 (suc at) bytes
      | false ↦ elim x as (λ y. Scan) [
        | Whole t n ↦ behind_token (placed at t) (scan (n - 1) (suc at) bytes)
        | Missing ↦ Faulty (fault.Token at)
        | TooLarge ↦ Faulty (fault.Literal at)
      ]
    ]) ≡ Faulty f → LexFault f
    go ih true x e = ih 0 e
    go ih false (Whole t n) e = ih (n - 1) (behind_faulty (placed at t) _ f e)
    go ih false Missing e = let h : fault.Token at ≡ f = cc in subst LexFault h tt
    go ih false TooLarge e = let h : fault.Literal at ≡ f = cc in subst LexFault h tt

lex_fault : (text : List ℕ) (f : ExprFault) → length text ≤ most_bytes → tokens_of text ≡ Faulty f → LexFault f → HasFault text f
unfolding LexFault
lex_fault text (fault.Token at) short e h = (short, e)
lex_fault text (fault.Literal at) short e h = (short, e)
lex_fault text _ short e h = absurd h

stop_fault : (text : List ℕ) (tokens : List Placed) (f : ExprFault) → length text ≤ most_bytes → tokens_of text ≡ Tokens tokens
    → StopFault tokens f → HasFault text f
stop_fault text ts (fault.Unexpected at) s e h = record { tokens = ts; short = s; scanned = e; holds = inl h }
stop_fault text ts (fault.Deep at) s e h = record { tokens = ts; short = s; scanned = e; holds = h }
stop_fault text ts _ s e h = absurd h

Answered : List ℕ → Type 0
Answered text = ((tree : Tree) × HasTree text tree) ⊎ ((f : ExprFault) × HasFault text f)

tokens_answered : (text : List ℕ) (ts : List Placed) → length text ≤ most_bytes → tokens_of text ≡ Tokens ts → Answered text
unfolding Answered
tokens_answered text ts s e = go (ending_cases (run start ts))
  where
    at_end : (n : State) → Reads ts n → ((finish n ≡ None) ⊎ ((t : Tree) × (finish n ≡ Some t))) → Answered text
    at_end n h (inl x) = inr
        (fault.Unexpected (length text), record { tokens = ts; short = s; scanned = e; holds = inr (reached_cut ts n h x, refl) })
    at_end n h (inr (t, x)) = inl (t, record { tokens = ts; short = s; scanned = e; parsed = reached_tree ts n t h x })

    go : (((n : State) × (run start ts ≡ Reached n)) ⊎ ((f : ExprFault) × (run start ts ≡ Stopped f))) → Answered text
    go (inl (n, h)) = at_end n (run_reaches ts n h) (option_cases (finish n))
    go (inr (f, h)) = inr (f, stop_fault text ts f s e (run_stops ts f h))

pub each_text_is_answered_law : EachTextIsAnswered
unfolding Answered
each_text_is_answered_law text = by_length (nat_lt most_bytes (length text)) refl
  where
    by_scan : length text ≤ most_bytes → (s : Scan) → tokens_of text ≡ s → Answered text
    by_scan short (Tokens ts) e = tokens_answered text ts short e
    by_scan short (Faulty f) e = inr (f, lex_fault text f short e (scan_fault 0 0 text f e))

    by_length : (b : Bool) → nat_lt most_bytes (length text) ≡ b → Answered text
    by_length true e = inr (fault.Long, grind (arith, common_steps))
    by_length false e = by_scan (grind (arith, common_steps)) (tokens_of text) refl
