-- Where a token leads, in each state, the grammar has it there.
use Rattle.std.proofs.Common.{◌≡◌, ℕ, suc, ◌+◌, List, [], ◌∷◌, Bool, true, false, Option, Some, None, refl, sym, ap, subst, arith}
use Rattle.std.specs.Str.{bytes_eq}
use Rattle.std.proofs.lemmas.Slice.Eq.{bytes_eq-Decides}
use Rattle.evp_expr.specs.declared.operator.Operator.TheVariants as operator
use Rattle.evp_expr.specs.declared.operator.Sign.TheVariants as sign
use Rattle.evp_expr.specs.declared.operator.Level.TheVariants.{Disjunction}
use Rattle.evp_expr.specs.declared.token.Placed.{Placed}
use Rattle.evp_expr.specs.declared.token.Token.{Token}
use Rattle.evp_expr.specs.declared.token.Token.TheVariants as token
use Rattle.evp_expr.specs.declared.state.Frame.{Frame}
use Rattle.evp_expr.specs.declared.state.Frame.TheVariants as frame
use Rattle.evp_expr.specs.declared.state.Mode.{Mode}
use Rattle.evp_expr.specs.declared.state.Mode.TheVariants as mode
use Rattle.evp_expr.specs.Levels.{levels}
use Rattle.evp_expr.specs.Tree.{Tree, number, name, length_of, same, signed}
use Rattle.evp_expr.specs.Grammar.{Chain, Unary, Atom, Path, BehindPath, Front, negated, denied, unsigned, literal, group, path, measured}
use Rattle.evp_expr.specs.Grammar.{compared, first, path_end, dotted, subscripted, len_word, same_word}
use Rattle.evp_expr.specs.Lexing.{placed}
use Rattle.evp_expr.specs.Steps.{State, state, begins, extends, follows_name, begins_path, names_field, gives_text, ends_same, step_at}
use Rattle.evp_expr.specs.Standing.{Ordered, StandsAt}
use Rattle.evp_expr.proofs.Completes.{Continues, Resumes, CompletesAt, Completes}
use Rattle.evp_expr.proofs.Climbs.{whole_from_unary, above-ordered}
use Rattle.evp_expr.proofs.AfterSound.{Leads, after_leads}
use Rattle.evp_expr.proofs.Running.{Stands}

-- a state that can be reached, from which the grammar leads back
pub record LeadsOn (s : State) (m : Mode) (fs : List Frame) (trees : List Tree) (at : ℕ) (tok : Token) : Type 0 where
  pub stands : Stands s
  pub sound : (d k : ℕ) (ts : List Placed) (t : Tree) → d + levels fs ≡ k + levels s.frames → Completes k s ts t
      → CompletesAt m d fs trees (placed at tok ∷ ts) t

-- the next state is this one
leads_to : (m : Mode) (fs : List Frame) (trees : List Tree) (at : ℕ) (tok : Token) (x s : State) → ◌≡◌ {A = Option State} (Some x) (Some s)
    → LeadsOn x m fs trees at tok → LeadsOn s m fs trees at tok
leads_to m fs trees at tok x s e h = subst (λ y. LeadsOn y m fs trees at tok) (let q : x ≡ s = cc in q) h

-- a token leads on at the same levels, or one further in
same_levels : (m : Mode) (fs : List Frame) (trees : List Tree) (at : ℕ) (tok : Token) (s : State) → levels s.frames ≡ levels fs → Stands s
    → ((k : ℕ) (ts : List Placed) (t : Tree) → Completes k s ts t → CompletesAt m k fs trees (placed at tok ∷ ts) t)
    → LeadsOn s m fs trees at tok
same_levels m fs trees at tok s l o f = record {
  stands = o;
  sound = λ d k ts t q c. let e : k ≡ d = omega arith in subst (λ y. CompletesAt m y fs trees (placed at tok ∷ ts) t) e (f k ts t c);
}

one_level : (m : Mode) (fs : List Frame) (trees : List Tree) (at : ℕ) (tok : Token) (s : State) → levels s.frames ≡ suc (levels fs)
    → Stands s → ((k : ℕ) (ts : List Placed) (t : Tree) → Completes k s ts t → CompletesAt m (suc k) fs trees (placed at tok ∷ ts) t)
    → LeadsOn s m fs trees at tok
one_level m fs trees at tok s l o f = record {
  stands = o;
  sound = λ d k ts t q c. let e : suc k ≡ d = omega arith in subst (λ y. CompletesAt m y fs trees (placed at tok ∷ ts) t) e (f k ts t c);
}

in_group : (at k : ℕ) (fs : List Frame) (trees : List Tree) (ts : List Placed) (t : Tree)
    → Continues (Chain Disjunction) k (frame.Group ∷ fs) trees ts t → Continues Unary (suc k) fs trees (placed at token.OpenParen ∷ ts) t
in_group at k fs trees ts t (us, m, g, (end, vs, e, r)) =
    (vs, m, unsigned (group {end = end} (subst (λ y. Front k (Chain Disjunction) ts y m) e g)), r)

in_index : (at k : ℕ) (fs : List Frame) (p : Tree) (trees : List Tree) (ts : List Placed) (t : Tree)
    → Continues (Chain Disjunction) k (frame.Index at ∷ fs) (p ∷ trees) ts t
    → Continues (BehindPath p) (suc k) fs trees (placed at token.OpenBracket ∷ ts) t
in_index at k fs p trees ts t (us, i, g, (end, vs, ws, m, e, f, r)) =
    (ws, m, subscripted {end = end} (subst (λ y. Front k (Chain Disjunction) ts y i) e g) f, r)

in_length : (place at k : ℕ) (fs : List Frame) (trees : List Tree) (ts : List Placed) (t : Tree)
    → Continues Path k (frame.Length ∷ fs) trees ts t → Continues Atom (suc k) fs trees
    (placed place (token.Name len_word) ∷ placed at token.OpenParen ∷ ts) t
in_length place at k fs trees ts t (us, p, f, (end, vs, e, r)) =
    (vs, length_of p, measured {end = end} (subst (λ y. Front k Path ts y p) e f), r)

in_same : (place at k : ℕ) (fs : List Frame) (trees : List Tree) (ts : List Placed) (t : Tree)
    → Continues Path k (frame.Same ∷ fs) trees ts t → Continues Atom (suc k) fs trees
    (placed place (token.Name same_word) ∷ placed at token.OpenParen ∷ ts) t
in_same place at k fs trees ts t (us, p, f, (comma, quote, end, text, vs, e, r)) =
    (vs, same p text, compared {comma = comma} {quote = quote} {end = end} (subst (λ y. Front k Path ts y p) e f), r)

in_dotted : (at k : ℕ) (fs : List Frame) (p : Tree) (trees : List Tree) (ts : List Placed) (t : Tree)
    → CompletesAt mode.FieldName k fs (p ∷ trees) ts t → Continues (BehindPath p) k fs trees (placed at token.Dot ∷ ts) t
in_dotted at k fs p trees ts t (a, word, us, e, (vs, m, f, r)) =
    (vs, m, subst (λ y. Front k (BehindPath p) (placed at token.Dot ∷ y) vs m) (sym e) (dotted f), r)

operand_leads : (fs : List Frame) (trees : List Tree) (at : ℕ) (tok : Token) (s : State) → Ordered 5 fs trees
    → begins at tok fs trees ≡ Some s → LeadsOn s mode.Operand fs trees at tok
operand_leads fs trees at (token.Name word) s o e =
    leads_to mode.Operand fs trees at _ _ s e (same_levels mode.Operand fs trees at _ _ refl o (λ k ts t c. (c.0, c.1, unsigned c.2, c.3)))
operand_leads fs trees at (token.Number n) s o e =
    leads_to mode.Operand fs trees at _ _ s e
    (same_levels mode.Operand fs trees at _ _ refl o (λ k ts t c. (ts, number n, unsigned literal, c)))
operand_leads fs trees at (token.Operator operator.Subtract) s o e =
    leads_to mode.Operand fs trees at _ _ s e
    (one_level mode.Operand fs trees at _ _ refl (refl, o) (λ k ts t c. (c.0, signed at sign.Negate c.1, negated c.2, c.3)))
operand_leads fs trees at (token.Operator _) s o e = absurd (cc)
operand_leads fs trees at token.Not s o e =
    leads_to mode.Operand fs trees at _ _ s e
    (one_level mode.Operand fs trees at _ _ refl (refl, o) (λ k ts t c. (c.0, signed at sign.Not c.1, denied c.2, c.3)))
operand_leads fs trees at token.OpenParen s o e =
    leads_to mode.Operand fs trees at _ _ s e
    (one_level mode.Operand fs trees at _ _ refl (above-ordered Disjunction None (frame.Group ∷ fs) trees (omega arith, o))
    (λ k ts t c. in_group at k fs trees ts t (whole_from_unary k (frame.Group ∷ fs) trees ts t c)))
operand_leads fs trees at _ s o e = absurd (cc)

behind_leads : (fs : List Frame) (p : Tree) (trees : List Tree) (at : ℕ) (tok : Token) (s : State) → Leads s at tok fs trees p
    → LeadsOn s mode.AfterPath fs (p ∷ trees) at tok
behind_leads fs p trees at tok s h = record {
  stands = h.stands;
  sound = λ d k ts t q c. (placed at tok ∷ ts, p, path_end, h.sound d k ts t q c);
}

path_leads : (fs : List Frame) (p : Tree) (trees : List Tree) (at : ℕ) (tok : Token) (s : State) → Ordered 5 fs trees
    → extends at tok fs (p ∷ trees) ≡ Some s → LeadsOn s mode.AfterPath fs (p ∷ trees) at tok
path_leads fs p trees at token.Dot s o e =
    leads_to mode.AfterPath fs (p ∷ trees) at _ _ s e (same_levels mode.AfterPath fs (p ∷ trees) at _ _ refl o
    (λ k ts t c. in_dotted at k fs p trees ts t c))
path_leads fs p trees at token.OpenBracket s o e =
    leads_to mode.AfterPath fs (p ∷ trees) at _ _ s e
    (one_level mode.AfterPath fs (p ∷ trees) at _ _ refl (above-ordered Disjunction None (frame.Index at ∷ fs) (p ∷ trees)
    (omega arith, o)) (λ k ts t c. in_index at k fs p trees ts t (whole_from_unary k (frame.Index at ∷ fs) (p ∷ trees) ts t c)))
path_leads fs p trees at tok s o e = behind_leads fs p trees at tok s (after_leads 5 at tok fs trees p s o e)

-- a name that isn't a function's, with what follows it
word_leads : (place : ℕ) (word : List ℕ) (fs : List Frame) (trees : List Tree) (at : ℕ) (tok : Token) (s : State)
    → LeadsOn s mode.AfterPath fs (name place word ∷ trees) at tok → LeadsOn s (mode.AfterName place word) fs trees at tok
word_leads place word fs trees at tok s h = record {
  stands = h.stands;
  sound = λ d k ts t q c. let w = h.sound d k ts t q c in (w.0, w.1, path (first w.2), w.3);
}

function_leads : (place : ℕ) (word : List ℕ) (fs : List Frame) (trees : List Tree) (at : ℕ) (s : State) → Ordered 5 fs trees
    → follows_name place word at token.OpenParen fs trees ≡ Some s → LeadsOn s (mode.AfterName place word) fs trees at token.OpenParen
function_leads place word fs trees at s o e = go (bytes_eq word len_word) (bytes_eq word same_word) refl refl e
  where
    go : (is_len is_same : Bool) → bytes_eq word len_word ≡ is_len → bytes_eq word same_word ≡ is_same
        → (elim (elim is_len as (λ y. Option Frame)
        [ true ↦ Some frame.Length | false ↦ elim is_same [ true ↦ Some frame.Same | false ↦ None ] ]) as (λ y. Option State) [
          | Some f ↦ Some (state mode.PathStart (f ∷ fs) trees)
          | None ↦ None
        ]) ≡ Some s → LeadsOn s (mode.AfterName place word) fs trees at token.OpenParen
    go true _ h g e =
        let w = (bytes_eq-Decides word len_word).0 h in
        leads_to (mode.AfterName place word) fs trees at _ _ s e
        (one_level (mode.AfterName place word) fs trees at _ _ refl o
        (λ k ts t c. subst (λ y. Continues Atom (suc k) fs trees (placed place (token.Name y) ∷ placed at token.OpenParen ∷ ts) t)
        (sym w) (in_length place at k fs trees ts t c)))
    go false true h g e =
        let w = (bytes_eq-Decides word same_word).0 g in
        leads_to (mode.AfterName place word) fs trees at _ _ s e
        (one_level (mode.AfterName place word) fs trees at _ _ refl o
        (λ k ts t c. subst (λ y. Continues Atom (suc k) fs trees (placed place (token.Name y) ∷ placed at token.OpenParen ∷ ts) t)
        (sym w) (in_same place at k fs trees ts t c)))
    go false false h g e = absurd (cc)

name_leads : (place : ℕ) (word : List ℕ) (fs : List Frame) (trees : List Tree) (at : ℕ) (tok : Token) (s : State) → Ordered 5 fs trees
    → follows_name place word at tok fs trees ≡ Some s → LeadsOn s (mode.AfterName place word) fs trees at tok
name_leads place word fs trees at token.OpenParen s o e = function_leads place word fs trees at s o e
name_leads place word fs trees at tok s o e =
    word_leads place word fs trees at tok s (path_leads fs (name place word) trees at tok s o e)

first_leads : (fs : List Frame) (trees : List Tree) (at : ℕ) (tok : Token) (s : State) → Ordered 5 fs trees
    → begins_path at tok fs trees ≡ Some s → LeadsOn s mode.PathStart fs trees at tok
first_leads fs trees at (token.Name word) s o e =
    leads_to mode.PathStart fs trees at _ _ s e (same_levels mode.PathStart fs trees at _ _ refl o (λ k ts t c. (c.0, c.1, first c.2, c.3)))
first_leads fs trees at _ s o e = absurd (cc)

field_leads : (fs : List Frame) (p : Tree) (trees : List Tree) (at : ℕ) (tok : Token) (s : State) → Ordered 5 fs trees
    → names_field at tok fs (p ∷ trees) ≡ Some s → LeadsOn s mode.FieldName fs (p ∷ trees) at tok
field_leads fs p trees at (token.Name word) s o e =
    leads_to mode.FieldName fs (p ∷ trees) at _ _ s e (same_levels mode.FieldName fs (p ∷ trees) at _ _ refl o
    (λ k ts t c. (at, word, ts, refl, c)))
field_leads fs p trees at _ s o e = absurd (cc)

text_leads : (fs : List Frame) (p : Tree) (trees : List Tree) (at : ℕ) (tok : Token) (s : State) → Ordered 5 fs trees
    → gives_text tok (frame.Same ∷ fs) (p ∷ trees) ≡ Some s → LeadsOn s mode.TextOfSame (frame.Same ∷ fs) (p ∷ trees) at tok
text_leads fs p trees at (token.Text text) s o e =
    leads_to mode.TextOfSame (frame.Same ∷ fs) (p ∷ trees) at _ _ s e
    (same_levels mode.TextOfSame (frame.Same ∷ fs) (p ∷ trees) at _ _ refl o
    (λ k ts t c. (at, c.0, text, c.1, ap (λ x. placed at (token.Text text) ∷ x) c.2, c.3)))
text_leads fs p trees at _ s o e = absurd (cc)

end_leads : (text : List ℕ) (fs : List Frame) (p : Tree) (trees : List Tree) (at : ℕ) (tok : Token) (s : State) → Ordered 5 fs trees
    → ends_same text tok (frame.Same ∷ fs) (p ∷ trees) ≡ Some s → LeadsOn s (mode.EndOfSame text) (frame.Same ∷ fs) (p ∷ trees) at tok
end_leads text fs p trees at token.CloseParen s o e =
    leads_to (mode.EndOfSame text) (frame.Same ∷ fs) (p ∷ trees) at _ _ s e (record {
      stands = o;
      sound = λ d k ts t q c. (at, ts, refl, (let e : k ≡ suc d = omega arith in subst (λ y. Resumes y fs trees (same p text) ts t) e c));
    })
end_leads text fs p trees at _ s o e = absurd (cc)

pub step_leads : (m : Mode) (fs : List Frame) (trees : List Tree) (at : ℕ) (tok : Token) (s : State) → StandsAt m fs trees
    → step_at m fs trees at tok ≡ Some s → LeadsOn s m fs trees at tok
step_leads mode.Operand fs trees at tok s o e = operand_leads fs trees at tok s o e
step_leads mode.PathStart fs trees at tok s o e = first_leads fs trees at tok s o e
step_leads mode.FieldName fs [] at tok s o e = elim o [ ]
step_leads mode.FieldName fs (p ∷ trees) at tok s o e = field_leads fs p trees at tok s o e
step_leads (mode.AfterName place word) fs trees at tok s o e = name_leads place word fs trees at tok s o e
step_leads mode.AfterPath fs [] at tok s o e = elim o [ ]
step_leads mode.AfterPath fs (p ∷ trees) at tok s o e = path_leads fs p trees at tok s o e
step_leads mode.AfterOperand fs [] at tok s o e = elim o [ ]
step_leads mode.AfterOperand fs (l ∷ trees) at tok s o e =
    let h = after_leads 5 at tok fs trees l s o e in record { stands = h.stands; sound = h.sound }
step_leads mode.TextOfSame (frame.Same ∷ fs) (p ∷ trees) at tok s o e = text_leads fs p trees at tok s o e
step_leads mode.TextOfSame _ _ at tok s o e = elim o [ ]
step_leads (mode.EndOfSame text) (frame.Same ∷ fs) (p ∷ trees) at tok s o e = end_leads text fs p trees at tok s o e
step_leads (mode.EndOfSame text) _ _ at tok s o e = elim o [ ]
