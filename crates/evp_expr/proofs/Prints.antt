-- Trees are read from their tokens, with all their parentheses.
use Rattle.std.proofs.Common.{ℕ, ℤ, suc, List, [], ◌∷◌, ◌++◌, append_assoc, refl, sym, subst}
use Rattle.std.proofs.lemmas.List.{append-nil}
use Rattle.evp_expr.specs.declared.operator.Operator.{Operator}
use Rattle.evp_expr.specs.declared.operator.Operator.TheVariants.{Subtract}
use Rattle.evp_expr.specs.declared.operator.Sign.{Sign}
use Rattle.evp_expr.specs.declared.operator.Sign.TheVariants as sign
use Rattle.evp_expr.specs.declared.operator.Level.{Level}
use Rattle.evp_expr.specs.declared.operator.Level.TheVariants.{Disjunction, Conjunction, Comparison, Sum, Product}
use Rattle.evp_expr.specs.declared.token.Placed.{Placed}
use Rattle.evp_expr.specs.declared.token.Token.{Token}
use Rattle.evp_expr.specs.declared.token.Token.TheVariants as token
use Rattle.evp_expr.specs.Levels.{level_of}
use Rattle.evp_expr.specs.Tree.{Tree, number, name, field, index, length_of, same, signed, joined}
use Rattle.evp_expr.specs.Lexing.{placed}
use Rattle.evp_expr.specs.Grammar.{Chain, Unary, Atom, Path, BehindPath, Front, operand, IsExpression, len_word, same_word}
use Rattle.evp_expr.specs.Grammar.{chain, no_more, more, negated, denied, unsigned, literal, group, path, measured, compared, first}
use Rattle.evp_expr.specs.Grammar.{path_end, dotted, subscripted}
use Rattle.evp_expr.proofs.AfterSound.{behind_ends}

-- an atom is an operand of each level, and a whole
as_operand : (l : Level) {d : ℕ} {ts us : List Placed} {t : Tree} → Front d Unary ts us t → Front d (operand l) ts us t
as_operand Product f = f
as_operand Sum f = chain f no_more
as_operand Comparison f = chain (chain f no_more) no_more
as_operand Conjunction f = chain (chain (chain f no_more) no_more) no_more
as_operand Disjunction f = chain (chain (chain (chain f no_more) no_more) no_more) no_more

as_whole : (l : Level) {d : ℕ} {ts us : List Placed} {t : Tree} → Front d (Chain l) ts us t → Front d (Chain Disjunction) ts us t
as_whole Product f = chain (chain (chain (chain f no_more) no_more) no_more) no_more
as_whole Sum f = chain (chain (chain f no_more) no_more) no_more
as_whole Comparison f = chain (chain f no_more) no_more
as_whole Conjunction f = chain f no_more
as_whole Disjunction f = f

atom_whole : {d : ℕ} {ts us : List Placed} {t : Tree} → Front d Atom ts us t → Front d (Chain Disjunction) ts us t
atom_whole f = chain (as_operand Disjunction (unsigned f)) no_more

-- an operator between two atoms is a whole
joined_whole : (at : ℕ) (op : Operator) {d : ℕ} {ts us vs : List Placed} {l r : Tree}
    → Front d Atom ts (placed at (token.Operator op) ∷ us) l → Front d Atom us vs r → Front d (Chain Disjunction) ts vs (joined at op l r)
joined_whole at op f g =
    let right = more refl (as_operand (level_of op) (unsigned g)) (behind_ends (level_of op) _ _ _) in
    as_whole (level_of op) (chain (as_operand (level_of op) (unsigned f)) right)

abbrev pub sign_token : Sign → Token
sign_token sign.Negate = token.Operator Subtract
sign_token sign.Not = token.Not

-- a sign before an atom is a whole
signed_whole : (at : ℕ) (s : Sign) {d : ℕ} {ts us : List Placed} {t : Tree} → Front d Atom ts us t
    → Front (suc d) (Chain Disjunction) (placed at (sign_token s) ∷ ts) us (signed at s t)
signed_whole at sign.Negate f = chain (as_operand Disjunction (negated (unsigned f))) no_more
signed_whole at sign.Not f = chain (as_operand Disjunction (denied (unsigned f))) no_more

-- a tree is read as an atom from these tokens, whatever follows them; and a path goes on as a path
pub AtomReads : Tree → List Placed → ℕ → Type 0
AtomReads t ts d = (rest : List Placed) → Front d Atom (ts ++ rest) rest t

pub PathReads : Tree → List Placed → ℕ → Type 0
PathReads t ts d = (rest us : List Placed) (q : Tree) → Front d (BehindPath t) rest us q → Front d Path (ts ++ rest) us q

pub path_atom : (t : Tree) (ts : List Placed) (d : ℕ) → PathReads t ts d → AtomReads t ts d
unfolding PathReads AtomReads
path_atom t ts d h = λ rest. path (h rest rest t path_end)

pub number_atom : (n : ℤ) (at d : ℕ) → AtomReads (number n) (placed at (token.Number n) ∷ []) d
unfolding AtomReads
number_atom n at d rest = literal

pub name_path : (at : ℕ) (word : List ℕ) (d : ℕ) → PathReads (name at word) (placed at (token.Name word) ∷ []) d
unfolding PathReads
name_path at word d rest us q f = first f

pub field_path : (p : Tree) (at : ℕ) (word : List ℕ) (us : List Placed) (dot d : ℕ) → PathReads p us d
    → PathReads (field p at word) (us ++ placed dot token.Dot ∷ placed at (token.Name word) ∷ []) d
unfolding PathReads
field_path p at word us dot d h rest vs q f =
    let split = append_assoc us (placed dot token.Dot ∷ placed at (token.Name word) ∷ []) rest in
    subst (λ x. Front d Path x vs q) (sym split) (h (placed dot token.Dot ∷ placed at (token.Name word) ∷ rest) vs q (dotted f))

pub index_path : (p i : Tree) (at end : ℕ) (us vs : List Placed) (d : ℕ) → PathReads p us (suc d) → AtomReads i vs d
    → PathReads (index p at i) (us ++ placed at token.OpenBracket ∷ (vs ++ placed end token.CloseBracket ∷ [])) (suc d)
unfolding PathReads AtomReads
index_path p i at end us vs d h g rest ws q f =
    let open_bracket = placed at token.OpenBracket in
    let close_bracket = placed end token.CloseBracket in
    let split = append_assoc us (open_bracket ∷ (vs ++ close_bracket ∷ [])) rest in
    let inner = append_assoc vs (close_bracket ∷ []) rest in
    subst (λ x. Front (suc d) Path x ws q) (sym split)
    (subst (λ x. Front (suc d) Path (us ++ open_bracket ∷ x) ws q) (sym inner)
    (h (open_bracket ∷ (vs ++ close_bracket ∷ rest)) ws q (subscripted {end = end} (atom_whole (g (close_bracket ∷ rest))) f)))

pub length_atom : (p : Tree) (us : List Placed) (at paren end d : ℕ) → PathReads p us d
    → AtomReads (length_of p) (placed at (token.Name len_word) ∷ placed paren token.OpenParen ∷ (us ++ placed end token.CloseParen ∷ []))
    (suc d)
unfolding PathReads AtomReads
length_atom p us at paren end d h rest =
    let inner = append_assoc us (placed end token.CloseParen ∷ []) rest in
    subst (λ x. Front (suc d) Atom (placed at (token.Name len_word) ∷ placed paren token.OpenParen ∷ x) rest (length_of p)) (sym inner)
    (measured {end = end} (h (placed end token.CloseParen ∷ rest) _ p path_end))

-- the tokens behind the path of `same`
abbrev pub behind_same : List ℕ → ℕ → ℕ → ℕ → List Placed → List Placed
behind_same text comma quote end rest = placed comma token.Comma ∷ placed quote (token.Text text) ∷ placed end token.CloseParen ∷ rest

pub same_atom : (p : Tree) (text : List ℕ) (us : List Placed) (at paren comma quote end d : ℕ) → PathReads p us d
    → AtomReads (same p text) (placed at (token.Name same_word) ∷ placed paren token.OpenParen
    ∷ (us ++ behind_same text comma quote end [])) (suc d)
unfolding PathReads AtomReads
same_atom p text us at paren comma quote end d h rest =
    let inner = append_assoc us (behind_same text comma quote end []) rest in
    subst (λ x. Front (suc d) Atom (placed at (token.Name same_word) ∷ placed paren token.OpenParen ∷ x) rest (same p text)) (sym inner)
    (compared {comma = comma} {quote = quote} {end = end} (h (behind_same text comma quote end rest) _ p path_end))

pub signed_atom : (at : ℕ) (s : Sign) (t : Tree) (us : List Placed) (paren end d : ℕ) → AtomReads t us d
    → AtomReads (signed at s t) (placed paren token.OpenParen ∷ placed at (sign_token s) ∷ (us ++ placed end token.CloseParen ∷ []))
    (suc (suc d))
unfolding AtomReads
signed_atom at s t us paren end d h rest =
    let inner = append_assoc us (placed end token.CloseParen ∷ []) rest in
    subst (λ x. Front (suc (suc d)) Atom (placed paren token.OpenParen ∷ placed at (sign_token s) ∷ x) rest (signed at s t)) (sym inner)
    (group {end = end} (signed_whole at s (h (placed end token.CloseParen ∷ rest))))

pub joined_atom : (at : ℕ) (op : Operator) (l r : Tree) (us vs : List Placed) (paren end d : ℕ) → AtomReads l us d → AtomReads r vs d
    → AtomReads (joined at op l r) (placed paren token.OpenParen
    ∷ (us ++ placed at (token.Operator op) ∷ (vs ++ placed end token.CloseParen ∷ []))) (suc d)
unfolding AtomReads
joined_atom at op l r us vs paren end d h g rest =
    let close = placed end token.CloseParen in
    let between = placed at (token.Operator op) in
    let outer = append_assoc us (between ∷ (vs ++ close ∷ [])) rest in
    let inner = append_assoc vs (close ∷ []) rest in
    subst (λ x. Front (suc d) Atom (placed paren token.OpenParen ∷ x) rest (joined at op l r)) (sym outer)
    (subst (λ x. Front (suc d) Atom (placed paren token.OpenParen ∷ (us ++ between ∷ x)) rest (joined at op l r)) (sym inner)
    (group {end = end} (joined_whole at op (h (between ∷ (vs ++ close ∷ rest))) (g (close ∷ rest)))))

-- the whole
pub as_expression : (t : Tree) (ts : List Placed) (d : ℕ) → AtomReads t ts d → IsExpression d ts t
unfolding AtomReads
as_expression t ts d h = subst (λ x. IsExpression d x t) (append-nil ts) (atom_whole (h []))
