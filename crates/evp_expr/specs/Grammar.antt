-- The grammar of expressions over tokens, each rule with the tree that it makes:
--
--   expr  = and { "||" and }
--   and   = cmp { "&&" cmp }
--   cmp   = sum [ ( "==" | "!=" | "<" | "<=" | ">" | ">=" ) sum ]
--   sum   = prod { ( "+" | "-" ) prod }
--   prod  = unary { ( "*" | "/" | "%" ) unary }
--   unary = ( "-" | "!" ) unary | atom
--   atom  = number | "(" expr ")" | path | "len" "(" path ")" | "same" "(" path "," text ")"
--   path  = name { "." name | "[" expr "]" }
use Rattle.std.specs.Prelude.{◌≡◌, ℕ, suc, ℤ, List, [], ◌∷◌, ◌++◌}
use Rattle.evp_expr.specs.declared.operator.Operator.{Operator}
use Rattle.evp_expr.specs.declared.operator.Operator.TheVariants.{Subtract}
use Rattle.evp_expr.specs.declared.operator.Sign.TheVariants.{Negate}
use Rattle.evp_expr.specs.declared.operator.Sign.TheVariants as sign
use Rattle.evp_expr.specs.declared.operator.Level.{Level}
use Rattle.evp_expr.specs.declared.operator.Level.TheVariants.{Disjunction, Conjunction, Comparison}
use Rattle.evp_expr.specs.declared.operator.Level.TheVariants.{Sum, Product}
use Rattle.evp_expr.specs.declared.token.Placed.{Placed}
use Rattle.evp_expr.specs.declared.token.Token.TheVariants as token
use Rattle.evp_expr.specs.Levels.{level_of}
use Rattle.evp_expr.specs.Lexing.{placed}
use Rattle.evp_expr.specs.Tree.{Tree, number, name, field, index, length_of, same, signed, joined}

-- `len` and `same`
abbrev pub len_word : List ℕ
len_word = 108 ∷ 101 ∷ 110 ∷ []

abbrev pub same_word : List ℕ
same_word = 115 ∷ 97 ∷ 109 ∷ 101 ∷ []

-- The parts of the grammar. `Behind` a phrase of a level, whose front has a tree, stand the
-- operators of that level and their right sides; behind a `Complete` phrase stands nothing more.
pub data Part : Type 0 where
  Chain : Level → Part
  Behind : Level → Tree → Part
  Complete : Tree → Part
  Unary : Part
  Atom : Part
  Path : Part
  BehindPath : Tree → Part

-- the operands of a level's operators are phrases of the next tighter one
abbrev pub operand : Level → Part
operand Disjunction = Chain Conjunction
operand Conjunction = Chain Comparison
operand Comparison = Chain Sum
operand Sum = Chain Product
operand Product = Unary

-- what may follow an operator's right side: a comparison has one operator at most
abbrev pub behind : Level → Tree → Part
behind Disjunction tree = Behind Disjunction tree
behind Conjunction tree = Behind Conjunction tree
behind Comparison tree = Complete tree
behind Sum tree = Behind Sum tree
behind Product tree = Behind Product tree

-- `Front d part tokens rest tree`: the tokens begin with a phrase of that part, which has this
-- tree, and rest is what follows it. Within it at most d levels are open at once: each `(`, each
-- `[` and each sign opens a level that lasts to the end of its part.
pub data Front : ℕ → Part → List Placed → List Placed → Tree → Type 0 where
  chain : {d : ℕ} {l : Level} {ts us rest : List Placed} {t tree : Tree}
      → Front d (operand l) ts us t → Front d (Behind l t) us rest tree
      → Front d (Chain l) ts rest tree
  no_more : {d : ℕ} {l : Level} {ts : List Placed} {t : Tree} → Front d (Behind l t) ts ts t
  more : {d at : ℕ} {l : Level} {op : Operator} {ts us rest : List Placed} {t right tree : Tree}
      → level_of op ≡ l → Front d (operand l) ts us right
      → Front d (behind l (joined at op t right)) us rest tree
      → Front d (Behind l t) (placed at (token.Operator op) ∷ ts) rest tree
  complete : {d : ℕ} {ts : List Placed} {t : Tree} → Front d (Complete t) ts ts t
  negated : {d at : ℕ} {ts rest : List Placed} {t : Tree} → Front d Unary ts rest t
      → Front (suc d) Unary (placed at (token.Operator Subtract) ∷ ts) rest (signed at Negate t)
  denied : {d at : ℕ} {ts rest : List Placed} {t : Tree} → Front d Unary ts rest t
      → Front (suc d) Unary (placed at token.Not ∷ ts) rest (signed at sign.Not t)
  unsigned : {d : ℕ} {ts rest : List Placed} {t : Tree} → Front d Atom ts rest t
      → Front d Unary ts rest t
  literal : {d at : ℕ} {n : ℤ} {ts : List Placed}
      → Front d Atom (placed at (token.Number n) ∷ ts) ts (number n)
  group : {d at end : ℕ} {ts rest : List Placed} {t : Tree}
      → Front d (Chain Disjunction) ts (placed end token.CloseParen ∷ rest) t
      → Front (suc d) Atom (placed at token.OpenParen ∷ ts) rest t
  path : {d : ℕ} {ts rest : List Placed} {t : Tree} → Front d Path ts rest t
      → Front d Atom ts rest t
  measured : {d at paren end : ℕ} {ts rest : List Placed} {t : Tree}
      → Front d Path ts (placed end token.CloseParen ∷ rest) t
      → Front (suc d) Atom
      (placed at (token.Name len_word) ∷ placed paren token.OpenParen ∷ ts) rest (length_of t)
  compared : {d at paren comma quote end : ℕ} {text : List ℕ} {ts rest : List Placed} {t : Tree}
      → Front d Path ts (placed comma token.Comma ∷ placed quote (token.Text text)
      ∷ placed end token.CloseParen ∷ rest) t
      → Front (suc d) Atom
      (placed at (token.Name same_word) ∷ placed paren token.OpenParen ∷ ts) rest (same t text)
  first : {d at : ℕ} {word : List ℕ} {ts rest : List Placed} {t : Tree}
      → Front d (BehindPath (name at word)) ts rest t
      → Front d Path (placed at (token.Name word) ∷ ts) rest t
  path_end : {d : ℕ} {ts : List Placed} {t : Tree} → Front d (BehindPath t) ts ts t
  dotted : {d dot at : ℕ} {word : List ℕ} {ts rest : List Placed} {t tree : Tree}
      → Front d (BehindPath (field t at word)) ts rest tree
      → Front d (BehindPath t) (placed dot token.Dot ∷ placed at (token.Name word) ∷ ts) rest tree
  subscripted : {d at end : ℕ} {ts us rest : List Placed} {t i tree : Tree}
      → Front d (Chain Disjunction) ts (placed end token.CloseBracket ∷ us) i
      → Front (suc d) (BehindPath (index t at i)) us rest tree
      → Front (suc d) (BehindPath t) (placed at token.OpenBracket ∷ ts) rest tree

-- the levels that may be open at once
abbrev pub most_levels : ℕ
most_levels = 64

-- these tokens are an expression with this tree, and at most d levels are open in it at once
abbrev pub IsExpression : ℕ → List Placed → Tree → Type 0
IsExpression d tokens tree = Front d (Chain Disjunction) tokens [] tree

-- some expression of at most d levels begins with these tokens
abbrev pub BeginsExpression : ℕ → List Placed → Type 0
BeginsExpression d tokens =
    (others : List Placed) × (tree : Tree) × IsExpression d (tokens ++ others) tree
