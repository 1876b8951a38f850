-- A tree as a text, with all its parentheses and a blank behind each token.
use Rattle.std.specs.Prelude.{◌≡◌, ℕ, suc, pos, ◌<◌, ◌^◌, max, List, ◌++◌, codes, IsTrue}
use Rattle.std.specs.Fmt.{signed_decimal}
use Rattle.std.specs.List.{list_all}
use Rattle.evp_base.specs.Name.{is_name}
use Rattle.evp_expr.specs.declared.operator.Operator.{Operator}
use Rattle.evp_expr.specs.declared.operator.Operator.TheVariants as operator
use Rattle.evp_expr.specs.declared.operator.Sign.{Sign}
use Rattle.evp_expr.specs.declared.operator.Sign.TheVariants as sign
use Rattle.evp_expr.specs.Lexing.{is_plain}
use Rattle.evp_expr.specs.Tree.{Tree, number, name, field, index, length_of, same, signed, joined}

abbrev pub sign_text : Sign → List ℕ
sign_text sign.Negate = codes "-"
sign_text sign.Not = codes "!"

abbrev pub operator_text : Operator → List ℕ
operator_text operator.Or = codes "||"
operator_text operator.And = codes "&&"
operator_text operator.Equal = codes "=="
operator_text operator.NotEqual = codes "!="
operator_text operator.Less = codes "<"
operator_text operator.LessEqual = codes "<="
operator_text operator.Greater = codes ">"
operator_text operator.GreaterEqual = codes ">="
operator_text operator.Add = codes "+"
operator_text operator.Subtract = codes "-"
operator_text operator.Multiply = codes "*"
operator_text operator.Divide = codes "/"
operator_text operator.Remainder = codes "%"

-- a text in its quotes
abbrev pub quotes : List ℕ → List ℕ
quotes text = codes "\"" ++ (text ++ codes "\"")

-- a token's text, and a blank
abbrev pub spaced : List ℕ → List ℕ
spaced token = token ++ codes " "

-- the tree's text
abbrev pub printed : Tree → List ℕ
printed (number n) = spaced (signed_decimal n)
printed (name at word) = spaced word
printed (field p at word) = printed p ++ (spaced (codes ".") ++ spaced word)
printed (index p at i) =
    printed p ++ (spaced (codes "[") ++ (printed i ++ spaced (codes "]")))
printed (length_of p) =
    spaced (codes "len") ++ (spaced (codes "(") ++ (printed p ++ spaced (codes ")")))
printed (same p text) =
    spaced (codes "same") ++ (spaced (codes "(") ++
    (printed p ++ (spaced (codes ",") ++ (spaced (quotes text) ++ spaced (codes ")")))))
printed (signed at s x) =
    spaced (codes "(") ++ (spaced (sign_text s) ++ (printed x ++ spaced (codes ")")))
printed (joined at op l r) =
    spaced (codes "(") ++
    (printed l ++ (spaced (operator_text op) ++ (printed r ++ spaced (codes ")"))))

-- the levels that are open at once in the tree's text
abbrev pub height : Tree → ℕ
height (number n) = 0
height (name at word) = 0
height (field p at word) = height p
height (index p at i) = max (height p) (suc (height i))
height (length_of p) = suc (height p)
height (same p text) = suc (height p)
height (signed at s x) = suc (suc (height x))
height (joined at op l r) = suc (max (height l) (height r))

-- its numbers are from 0 to 2^127 - 1, its names are names, and its texts are such as quotes can
-- hold
abbrev pub IsLegal : Tree → Type 0
IsLegal (number n) = (k : ℕ) × (n ≡ pos k) × (k < 2 ^ 127)
IsLegal (name at word) = IsTrue (is_name word)
IsLegal (field p at word) = IsLegal p × IsTrue (is_name word)
IsLegal (index p at i) = IsLegal p × IsLegal i
IsLegal (length_of p) = IsLegal p
IsLegal (same p text) = IsLegal p × IsTrue (list_all is_plain text)
IsLegal (signed at s x) = IsLegal x
IsLegal (joined at op l r) = IsLegal l × IsLegal r

-- the tree without its places, each of which is 0
abbrev pub bare : Tree → Tree
bare (number n) = number n
bare (name at word) = name 0 word
bare (field p at word) = field (bare p) 0 word
bare (index p at i) = index (bare p) 0 (bare i)
bare (length_of p) = length_of (bare p)
bare (same p text) = same (bare p) text
bare (signed at s x) = signed 0 s (bare x)
bare (joined at op l r) = joined 0 op (bare l) (bare r)
