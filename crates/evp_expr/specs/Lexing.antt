-- The tokens of a text, each the longest that stands at its place, with blanks between them.
use Rattle.std.specs.Prelude.{ℕ, zero, suc, ◌+◌, ◌*◌, ◌-◌, ◌^◌, pos, List, [], ◌∷◌, length, take}
use Rattle.std.specs.Prelude.{drop, Bool, true, false, cond, ◌&&◌, ◌||◌, not, nat_eq, nat_le}
use Rattle.std.specs.Prelude.{nat_lt, Option, Some, None}
use Rattle.std.specs.List.{prefix_len}
use Rattle.evp_base.specs.Name.{begins_name, continues_name, is_digit}
use Rattle.evp_expr.specs.declared.fault.ExprFault.{ExprFault}
use Rattle.evp_expr.specs.declared.fault.ExprFault.TheVariants as fault
use Rattle.evp_expr.specs.declared.operator.Operator.TheVariants as operator
use Rattle.evp_expr.specs.declared.token.Placed.{Placed}
use Rattle.evp_expr.specs.declared.token.Token.{Token}
use Rattle.evp_expr.specs.declared.token.Token.TheVariants as token

-- a token at its place
abbrev pub placed : ℕ → Token → Placed
placed a t = record { at = a; token = t }

-- what a text begins with: a token and its length in bytes, or none, or a number above 2^127 - 1
pub data Lexeme : Type 0 where
  Whole : Token → ℕ → Lexeme
  Missing : Lexeme
  TooLarge : Lexeme

abbrev pub is_blank : ℕ → Bool
is_blank byte = nat_eq byte 32 || nat_eq byte 9

-- a byte that may stand in a text in quotes: none below 32, no `"` and no `\`
abbrev pub is_plain : ℕ → Bool
is_plain byte = nat_le 32 byte && (not (nat_eq byte 34) && not (nat_eq byte 92))

-- the symbols of one byte: < > + - * / % ! ( ) [ ] . ,
abbrev pub symbols : List (ℕ × Token)
symbols =
    (60, token.Operator operator.Less)
    ∷ (62, token.Operator operator.Greater)
    ∷ (43, token.Operator operator.Add)
    ∷ (45, token.Operator operator.Subtract)
    ∷ (42, token.Operator operator.Multiply)
    ∷ (47, token.Operator operator.Divide)
    ∷ (37, token.Operator operator.Remainder)
    ∷ (33, token.Not)
    ∷ (40, token.OpenParen)
    ∷ (41, token.CloseParen)
    ∷ (91, token.OpenBracket)
    ∷ (93, token.CloseBracket)
    ∷ (46, token.Dot)
    ∷ (44, token.Comma)
    ∷ []

-- the symbols of two bytes: || && == != <= >=
abbrev pub double_symbols : List (ℕ × ℕ × Token)
double_symbols =
    (124, 124, token.Operator operator.Or)
    ∷ (38, 38, token.Operator operator.And)
    ∷ (61, 61, token.Operator operator.Equal)
    ∷ (33, 61, token.Operator operator.NotEqual)
    ∷ (60, 61, token.Operator operator.LessEqual)
    ∷ (62, 61, token.Operator operator.GreaterEqual)
    ∷ []

abbrev pub find_symbol : List (ℕ × Token) → ℕ → Option Token
find_symbol [] a = None
find_symbol (s ∷ others) a = cond (nat_eq a s.0) (Some s.1) (find_symbol others a)

abbrev pub find_double : List (ℕ × ℕ × Token) → ℕ → ℕ → Option Token
find_double [] a b = None
find_double (s ∷ others) a b =
    cond (nat_eq a s.0 && nat_eq b s.1) (Some s.2) (find_double others a b)

abbrev pub symbol_of : ℕ → Option Token
symbol_of a = find_symbol symbols a

abbrev pub double_of : ℕ → ℕ → Option Token
double_of a b = find_double double_symbols a b

-- the number that the digits behind n's make
abbrev pub decimal_from : ℕ → List ℕ → ℕ
decimal_from n [] = n
decimal_from n (digit ∷ digits) = decimal_from (10 * n + (digit - 48)) digits

-- a word of up to 64 bytes is a name
abbrev pub word : ℕ → List ℕ → Lexeme
word n bytes = elim (nat_le n 64) [ true ↦ Whole (token.Name (take n bytes)) n | false ↦ Missing ]

abbrev pub numeral : ℕ → List ℕ → Lexeme
numeral n bytes =
    elim (nat_lt (decimal_from 0 (take n bytes)) (2 ^ 127)) [
      | true ↦ Whole (token.Number (pos (decimal_from 0 (take n bytes)))) n
      | false ↦ TooLarge
    ]

-- a text is closed by a `"` behind its plain bytes
abbrev pub closed : List ℕ → List ℕ → Lexeme
closed inner [] = Missing
closed inner (byte ∷ bytes) =
    elim (nat_eq byte 34) [
      | true ↦ Whole (token.Text inner) (length inner + 2)
      | false ↦ Missing
    ]

abbrev pub quoted : ℕ → List ℕ → Lexeme
quoted n bytes = closed (take n bytes) (drop n bytes)

abbrev pub short_symbol : ℕ → Lexeme
short_symbol a = elim (symbol_of a) [ Some t ↦ Whole t 1 | None ↦ Missing ]

abbrev pub symbol : ℕ → List ℕ → Lexeme
symbol a [] = short_symbol a
symbol a (b ∷ bytes) = elim (double_of a b) [ Some t ↦ Whole t 2 | None ↦ short_symbol a ]

-- what a text begins with, which begins with no blank: a word and a numeral are as long as can be,
-- and a symbol of two bytes goes before one of one
abbrev pub lexeme : List ℕ → Lexeme
lexeme [] = Missing
lexeme (a ∷ bytes) =
    elim (begins_name a) [
      | true ↦ word (prefix_len continues_name (a ∷ bytes)) (a ∷ bytes)
      | false ↦ elim (is_digit a) [
        | true ↦ numeral (prefix_len is_digit (a ∷ bytes)) (a ∷ bytes)
        | false ↦ elim (nat_eq a 34) [
          | true ↦ quoted (prefix_len is_plain bytes) bytes
          | false ↦ symbol a bytes
        ]
      ]
    ]

-- the tokens of a text with their places, or the fault at the first place where none stands
pub data Scan : Type 0 where
  Tokens : List Placed → Scan
  Faulty : ExprFault → Scan

abbrev pub behind_token : Placed → Scan → Scan
behind_token first (Tokens others) = Tokens (first ∷ others)
behind_token first (Faulty f) = Faulty f

-- `scan n at bytes`: the bytes stand from `at` on, and the first n of them belong to the token
-- before
abbrev pub scan : ℕ → ℕ → List ℕ → Scan
scan n at [] = Tokens []
scan (suc n) at (a ∷ bytes) = scan n (suc at) bytes
scan zero at (a ∷ bytes) =
    elim (is_blank a) [
      | true ↦ scan zero (suc at) bytes
      | false ↦ elim (lexeme (a ∷ bytes)) [
        | Whole t n ↦ behind_token (placed at t) (scan (n - 1) (suc at) bytes)
        | Missing ↦ Faulty (fault.Token at)
        | TooLarge ↦ Faulty (fault.Literal at)
      ]
    ]

abbrev pub tokens_of : List ℕ → Scan
tokens_of text = scan 0 0 text
