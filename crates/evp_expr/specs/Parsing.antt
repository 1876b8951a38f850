-- The tree of a text, or its first fault.
use Rattle.std.specs.Prelude.{◌≡◌, ℕ, ◌<◌, ◌≤◌, List, [], ◌∷◌, ◌++◌, length, ◌⊎◌, Result, Ok, Err}
use Rattle.evp_expr.specs.declared.fault.ExprFault.{ExprFault}
use Rattle.evp_expr.specs.declared.fault.ExprFault.TheVariants as fault
use Rattle.evp_expr.specs.declared.token.Placed.{Placed}
use Rattle.evp_expr.specs.Tree.{Tree}
use Rattle.evp_expr.specs.Lexing.{Tokens, Faulty, tokens_of}
use Rattle.evp_expr.specs.Grammar.{most_levels, IsExpression, BeginsExpression}

-- the bytes that a text may have
abbrev pub most_bytes : ℕ
most_bytes = 4096

-- some expression begins with these tokens, however many levels it opens
abbrev pub BeginsSome : List Placed → Type 0
BeginsSome tokens = (d : ℕ) × BeginsExpression d tokens

-- the text has this tree
pub record HasTree (text : List ℕ) (tree : Tree) : Type 0 where
  pub tokens : List Placed
  pub short : length text ≤ most_bytes
  pub scanned : tokens_of text ≡ Tokens tokens
  pub parsed : IsExpression most_levels tokens tree

-- The token at this place is the first with which the tokens so far begin no expression of the
-- levels that may be open.
pub record StopsAt (tokens : List Placed) (at : ℕ) : Type 0 where
  pub before : List Placed
  pub token : Placed
  pub others : List Placed
  pub split : tokens ≡ before ++ token ∷ others
  pub begins : BeginsExpression most_levels before
  pub stops : ¬ BeginsExpression most_levels (before ++ token ∷ [])
  pub place : token.at ≡ at

-- it is unexpected: the tokens so far begin no expression at all
pub record IsUnexpected (tokens : List Placed) (at : ℕ) : Type 0 where
  pub first : StopsAt tokens at
  pub unexpected : ¬ BeginsSome (first.before ++ first.token ∷ [])

-- it opens a level too many: the tokens so far begin an expression of more levels alone
pub record IsDeep (tokens : List Placed) (at : ℕ) : Type 0 where
  pub first : StopsAt tokens at
  pub expected : BeginsSome (first.before ++ first.token ∷ [])

-- all tokens begin an expression, and are none
pub record IsCut (tokens : List Placed) : Type 0 where
  pub begins : BeginsExpression most_levels tokens
  pub unfinished : (d : ℕ) (tree : Tree) → ¬ IsExpression d tokens tree

-- the tokens of a text that isn't too long have this property
pub record TokensOf (text : List ℕ) (P : List Placed → Type 0) : Type 0 where
  pub tokens : List Placed
  pub short : length text ≤ most_bytes
  pub scanned : tokens_of text ≡ Tokens tokens
  pub holds : P tokens

-- the text has this fault, the first in the order: its length, its tokens, its grammar
abbrev pub HasFault : List ℕ → ExprFault → Type 0
HasFault text fault.Long = most_bytes < length text
HasFault text (fault.Token at) =
    (length text ≤ most_bytes) × (tokens_of text ≡ Faulty (fault.Token at))
HasFault text (fault.Literal at) =
    (length text ≤ most_bytes) × (tokens_of text ≡ Faulty (fault.Literal at))
HasFault text (fault.Unexpected at) =
    TokensOf text (λ tokens. IsUnexpected tokens at ⊎ (IsCut tokens × (at ≡ length text)))
HasFault text (fault.Deep at) = TokensOf text (λ tokens. IsDeep tokens at)
HasFault text fault.Memory = ⊥

-- the answer for the tokens of a text that ends at `end`
abbrev pub ReadAnswers : List Placed → ℕ → Result Tree ExprFault → Type 0
ReadAnswers tokens end (Ok tree) = IsExpression most_levels tokens tree
ReadAnswers tokens end (Err fault.Memory) = Unit {0}
ReadAnswers tokens end (Err (fault.Unexpected at)) =
    IsUnexpected tokens at ⊎ (IsCut tokens × (at ≡ end))
ReadAnswers tokens end (Err (fault.Deep at)) = IsDeep tokens at
ReadAnswers tokens end (Err _) = ⊥
