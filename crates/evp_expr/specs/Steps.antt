-- One step of reading from left to right: what is open and which trees stand ready, token by token.
use Rattle.std.specs.Prelude.{ℕ, List, [], ◌∷◌, Bool, true, false, ◌&&◌, nat_eq, Option, Some, None}
use Rattle.std.specs.Str.{bytes_eq}
use Rattle.evp_expr.specs.declared.operator.Operator.{Operator}
use Rattle.evp_expr.specs.declared.operator.Operator.TheVariants.{Subtract}
use Rattle.evp_expr.specs.declared.operator.Sign.TheVariants as sign
use Rattle.evp_expr.specs.declared.operator.Level.{Level}
use Rattle.evp_expr.specs.declared.operator.Level.TheVariants.{Disjunction, Conjunction, Comparison}
use Rattle.evp_expr.specs.declared.operator.Level.TheVariants.{Sum, Product}
use Rattle.evp_expr.specs.declared.token.Token.{Token}
use Rattle.evp_expr.specs.declared.token.Token.TheVariants as token
use Rattle.evp_expr.specs.declared.node.Node.TheVariants as node
use Rattle.evp_expr.specs.declared.state.Pending.{Pending}
use Rattle.evp_expr.specs.declared.state.Frame.{Frame}
use Rattle.evp_expr.specs.declared.state.Frame.TheVariants as frame
use Rattle.evp_expr.specs.declared.state.Mode.{Mode}
use Rattle.evp_expr.specs.declared.state.Mode.TheVariants as mode
use Rattle.evp_expr.specs.Levels.{level_of, rank}
use Rattle.evp_expr.specs.Nodes.{grow}
use Rattle.evp_expr.specs.Tree.{Tree, number, name}
use Rattle.evp_expr.specs.Grammar.{len_word, same_word}

-- what is read next, what is open, the innermost first, and the trees ready, the last first
pub record State : Type 0 where
  pub mode : Mode
  pub frames : List Frame
  pub trees : List Tree

abbrev pub state : Mode → List Frame → List Tree → State
state m fs ts = record { mode = m; frames = fs; trees = ts }

-- the rungs of an operand of a level's operators
abbrev pub above : Level → List Frame → List Frame
above Product fs = fs
above Sum fs = frame.Rung Product None ∷ fs
above Comparison fs = frame.Rung Product None ∷ frame.Rung Sum None ∷ fs
above Conjunction fs =
    frame.Rung Product None ∷ frame.Rung Sum None ∷ frame.Rung Comparison None ∷ fs
above Disjunction fs =
    frame.Rung Product None ∷ frame.Rung Sum None ∷ frame.Rung Comparison None
    ∷ frame.Rung Conjunction None ∷ fs

-- the rungs of a whole expression
abbrev pub rungs : List Frame → List Frame
rungs fs = above Disjunction (frame.Rung Disjunction None ∷ fs)

-- a comparison takes no second operator
abbrev pub takes_more : Level → Option Pending → Bool
takes_more Comparison (Some p) = false
takes_more Comparison None = true
takes_more Disjunction p = true
takes_more Conjunction p = true
takes_more Sum p = true
takes_more Product p = true

-- the operator by which a token goes on with a phrase of a level
abbrev pub joins : Level → Option Pending → Token → Option Operator
joins l p (token.Operator op) =
    elim (nat_eq (rank (level_of op)) (rank l) && takes_more l p) [
      | true ↦ Some op
      | false ↦ None
    ]
joins l p (token.Name word) = None
joins l p (token.Number n) = None
joins l p (token.Text text) = None
joins l p token.Not = None
joins l p token.OpenParen = None
joins l p token.CloseParen = None
joins l p token.OpenBracket = None
joins l p token.CloseBracket = None
joins l p token.Dot = None
joins l p token.Comma = None

abbrev pub is_close_paren : Token → Bool
is_close_paren token.CloseParen = true
is_close_paren _ = false

abbrev pub is_close_bracket : Token → Bool
is_close_bracket token.CloseBracket = true
is_close_bracket _ = false

abbrev pub is_comma : Token → Bool
is_comma token.Comma = true
is_comma _ = false

abbrev pub is_open_paren : Token → Bool
is_open_paren token.OpenParen = true
is_open_paren _ = false

-- the trees ready after a phrase's pending operator
abbrev pub settle : Option Pending → List Tree → List Tree
settle None ts = ts
settle (Some p) ts = grow (node.Joined p.at p.operator) ts

-- what is open behind an operator that goes on with a phrase of a level
abbrev pub goes_on : ℕ → Level → Operator → List Frame → List Frame
goes_on at l op fs = above l (frame.Rung l (Some (record { at = at; operator = op })) ∷ fs)

-- A token behind an operand that nothing extends. What the operand ends is closed, up to what the
-- token belongs to.
abbrev pub after : ℕ → Token → List Frame → List Tree → Option State
after at t [] ts = None
after at t (frame.Rung l p ∷ fs) ts =
    elim (joins l p t) [
      | Some op ↦ Some (state mode.Operand (goes_on at l op fs) (settle p ts))
      | None ↦ after at t fs (settle p ts)
    ]
after at t (frame.Sign place s ∷ fs) ts = after at t fs (grow (node.Signed place s) ts)
after at t (frame.Group ∷ fs) ts =
    elim (is_close_paren t) [
      | true ↦ Some (state mode.AfterOperand fs ts)
      | false ↦ None
    ]
after at t (frame.Index place ∷ fs) ts =
    elim (is_close_bracket t) [
      | true ↦ Some (state mode.AfterPath fs (grow (node.Index place) ts))
      | false ↦ None
    ]
after at t (frame.Length ∷ fs) ts =
    elim (is_close_paren t) [
      | true ↦ Some (state mode.AfterOperand fs (grow node.Length ts))
      | false ↦ None
    ]
after at t (frame.Same ∷ fs) ts =
    elim (is_comma t) [
      | true ↦ Some (state mode.TextOfSame (frame.Same ∷ fs) ts)
      | false ↦ None
    ]

-- a token where an operand should begin
abbrev pub begins : ℕ → Token → List Frame → List Tree → Option State
begins at (token.Name word) fs ts = Some (state (mode.AfterName at word) fs ts)
begins at (token.Number n) fs ts = Some (state mode.AfterOperand fs (number n ∷ ts))
begins at (token.Operator Subtract) fs ts =
    Some (state mode.Operand (frame.Sign at sign.Negate ∷ fs) ts)
begins at (token.Operator _) fs ts = None
begins at token.Not fs ts = Some (state mode.Operand (frame.Sign at sign.Not ∷ fs) ts)
begins at token.OpenParen fs ts = Some (state mode.Operand (rungs (frame.Group ∷ fs)) ts)
begins at _ fs ts = None

-- a token behind a path
abbrev pub extends : ℕ → Token → List Frame → List Tree → Option State
extends at token.Dot fs ts = Some (state mode.FieldName fs ts)
extends at token.OpenBracket fs ts = Some (state mode.Operand (rungs (frame.Index at ∷ fs)) ts)
extends at t fs ts = after at t fs ts

-- the function of a name: `len` and `same` have one
abbrev pub function_of : List ℕ → Option Frame
function_of word =
    elim (bytes_eq word len_word) [
      | true ↦ Some frame.Length
      | false ↦ elim (bytes_eq word same_word) [ true ↦ Some frame.Same | false ↦ None ]
    ]

-- a token behind a name that begins an operand
abbrev pub follows_name : ℕ → List ℕ → ℕ → Token → List Frame → List Tree → Option State
follows_name place word at t fs ts =
    elim (is_open_paren t) [
      | true ↦ elim (function_of word) [
        | Some f ↦ Some (state mode.PathStart (f ∷ fs) ts)
        | None ↦ None
      ]
      | false ↦ extends at t fs (name place word ∷ ts)
    ]

abbrev pub begins_path : ℕ → Token → List Frame → List Tree → Option State
begins_path at (token.Name word) fs ts = Some (state mode.AfterPath fs (name at word ∷ ts))
begins_path at _ fs ts = None

abbrev pub names_field : ℕ → Token → List Frame → List Tree → Option State
names_field at (token.Name word) fs ts =
    Some (state mode.AfterPath fs (grow (node.Field at word) ts))
names_field at _ fs ts = None

abbrev pub gives_text : Token → List Frame → List Tree → Option State
gives_text (token.Text text) fs ts = Some (state (mode.EndOfSame text) fs ts)
gives_text _ fs ts = None

-- the `)` of `same`
abbrev pub ends_same : List ℕ → Token → List Frame → List Tree → Option State
ends_same text token.CloseParen (frame.Same ∷ fs) ts =
    Some (state mode.AfterOperand fs (grow (node.Same text) ts))
ends_same text _ fs ts = None

-- where a token leads; nowhere where it is unexpected
abbrev pub step_at : Mode → List Frame → List Tree → ℕ → Token → Option State
step_at mode.Operand fs ts at t = begins at t fs ts
step_at mode.PathStart fs ts at t = begins_path at t fs ts
step_at mode.FieldName fs ts at t = names_field at t fs ts
step_at (mode.AfterName place word) fs ts at t = follows_name place word at t fs ts
step_at mode.AfterPath fs ts at t = extends at t fs ts
step_at mode.AfterOperand fs ts at t = after at t fs ts
step_at mode.TextOfSame fs ts at t = gives_text t fs ts
step_at (mode.EndOfSame text) fs ts at t = ends_same text t fs ts

-- the tree of the whole where the text ends behind an operand
abbrev pub close_all : List Frame → List Tree → Option Tree
close_all [] (t ∷ []) = Some t
close_all [] _ = None
close_all (frame.Rung l p ∷ fs) ts = close_all fs (settle p ts)
close_all (frame.Sign place s ∷ fs) ts = close_all fs (grow (node.Signed place s) ts)
close_all (_ ∷ fs) ts = None

abbrev pub finish_at : Mode → List Frame → List Tree → Option Tree
finish_at (mode.AfterName place word) fs ts = close_all fs (name place word ∷ ts)
finish_at mode.AfterPath fs ts = close_all fs ts
finish_at mode.AfterOperand fs ts = close_all fs ts
finish_at _ fs ts = None

abbrev pub start : State
start = state mode.Operand (rungs []) []
