-- What looking for tokens answers.
use Rattle.std.specs.Prelude.{◌≡◌, ℕ, true, List, [], ◌∷◌, Result, Ok, Err}
use Rattle.evp_base.specs.Name.{begins_name}
use Rattle.std.specs.declared.collections.VecDeque.{VecDeque}
use Rattle.evp_expr.specs.declared.fault.ExprFault.{ExprFault}
use Rattle.evp_expr.specs.declared.fault.ExprFault.TheVariants as fault
use Rattle.evp_expr.specs.declared.token.Placed.{Placed}
use Rattle.evp_expr.specs.declared.token.Token.{Token}
use Rattle.evp_expr.specs.Lexing.{Lexeme, Whole, Missing, TooLarge, Scan, Tokens, Faulty}

-- the answer for what stands at a place
abbrev pub LexAnswers : ℕ → Lexeme → Result (Token × ℕ) ExprFault → Type 0
LexAnswers at found (Ok t) = found ≡ Whole t.0 t.1
LexAnswers at found (Err (fault.Token a)) = (found ≡ Missing) × (a ≡ at)
LexAnswers at found (Err (fault.Literal a)) = (found ≡ TooLarge) × (a ≡ at)
LexAnswers at found (Err fault.Memory) = Unit {0}
LexAnswers at found (Err _) = ⊥

-- the answer for a whole text
abbrev pub ScanAnswers : {A : Type 0} → Scan → Result (VecDeque Placed A) ExprFault → Type 0
ScanAnswers scanned (Ok q) = scanned ≡ Tokens q.items
ScanAnswers scanned (Err (fault.Token a)) = scanned ≡ Faulty (fault.Token a)
ScanAnswers scanned (Err (fault.Literal a)) = scanned ≡ Faulty (fault.Literal a)
ScanAnswers scanned (Err fault.Memory) = Unit {0}
ScanAnswers scanned (Err _) = ⊥

-- the first byte may begin a name
abbrev pub BeginsName : List ℕ → Type 0
BeginsName [] = ⊥
BeginsName (first ∷ others) = begins_name first ≡ true
