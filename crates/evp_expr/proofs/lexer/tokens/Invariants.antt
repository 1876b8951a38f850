use Rattle.std.proofs.Common.{◌≡◌, ◌-◌, ◌≤◌, length, drop}
use Rattle.evp_expr.specs.Lexing.{scan, tokens_of}
use Rattle.evp_expr.proofs.Scans.{after_tokens}
use Rattle.evp_expr.proofs.lexer.tokens.Given as goal

-- the tokens found, with those of what is left, are those of the text
abbrev pub invariant-loop-at : goal.invariant-loop-at
invariant-loop-at l =
    (l.at ≤ length l.text) × (after_tokens l.found.items (scan 0 l.at (drop l.at l.text)) ≡ tokens_of l.text)

abbrev pub decreases-loop-at : goal.decreases-loop-at
decreases-loop-at l = length l.text - l.at
