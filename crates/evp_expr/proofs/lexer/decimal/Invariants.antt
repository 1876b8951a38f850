use Rattle.std.proofs.Common.{◌≡◌, ◌^◌, ◌<◌, drop}
use Rattle.evp_expr.specs.Lexing.{decimal_from}
use Rattle.evp_expr.proofs.lexer.decimal.Given as goal

-- the digits left make the number of all behind the value so far
abbrev pub invariant-loop-digit : goal.invariant-loop-digit
invariant-loop-digit l =
    (l.value < 2 ^ 127) × (decimal_from l.value (drop l.digit-index l.digits) ≡ decimal_from 0 l.digits)
