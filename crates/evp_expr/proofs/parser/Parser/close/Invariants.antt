use Rattle.std.proofs.Common.{◌≡◌, length}
use Rattle.evp_expr.specs.Standing.{HasOperand}
use Rattle.evp_expr.specs.Steps.{after}
use Rattle.evp_expr.proofs.parser.Parser.close.Given as goal

-- what is left to close leads to the same state, and an operand stands ready
abbrev pub invariant-loop-frame : goal.invariant-loop-frame
invariant-loop-frame l =
    (after l.at l.token l.self.frames l.self.trees ≡ after l.at l.token l.initial.self.frames l.initial.self.trees)
    × HasOperand l.self.frames l.self.trees

abbrev pub decreases-loop-frame : goal.decreases-loop-frame
decreases-loop-frame l = length l.self.frames
