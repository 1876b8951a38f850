use Rattle.std.proofs.Common.{◌≡◌, length}
use Rattle.evp_expr.specs.Steps.{close_all}
use Rattle.evp_expr.specs.Standing.{HasOperand}
use Rattle.evp_expr.proofs.parser.Parser.close_all.Given as goal

-- what is left to close has the same tree, and an operand stands ready
abbrev pub invariant-loop-frame : goal.invariant-loop-frame
invariant-loop-frame l =
    (close_all l.self.frames l.self.trees ≡ close_all l.initial.self.frames l.initial.self.trees) × HasOperand l.self.frames l.self.trees

abbrev pub decreases-loop-frame : goal.decreases-loop-frame
decreases-loop-frame l = length l.self.frames
