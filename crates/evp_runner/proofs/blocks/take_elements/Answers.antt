use Rattle.std.proofs.Common.{arith}
use Rattle.evp_runner.proofs.Measured.{too_many}
use Rattle.evp_runner.proofs.blocks.take_elements.Goals as goal

pub returns-then-n-from-clause-value : goal.returns-then-n-from-clause-value
returns-then-n-from-clause-value c = too_many c.args.measure.now.limit c.args.n c.args.element_size c.args.size (omega arith)
    c.requires.some
