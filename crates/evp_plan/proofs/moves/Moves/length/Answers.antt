use Rattle.std.proofs.Common.{sym, ap}
use Rattle.evp_plan.specs.Cells.{Moving}
use Rattle.evp_plan.proofs.AllGathers.{cells_long}
use Rattle.evp_plan.proofs.moves.Moves.length.Goals as goal

pub returns : goal.returns
returns c = sym (cells_long c.args.self.now.cells c.self.inside.gathers c.self.inside.length (sym (ap (λ (m : Moving). m.cells) c.self.view_is)))
