-- Gathers that are run two at once.
use Rattle.std.specs.Prelude.{◌≡◌, List, [], ◌∷◌, length}
use Rattle.evp_plan.specs.declared.cell.Cell.{Cell}
use Rattle.evp_plan.specs.declared.gather.Both.{Both}
use Rattle.evp_plan.specs.declared.gather.Gather.{Gather}
use Rattle.evp_plan.specs.declared.gather.Gathers.{Gathers}
use Rattle.evp_plan.specs.declared.gather.Pair.{Pair}
use Rattle.evp_plan.specs.Cells.{laid_over, gather_cells, gathers_over}

-- all of them, one after another
abbrev pub in_pairs : List Pair → List Gather
in_pairs [] = []
in_pairs (pair ∷ pairs) = pair.one ∷ pair.two ∷ in_pairs pairs

-- the cells of the second laid over those of the first
abbrev pub pair_cells : Pair → List Cell
pair_cells pair = laid_over (gather_cells pair.two) (gather_cells pair.one)

-- the cells, with those of all gathers of a record laid over: first the plain ones, then the pairs
abbrev pub all_over : Gathers → List Cell → List Cell
all_over gathers cells = gathers_over gathers.mixed.items
    (gathers_over (in_pairs gathers.pairs.items) (gathers_over gathers.plain.items cells))

-- these two are all pairs, and nothing stands behind them
pub record AreBoth (gathers : Gathers) (both : Both) : Type 0 where
  pub pairs : gathers.pairs.items ≡ both.one ∷ both.two ∷ []
  pub no_mixed : length gathers.mixed.items ≡ 0
