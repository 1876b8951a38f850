use Rattle.std.proofs.Common.{◌≡◌, ◌<◌, ℕ}
use Rattle.evp_graph.specs.Search.{mark_of, IsSettled}
use Rattle.evp_graph.specs.declared.search.Mark.TheVariants.{Done}
use Rattle.evp_graph.proofs.search.find_cycle.Given as goal

abbrev pub invariant-loop-stone : goal.invariant-loop-stone
invariant-loop-stone l = IsSettled l.targets l.marks.items × ((s : ℕ) → s < l.stone → mark_of l.marks.items s ≡ Done)
