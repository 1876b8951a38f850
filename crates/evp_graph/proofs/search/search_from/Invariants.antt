use Rattle.std.proofs.Common.{◌≢◌, ◌∷◌, reverse}
use Rattle.evp_graph.specs.Search.{mark_of, StayDone}
use Rattle.evp_graph.specs.declared.search.Mark.TheVariants.{New}
use Rattle.evp_graph.proofs.Visits.{Searching, work}
use Rattle.evp_graph.proofs.search.search_from.Given as goal

abbrev pub invariant-loop-here : goal.invariant-loop-here
invariant-loop-here l = record {
  searching : Searching l.targets l.marks.items (l.here ∷ reverse l.path.items);
  begun : mark_of l.marks.items l.start ≢ New;
  kept : StayDone l.fn.marks.items l.marks.items;
}

abbrev pub decreases-loop-here : goal.decreases-loop-here
decreases-loop-here l = work l.targets l.marks.items (l.here ∷ reverse l.path.items)
