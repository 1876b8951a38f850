use Rattle.std.proofs.Common.{length, arith}
use Rattle.std.proofs.lemmas.List.Elements.{All-from_get_or}
use Rattle.evp_graph.specs.Shape.{AreStones}
use Rattle.evp_graph.proofs.places.first_lost.Goals as goal

pub returns : goal.returns
returns c = All-from_get_or (AreStones (length c.args.targets.now)) c.args.targets.now _ (λ i h. c.loop-stone.invariant i (omega arith))
