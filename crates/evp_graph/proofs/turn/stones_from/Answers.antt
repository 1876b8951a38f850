use Rattle.std.proofs.Common.{◌++◌, ap, sym}
use Rattle.evp_graph.specs.Search.{stones_back}
use Rattle.evp_graph.proofs.Visits.{IsOn-from_contains}
use Rattle.evp_graph.proofs.turn.stones_from.Goals as goal

pub loop-stone-init : goal.loop-stone-init
loop-stone-init c =
    let back = stones_back c.args.path.items c.args.here in
    (sym (ap (λ l. l ++ back) c.new-stones.ensures.items), IsOn-from_contains c.args.first back c.requires)
