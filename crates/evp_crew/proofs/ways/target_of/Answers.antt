use Rattle.std.proofs.Common.{ap, sym, ◌∙◌}
use Rattle.evp_stone.specs.Route.{last_of}
use Rattle.evp_stone.proofs.Frozen.{last_at}
use Rattle.evp_crew.proofs.ways.target_of.Goals as goal

pub returns-in-Some : goal.returns-in-Some
returns-in-Some c =
    let item = c.in-Some.ensures.item in
    item.1 ∙ sym (last_at c.as_slice.result.now c.in-Some.last.now item.3.0) ∙ ap last_of c.as_slice.ensures
