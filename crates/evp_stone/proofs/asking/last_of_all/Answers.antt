use Rattle.std.proofs.Common.{sym, ◌∙◌}
use Rattle.evp_stone.proofs.Frozen.{last_at}
use Rattle.evp_stone.proofs.asking.last_of_all.Goals as goal

pub returns-in-Some : goal.returns-in-Some
returns-in-Some c =
    let item = c.in-Some.ensures.item in
    item.1 ∙ sym (last_at c.args.numbers.now c.in-Some.last.now item.3.0)
