use Rattle.evp_core.proofs.Entering.{count_at}
use Rattle.evp_core.proofs.entries.count.Goals as goal

pub returns : goal.returns
returns c =
    count_at c.args.lists.now c.args.stone c.index-lists-stone.result c.len.result c.index-lists-stone.is c.requires c.len.ensures
