use Rattle.std.proofs.Common.{true, sym, subst}
use Rattle.evp_stone.specs.declared.entry.Entry.{Entry}
use Rattle.evp_stone.specs.Dealing.{IsDealt}
use Rattle.evp_stone.specs.Settling.{work_of}
use Rattle.evp_stone.proofs.dealing.deal_frozen.Goals as goal

pub returns-in-Mark : goal.returns-in-Mark
returns-in-Mark c = λ job stone.
    subst (λ (e : Entry). IsDealt job stone true (work_of c.args.work.now) (work_of c.deal_mark.new.work) c.deal_mark.new.waiting.items e
    c.deal_mark.result) (sym c.in-Mark.is) (c.deal_mark.ensures job stone)
