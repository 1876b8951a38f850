use Rattle.std.proofs.Common.{rules}
use Rattle.evp_core.proofs.Entering.{if_popped, if_empty, if_same, same_rooms}
use Rattle.evp_core.proofs.entries.pop.Goals as goal

pub returns-clause-some : goal.returns-clause-some
returns-clause-some c =
    if_popped c.args.lists.now.items c.args.stone c.index_mut.result.now c.pop_front.new.self c.index_mut.ensures.value c.requires
    c.pop_front.result c.pop_front.ensures.items

pub returns-clause-empty : goal.returns-clause-empty
returns-clause-empty c =
    if_empty c.args.lists.now.items c.args.stone c.index_mut.result.now c.pop_front.new.self c.index_mut.ensures.value c.requires
    c.pop_front.result c.pop_front.ensures.items (λ some. c.pop_front.ensures.variant.1 (search rules))

pub returns-clause-none : goal.returns-clause-none
returns-clause-none c =
    if_same c.args.lists.now.items c.args.stone c.index_mut.result.now c.pop_front.new.self c.index_mut.ensures.value c.requires
    c.pop_front.result c.pop_front.ensures.items

pub returns-clause-room : goal.returns-clause-room
returns-clause-room c =
    same_rooms c.args.lists.now.items c.args.stone c.index_mut.result.now c.pop_front.new.self c.index_mut.ensures.value c.requires
    c.pop_front.ensures.capacity
