use Rattle.evp_core.proofs.Entering.{pushed, same_rooms}
use Rattle.evp_core.proofs.entries.push.Goals as goal

pub returns-clause-pushed : goal.returns-clause-pushed
returns-clause-pushed c =
    pushed c.args.lists.now.items c.args.stone c.index_mut.result.now c.push_back_reserved.new.self c.index_mut.ensures.value
    c.requires.within c.args.entry c.push_back_reserved.ensures.items

pub returns-clause-room : goal.returns-clause-room
returns-clause-room c =
    same_rooms c.args.lists.now.items c.args.stone c.index_mut.result.now c.push_back_reserved.new.self c.index_mut.ensures.value
    c.requires.within c.push_back_reserved.ensures.capacity
