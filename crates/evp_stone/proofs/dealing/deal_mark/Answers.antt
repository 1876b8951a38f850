use Rattle.evp_stone.specs.Settling.{work_of}
use Rattle.evp_stone.proofs.Dealt.{mark_dealt}
use Rattle.evp_stone.proofs.dealing.deal_mark.Goals as goal

pub returns-in-Ok : goal.returns-in-Ok
returns-in-Ok c = λ job stone.
    mark_dealt job stone (work_of c.args.work.now) (work_of c.end_round.new.self) c.args.route c.args.position c.args.round
    c.end_round.new.waiting.items c.in-Ok.ensures.ended
