use Rattle.std.proofs.Common.{◌≡◌, ◌++◌}
use Rattle.evp_gen.specs.Senders.{sent_layout}
use Rattle.evp_gen.proofs.Framed.{framed}
use Rattle.evp_gen.proofs.senders.put_records.Given as goal

abbrev pub invariant-loop-index : goal.invariant-loop-index
invariant-loop-index l = l.out.items ≡ l.fn.out.items ++ framed (sent_layout l.profile) l.sender l.index
