use Rattle.std.proofs.Common.{inl, refl}
use Rattle.evp_stones.specs.declared.refusal.Refusal.TheVariants.{Memory}
use Rattle.evp_stones.proofs.Answered.{line_told}
use Rattle.evp_stones.proofs.refusal.tell_memory.Goals as goal

pub returns : goal.returns
returns g c = record {
  refused = Memory;
  this = inl refl;
  told = rw c.status.ensures (line_told g.K.Sink.faults g.K.Sink.put _ _ Memory c.put_line.result c.put_line.ensures);
}
