use Rattle.std.proofs.Common.{arith, take-add}
use Rattle.std.proofs.KnownBytes.{Appends-trans}
use Rattle.std.proofs.lemmas.List.{take_rest}
use Rattle.evp_depot.proofs.writing.write_all.Goals as goal

-- one more write goes on where the writes before it stopped
pub loop-written-preserved : goal.loop-written-preserved
loop-written-preserved g c =
    let bytes = c.args.bytes.now in
    let written = c.loop-written.written in
    let more = rw (take_rest bytes written) at c.in_ok-written.ensures.appended in
    record {
      within = omega (arith, c.in_ok-written.ensures.in_piece);
      faults = omega (arith, c.in_ok-written.ensures.faults);
      put = rw (take-add written c.in_ok-written.field-0 bytes) (Appends-trans _ _ _ _ _ c.loop-written.invariant.put more);
    }
