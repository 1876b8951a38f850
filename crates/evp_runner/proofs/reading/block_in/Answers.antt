use Rattle.std.proofs.Common.{arith}
use Rattle.evp_runner.proofs.Texts.{block_before}
use Rattle.evp_runner.proofs.reading.block_in.Goals as goal

pub returns-in-Some : goal.returns-in-Some
returns-in-Some c =
    record {
      value = block_before c.args.bytes.now c.in-Some.length c.in-Some.ensures.value;
      within = omega (arith, c.in-Some.ensures.within);
    }
