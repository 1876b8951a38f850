use Rattle.std.proofs.Common.{arith}
use Rattle.evp_runner.proofs.running.told_whole.Goals as goal

pub returns-then-is_told : goal.returns-then-is_told
returns-then-is_told c =
    let fixed = c.fixed.ensures in
    let short = c.if-fixed-limit.false in
    rw (c.fixed-then-is_told.ensures) (c.is_told.ensures c.if-is_told.true c.args.limit (omega (arith, fixed, short)))
