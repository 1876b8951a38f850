use Rattle.std.proofs.Common.{◌≡◌, drop}
use Rattle.evp_queue.specs.Counts.{is_among}
use Rattle.evp_stone.proofs.asking.is_among.Given as goal

abbrev pub invariant-loop-other : goal.invariant-loop-other
invariant-loop-other l = is_among l.fn.number (drop l.other-index l.numbers) ≡ is_among l.fn.number l.numbers
