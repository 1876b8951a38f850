use Rattle.std.proofs.Common.{ℕ, ◌+◌, ◌*◌, ◌^◌, ◌≤◌, drop}
use Rattle.evp_runner.specs.Sizing.{image_by_eight, AllEndAt}
use Rattle.evp_runner.proofs.sizing.size_by.Given as goal

abbrev pub invariant-loop-block : goal.invariant-loop-block
invariant-loop-block l =
    (l.size ≤ l.initial.size + l.block-index * 2 ^ 35)
    × ((end : ℕ) → AllEndAt (image_by_eight l.order l.bytes) (drop l.block-index l.blocks) l.size end
    → AllEndAt (image_by_eight l.order l.bytes) l.blocks l.initial.size end)
