use Rattle.std.proofs.Common.{◌≡◌, map, take}
use Rattle.evp_stone.specs.declared.stone.Stone.{Stone}
use Rattle.evp_job.proofs.routing.copied_targets.Given as goal

abbrev pub invariant-loop-stone : goal.invariant-loop-stone
invariant-loop-stone l =
    l.targets.items ≡ map (λ (stone : Stone). stone.targets) (take l.stone-index l.stones)
