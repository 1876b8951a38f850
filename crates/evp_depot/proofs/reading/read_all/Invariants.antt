use Rattle.std.proofs.Common.{◌≡◌, ◌+◌, ◌-◌, ◌<◌, ◌≤◌, IfSome, IsSome, OnSome, vec_len}
use Rattle.std.specs.FinMap.{get}
use Rattle.evp_depot.specs.Files.{OnHeld}
use Rattle.evp_depot.specs.Fronts.{IsFront}
use Rattle.evp_depot.proofs.reading.read_all.Given as goal

-- what was read is the front of what is held, and no read failed
abbrev pub invariant-loop-filled : goal.invariant-loop-filled
invariant-loop-filled g l =
    let Depot = g.D.Depot in
    record {
      limit : l.limit ≡ l.max + 1;
      within : l.filled ≤ vec_len l.bytes;
      room : vec_len l.bytes ≤ l.limit;
      misses : Depot.misses l.fn.depot ≤ Depot.misses l.depot;
      faults : Depot.faults l.depot ≡ Depot.faults l.fn.depot;
      held : OnSome (Depot.held l.fn.depot) (Depot.held l.depot ≡ Depot.held l.fn.depot);
      there : IfSome (Depot.held l.fn.depot) (λ files. 0 < l.filled → IsSome (get files l.name));
      front : OnHeld (Depot.held l.fn.depot) l.name (IsFront l.filled l.bytes.items);
    }

abbrev pub decreases-loop-filled : goal.decreases-loop-filled
decreases-loop-filled g l = l.limit - l.filled
