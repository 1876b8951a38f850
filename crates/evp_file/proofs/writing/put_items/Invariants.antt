use Rattle.std.proofs.Common.{◌≡◌, ◌++◌, drop}
use Rattle.std.specs.List.{flat_map}
use Rattle.evp_file.specs.Frames.{item_bytes}
use Rattle.evp_file.proofs.writing.put_items.Given as goal

abbrev pub invariant-loop-item : goal.invariant-loop-item
invariant-loop-item l = l.out.items ++ flat_map item_bytes (drop l.item-index l.items) ≡ l.fn.out.items ++ flat_map item_bytes l.items
