use Rattle.std.proofs.Common.{◌≡◌, map}
use Rattle.std.specs.List.{range_with_len}
use Rattle.evp_format.specs.Packing.{put_pieces}
use Rattle.evp_gen.specs.Packed.{element_piece}
use Rattle.evp_gen.proofs.lists.put_elements.Given as goal

abbrev pub invariant-loop-k : goal.invariant-loop-k
invariant-loop-k l = l.packed ≡ put_pieces (map (element_piece l.profile l.block l.index) (range_with_len 0 l.k)) l.fn.packed
