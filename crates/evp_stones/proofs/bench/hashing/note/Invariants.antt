use Rattle.std.proofs.Common.{◌≡◌, ◌++◌, map, take}
use Rattle.evp_stones.proofs.bench.hashing.note.Given as goal

-- the bytes before this one were added
abbrev pub invariant-loop-byte : goal.invariant-loop-byte
invariant-loop-byte l = map (λ pair. pair.0) l.taken.items ≡ map (λ pair. pair.0) l.fn.taken.items ++ take l.byte-index l.bytes
