-- The definitions computed on small values, by hand.
use Rattle.std.proofs.Common.{◌≡◌, [], ◌∷◌, Ok, refl}
use Rattle.evp_depot.specs.Counts.{next_count, next_call}
use Rattle.evp_depot.specs.SinkInMemory.{SinkInMemory, taken_of, after_write}

counts_rise : next_count 41 ≡ 42
counts_rise = refl

counts_stay : next_count 18446744073709551615 ≡ 18446744073709551615
counts_stay = refl

calls_stay : next_call 4294967295 ≡ 4294967295
calls_stay = refl

-- room for 3, 2 bytes in it, and writes of at most 64
nearly_full : SinkInMemory
nearly_full = record { put = 7 ∷ 8 ∷ []; room = 3; take = 64; failing = []; calls = 1; faults = 0 }

one_byte_fits : taken_of nearly_full (1 ∷ 2 ∷ []) ≡ 1
unfolding nearly_full
one_byte_fits = refl

full_after : (after_write nearly_full (1 ∷ 2 ∷ []) (Ok 1)).put ≡ 7 ∷ 8 ∷ 1 ∷ []
unfolding nearly_full
full_after = refl
