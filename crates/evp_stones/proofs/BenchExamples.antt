-- The lines `bench N W`, and what they write, computed.
use Rattle.std.proofs.Common.{◌≡◌, [], ◌∷◌, codes, Some, None, refl}
use Rattle.std.specs.Fmt.{digits}
use Rattle.evp_stones.specs.Bench.{totals_line}
use Rattle.evp_stones.specs.Words.{line_of, bench}

least : line_of (codes "bench" ∷ codes "1" ∷ codes "1" ∷ []) ≡ Some (bench 1 1)
unfolding digits
least = refl

greatest : line_of (codes "bench" ∷ codes "20000" ∷ codes "64" ∷ []) ≡ Some (bench 20000 64)
unfolding digits
greatest = refl

no_records : line_of (codes "bench" ∷ codes "0" ∷ codes "1" ∷ []) ≡ None
unfolding digits
no_records = refl

too_many_records : line_of (codes "bench" ∷ codes "20001" ∷ codes "1" ∷ []) ≡ None
unfolding digits
too_many_records = refl

no_workers : line_of (codes "bench" ∷ codes "1" ∷ codes "0" ∷ []) ≡ None
unfolding digits
no_workers = refl

too_many_workers : line_of (codes "bench" ∷ codes "1" ∷ codes "65" ∷ []) ≡ None
unfolding digits
too_many_workers = refl

leading_zero : line_of (codes "bench" ∷ codes "01" ∷ codes "1" ∷ []) ≡ None
unfolding digits
leading_zero = refl

of_one : totals_line 1 56 (record { passed = 29; dropped = 1; refused = 6; held = 1 })
    ≡ codes "bench 1 routes 56 passed 29 dropped 1 refused 6 held 1\n"
unfolding digits
of_one = refl
