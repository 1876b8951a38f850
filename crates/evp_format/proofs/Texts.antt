-- Bytes without a zero.
use Rattle.std.proofs.Common.{◌≡◌, ℕ, zero, suc, false, nat_eq, List, [], ◌∷◌, refl, arith, rules, true≢false}
use Rattle.std.specs.List.{list_any}
use Rattle.evp_format.specs.Text.{HasNoZero}

not_zero : (n : ℕ) → nat_eq (suc n) 0 ≡ false
not_zero n = search rules

pub no_zero-where_none : (bytes : List ℕ) → list_any (λ byte. nat_eq byte 0) bytes ≡ false → HasNoZero bytes
no_zero-where_none [] none = tt
no_zero-where_none (zero ∷ bytes) none = absurd (true≢false none)
no_zero-where_none (suc n ∷ bytes) none = (λ (e : suc n ≡ 0). omega arith, no_zero-where_none bytes (rw not_zero at none))

pub none-where_no_zero : (bytes : List ℕ) → HasNoZero bytes → list_any (λ byte. nat_eq byte 0) bytes ≡ false
none-where_no_zero [] none = refl
none-where_no_zero (zero ∷ bytes) none = absurd (none.0 refl)
none-where_no_zero (suc n ∷ bytes) none = rw not_zero (none-where_no_zero bytes none.1)
