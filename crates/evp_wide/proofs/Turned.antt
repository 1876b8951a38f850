-- The places of a swap pick the reversed bytes.
use Rattle.std.proofs.Common.{◌≡◌, ℕ, ◌*◌, ◌≤◌, List, [], ◌∷◌, length, reverse, refl, arith}
use Rattle.std.specs.List.{flat_map}
use Rattle.evp_wide.specs.Gathered.{gathered}
use Rattle.evp_wide.specs.Groups.{groups}
use Rattle.evp_wide.proofs.Blocks.{same_groups}

turned2 : (bytes : List ℕ) → length bytes ≡ 2 → gathered (1 ∷ 0 ∷ []) bytes ≡ reverse bytes
turned2 (a ∷ b ∷ []) long = refl
turned2 bytes long = absurd (omega arith)

turned4 : (bytes : List ℕ) → length bytes ≡ 4 → gathered (3 ∷ 2 ∷ 1 ∷ 0 ∷ []) bytes ≡ reverse bytes
turned4 (a ∷ b ∷ c ∷ d ∷ []) long = refl
turned4 bytes long = absurd (omega arith)

turned8 : (bytes : List ℕ) → length bytes ≡ 8 → gathered (7 ∷ 6 ∷ 5 ∷ 4 ∷ 3 ∷ 2 ∷ 1 ∷ 0 ∷ []) bytes ≡ reverse bytes
turned8 (a ∷ b ∷ c ∷ d ∷ e ∷ f ∷ g ∷ h ∷ []) long = refl
turned8 bytes long = absurd (omega arith)

pub all_turned : (places : List ℕ) (size count : ℕ) (bytes : List ℕ) → ((e : List ℕ) → length e ≡ size → gathered places e ≡ reverse e)
    → count * size ≤ length bytes
    → flat_map (gathered places) (groups size count bytes) ≡ flat_map reverse (groups size count bytes)
all_turned places size count bytes turned room =
    same_groups (λ _. Unit {0}) (gathered places) reverse size count bytes (λ _ _ _. tt) (λ _ _ _. tt) (λ e long _. turned e long) room
    tt

pub all_turned2 : (count : ℕ) (bytes : List ℕ) → count * 2 ≤ length bytes → flat_map (gathered (1 ∷ 0 ∷ [])) (groups 2 count bytes)
    ≡ flat_map reverse (groups 2 count bytes)
all_turned2 count bytes = all_turned (1 ∷ 0 ∷ []) 2 count bytes turned2

pub all_turned4 : (count : ℕ) (bytes : List ℕ) → count * 4 ≤ length bytes
    → flat_map (gathered (3 ∷ 2 ∷ 1 ∷ 0 ∷ [])) (groups 4 count bytes) ≡ flat_map reverse (groups 4 count bytes)
all_turned4 count bytes = all_turned (3 ∷ 2 ∷ 1 ∷ 0 ∷ []) 4 count bytes turned4

pub all_turned8 : (count : ℕ) (bytes : List ℕ) → count * 8 ≤ length bytes
    → flat_map (gathered (7 ∷ 6 ∷ 5 ∷ 4 ∷ 3 ∷ 2 ∷ 1 ∷ 0 ∷ [])) (groups 8 count bytes) ≡ flat_map reverse (groups 8 count bytes)
all_turned8 count bytes = all_turned (7 ∷ 6 ∷ 5 ∷ 4 ∷ 3 ∷ 2 ∷ 1 ∷ 0 ∷ []) 8 count bytes turned8
