-- The laws of descriptions, as statements.
use Rattle.std.specs.Prelude.{◌≡◌, ◌≢◌, ◌<◌, ℕ, List, [], ◌++◌, All, MatchOption}
use Rattle.evp_format.specs.Describing.{describe}
use Rattle.evp_format.specs.Layout.{Layout}
use Rattle.evp_format.specs.Reading.{layout_fault}
use Rattle.evp_format.specs.WellLaid.{IsWellLaid}

-- no description begins another, and two formats have two
abbrev pub DescriptionsAreDistinct : Type 0
DescriptionsAreDistinct =
    (layout other : Layout) (more : List ℕ) → IsWellLaid layout → IsWellLaid other
    → describe other ≡ describe layout ++ more → (layout ≡ other) × (more ≡ [])

-- bytes without a fault are the description of a well laid format, and bytes with one are none's
abbrev pub FaultsAreExact : Type 0
FaultsAreExact =
    (bytes : List ℕ) → All (λ byte. byte < 256) bytes
    → MatchOption (layout_fault bytes) ((layout : Layout) × IsWellLaid layout
    × (bytes ≡ describe layout)) (λ fault. (layout : Layout) → IsWellLaid layout
    → bytes ≢ describe layout)
