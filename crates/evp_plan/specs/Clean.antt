-- Gathers that do one thing at each byte.
use Rattle.std.specs.Prelude.{◌≡◌, ℕ, replicate, Bool, true, false, ◌&&◌, ◌||◌, nat_lt, nat_le, nat_eq, List, []}
use Rattle.std.specs.Prelude.{◌∷◌, if◌then◌else◌}
use Rattle.evp_wide.specs.declared.lanes.Blend.{Blend}

-- each byte is picked, kept or a constant, and no two of these
abbrev pub is_clean_byte : ℕ → ℕ → ℕ → Bool
is_clean_byte place keep constant =
    (nat_lt place 16 && (nat_eq keep 0 && nat_eq constant 0))
    || (nat_le 128 place && (nat_eq keep 0 || (nat_eq keep 255 && nat_eq constant 0)))

abbrev pub is_clean : List ℕ → List ℕ → List ℕ → Bool
is_clean [] keeps constants = true
is_clean (place ∷ places) [] constants = false
is_clean (place ∷ places) (keep ∷ keeps) [] = false
is_clean (place ∷ places) (keep ∷ keeps) (constant ∷ constants) = is_clean_byte place keep constant
    && is_clean places keeps constants

-- what is picked is bytes, and nothing is kept or set
pub record IsPlain (signed : Bool) (blend : Blend) : Type 0 where
  pub bytes : signed ≡ false
  pub none_kept : blend.keep ≡ replicate 16 0
  pub none_set : blend.constant ≡ replicate 16 0

-- where the second of two gathers picks a byte the first picks none, and else the second keeps it
abbrev pub is_paired_byte : ℕ → ℕ → ℕ → Bool
is_paired_byte first second keep = if nat_lt second 16 then nat_le 128 first else nat_eq keep 255

abbrev pub are_paired : List ℕ → List ℕ → List ℕ → Bool
are_paired [] seconds keeps = true
are_paired (first ∷ firsts) [] keeps = false
are_paired (first ∷ firsts) (second ∷ seconds) [] = false
are_paired (first ∷ firsts) (second ∷ seconds) (keep ∷ keeps) = is_paired_byte first second keep && are_paired
    firsts seconds keeps
