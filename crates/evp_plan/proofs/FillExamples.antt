-- Fills and windows by example: numbers of workloads, at the edges of what fits, worked out by hand.
use Rattle.std.proofs.Common.{◌≡◌, ℕ, ◌+◌, ◌<◌, ◌≤◌, IsTrue, Bool, true, false, List, [], ◌∷◌, drop, get_or, Some, None, refl, ap, arith}
use Rattle.std.specs.Prelude.{nat_le}
use Rattle.std.proofs.lemmas.Bool.{leb-true, ltb-true}
use Rattle.evp_base.specs.declared.order.Order.TheVariants.{Little, Big}
use Rattle.evp_base.specs.Numbers.{magnitude, is_width}
use Rattle.evp_format.specs.Bytes.{bytes_at}
use Rattle.evp_wide.specs.declared.lanes.Mask.{Mask}
use Rattle.evp_wide.specs.Gathered.{gathered, signs_gathered}
use Rattle.evp_wide.specs.Masks.{are_within}
use Rattle.evp_plan.specs.declared.fill.Filling.TheVariants.{Zeros, Positive, Signed}
use Rattle.evp_plan.specs.declared.fill.Window.{Window}
use Rattle.evp_plan.specs.declared.words.Words.{Words}
use Rattle.evp_plan.specs.Among.{is_among}
use Rattle.evp_plan.specs.Cuts.{place_of, AreWide, IsCutOf}
use Rattle.evp_plan.specs.Fills.{byte_there, IsFilled}
use Rattle.evp_plan.specs.Lanes.{HasFills, IsPlaceIn}

-- ---- places

-- of two bytes from 6 on the higher one is the second, or in the other order the first
high_of_little : place_of Little 6 2 1 ≡ 7
high_of_little = refl

high_of_big : place_of Big 6 2 1 ≡ 6
high_of_big = refl

low_of_big : place_of Big 6 2 0 ≡ 7
low_of_big = refl

-- ---- bytes

byte_at_offset : byte_there 1 (10 ∷ 11 ∷ 12 ∷ 13 ∷ []) (Some 2) ≡ 13
byte_at_offset = refl

no_byte : byte_there 1 (10 ∷ 11 ∷ 12 ∷ 13 ∷ []) None ≡ 0
no_byte = refl

-- ---- windows of one lane

abbrev fifteen_none : List ℕ
fifteen_none = 128 ∷ 128 ∷ 128 ∷ 128 ∷ 128 ∷ 128 ∷ 128 ∷ 128 ∷ 128 ∷ 128 ∷ 128 ∷ 128 ∷ 128 ∷ 128 ∷ 128 ∷ []

abbrev mask_at : (place : ℕ) → are_within 16 (place ∷ fifteen_none) ≡ true → Mask
mask_at place within = record { places = place ∷ fifteen_none; sixteen = refl; in_window = within }

-- `c`, a signed number of 2 bytes at 6 for one of 1 byte: byte 7 is the sign of byte 6
abbrev window_of_c : Window
window_of_c = record { at = 6; picks = mask_at 1 refl; signs = mask_at 0 refl }

-- `f`, an unsigned number of 4 bytes at 20 for one of 2 bytes: byte 23 is 0
abbrev window_of_f : Window
window_of_f = record { at = 20; picks = mask_at 3 refl; signs = mask_at 128 refl }

-- six bytes in front, and the number's
abbrev record_c : ℕ → ℕ → List ℕ
record_c low high = 1 ∷ 2 ∷ 3 ∷ 4 ∷ 5 ∷ 6 ∷ low ∷ high ∷ []

-- twenty bytes in front
abbrev record_f : ℕ → ℕ → List ℕ
record_f third fourth =
    1 ∷ 2 ∷ 3 ∷ 4 ∷ 5 ∷ 6 ∷ 7 ∷ 8 ∷ 9 ∷ 10 ∷ 11 ∷ 12 ∷ 13 ∷ 14 ∷ 15 ∷ 16 ∷ 17 ∷ 18 ∷ 19 ∷ 20
    ∷ 255 ∷ 255 ∷ third ∷ fourth ∷ []

-- what the window's first lane compares: the byte that it picks and the sign
abbrev lane_of : Window → List ℕ → ℕ × ℕ
lane_of window bytes = (
  get_or (gathered window.picks.places (drop (0 + window.at) bytes)) 0 0,
  get_or (signs_gathered window.signs.places (drop (0 + window.at) bytes)) 0 0,
)

-- 127, 128, -128 and -129
lanes_of_c : lane_of window_of_c (record_c 127 0) ∷ lane_of window_of_c (record_c 128 0) ∷ lane_of window_of_c (record_c 128 255)
    ∷ lane_of window_of_c (record_c 127 255) ∷ [] ≡ (0, 0) ∷ (0, 255) ∷ (255, 255) ∷ (255, 0) ∷ []
lanes_of_c = refl

-- the same by their words
abbrev is_c : List ℕ → Bool
is_c bytes = is_among 127 65407 (magnitude Little (bytes_at 6 2 bytes))

words_of_c : is_c (record_c 127 0) ∷ is_c (record_c 128 0) ∷ is_c (record_c 128 255) ∷ is_c (record_c 127 255) ∷ []
    ≡ true ∷ false ∷ true ∷ false ∷ []
words_of_c = refl

greatest_of_c : HasFills 0 (record_c 127 0) window_of_c
greatest_of_c = refl

least_of_c : HasFills 0 (record_c 128 255) window_of_c
least_of_c = refl

one_more_of_c : HasFills 0 (record_c 128 0) window_of_c → ⊥
one_more_of_c same = let lane : 0 ≡ 255 = ap (λ (l : List ℕ). get_or l 0 0) same in absurd (omega (arith, lane))

one_less_of_c : HasFills 0 (record_c 127 255) window_of_c → ⊥
one_less_of_c same = let lane : 255 ≡ 0 = ap (λ (l : List ℕ). get_or l 0 0) same in absurd (omega (arith, lane))

-- the greatest that fits, and one with the fourth byte
lanes_of_f : lane_of window_of_f (record_f 0 0) ∷ lane_of window_of_f (record_f 0 1) ∷ [] ≡ (0, 0) ∷ (1, 0) ∷ []
lanes_of_f = refl

greatest_of_f : HasFills 0 (record_f 0 0) window_of_f
greatest_of_f = refl

larger_of_f : HasFills 0 (record_f 0 1) window_of_f → ⊥
larger_of_f same = let lane : 1 ≡ 0 = ap (λ (l : List ℕ). get_or l 0 0) same in absurd (omega (arith, lane))

-- the same as fills
fill_of_c : IsFilled 0 (record_c 128 255) (record { pick = Some 7; sign = Some 6 })
fill_of_c = refl

not_of_c : IsFilled 0 (record_c 128 0) (record { pick = Some 7; sign = Some 6 }) → ⊥
not_of_c same = let lane : 0 ≡ 255 = same in absurd (omega (arith, lane))

-- ---- cuts

abbrev words_at : (offset width top under : ℕ) → IsTrue (is_width width) → nat_le top under ≡ true → Words
words_at offset width top under allowed apart = record {
  offset = offset;
  size = width;
  top = top;
  under = under;
  allowed = allowed;
  apart = leb-true top under apart;
}

cut_of_c : IsCutOf (words_at 6 2 127 65407 refl refl) (record { size = 1; filling = Signed })
cut_of_c = record {
  allowed = refl;
  less = leb-true 1 2 refl;
  wide = (leb-true 128 128 refl, ltb-true 65535 65536 refl);
}

cut_of_f : IsCutOf (words_at 20 4 65535 4294967295 refl refl) (record { size = 2; filling = Zeros })
cut_of_f = record { allowed = refl; less = leb-true 2 4 refl; wide = leb-true 65536 65536 refl }

-- a signed number of 1 byte for an unsigned one
cut_of_i : IsCutOf (words_at 40 1 127 255 refl refl) (record { size = 1; filling = Positive })
cut_of_i = record { allowed = refl; less = leb-true 1 1 refl; wide = leb-true 128 128 refl }

-- where one of the words is missing there is no such cut
signed_one_less : AreWide Signed 1 2 126 65407 → ⊥
signed_one_less wide = let least : 128 ≤ 127 = wide.0 in absurd (omega (arith, least))

signed_one_above : AreWide Signed 1 2 127 65408 → ⊥
signed_one_above wide = let far : 65536 < 65536 = wide.1 in absurd (omega (arith, far))

zeros_one_less : AreWide Zeros 2 4 65534 4294967295 → ⊥
zeros_one_less wide = let least : 65536 ≤ 65535 = wide in absurd (omega (arith, least))

positive_one_less : AreWide Positive 1 1 126 255 → ⊥
positive_one_less wide = let least : 128 ≤ 127 = wide in absurd (omega (arith, least))

-- ---- places in a window

none_is_128 : IsPlaceIn 6 None 128
none_is_128 = λ at bytes. refl

none_is_no_place : IsPlaceIn 6 None 0 → ⊥
none_is_no_place is = let first : 1 ≡ 0 = is 0 (1 ∷ 1 ∷ 1 ∷ 1 ∷ 1 ∷ 1 ∷ 1 ∷ []) in absurd (omega (arith, first))
