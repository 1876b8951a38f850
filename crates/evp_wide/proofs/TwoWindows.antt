-- What shuffles of two windows pick, put together.
use Rattle.std.proofs.Common.{◌≡◌, ℕ, ◌+◌, ◌≤◌, List, ◌++◌, length, take, drop, ap, ◌∙◌, w8}
use Rattle.std.specs.Prelude.{replicate, bit_or}
use Rattle.std.proofs.lemmas.List.{length-map}
use Rattle.std.proofs.lemmas.Simd.{swz_l, length-swz_l}
use lib.Lanes.{put_chunk, zip2, sel_l}
use Rattle.evp_wide.specs.Gathered.{picked, gathered, sign_byte, signs_gathered, with_constant, ArePlaces}
use Rattle.evp_wide.proofs.Gathers.{shuffled, stored_with}
use Rattle.evp_wide.proofs.Signs.{compared, signs_are}

pub stored_two : (to : ℕ) (out bytes mask others other : List ℕ) → to + 16 ≤ length out → length mask ≡ 16 → ArePlaces mask
    → length other ≡ 16 → ArePlaces other
    → put_chunk to out (zip2 bit_or (swz_l w8 16 (take 16 bytes) 0 mask) (swz_l w8 16 (take 16 others) 0 other))
    ≡ take to out ++ (with_constant (gathered mask bytes) (gathered other others) ++ drop (to + 16) out)
stored_two to out bytes mask others other room long places long' places' =
    stored_with to out bytes mask (swz_l w8 16 (take 16 others) 0 other) room long
    (length-swz_l w8 16 (take 16 others) 0 other ∙ long') places
    ∙ ap (λ l. take to out ++ (with_constant (gathered mask bytes) l ++ drop (to + 16) out)) (shuffled others other long' places')

-- the same with the signs of the second
pub stored_with_signs : (to : ℕ) (out bytes mask others other : List ℕ) → to + 16 ≤ length out → length mask ≡ 16 → ArePlaces mask
    → length other ≡ 16 → ArePlaces other
    → put_chunk to out (zip2 bit_or (swz_l w8 16 (take 16 bytes) 0 mask)
    (sel_l (compared (swz_l w8 16 (take 16 others) 0 other)) (replicate 16 0) (replicate 16 255)))
    ≡ take to out ++ (with_constant (gathered mask bytes) (signs_gathered other others) ++ drop (to + 16) out)
stored_with_signs to out bytes mask others other room long places long' places' =
    let picks = gathered other others in
    let sixteen : length (signs_gathered other others) ≡ 16 =
    length-map picks sign_byte ∙ length-map other (picked others) ∙ long' in
    ap (λ l. put_chunk to out (zip2 bit_or (swz_l w8 16 (take 16 bytes) 0 mask) l)) (signs_are others other long' places')
    ∙ stored_with to out bytes mask (signs_gathered other others) room long sixteen places
