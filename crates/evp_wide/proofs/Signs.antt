-- The signs of what a shuffle of sixteen lanes picks.
use Rattle.std.proofs.Common.{◌≡◌, ℕ, ◌+◌, ◌<◌, ◌≤◌, Bool, false, cond, ltb, List, ◌++◌, length, take, drop, map, get_or}
use Rattle.std.proofs.Common.{refl, sym, ap, ◌∙◌, w8, arith}
use Rattle.std.specs.Prelude.{replicate, bit_or, bit_and}
use Rattle.std.proofs.lemmas.Grind.{same_number_lists}
use Rattle.std.proofs.lemmas.List.{get_or-map, length-map, length-take, length-drop, length-replicate}
use Rattle.std.proofs.lemmas.Simd.{swz_l, length-zip2, get_or-zip2, get_or-replicate, length-sel_l, get_or-sel_l, tops_compared}
use lib.Lanes.{put_chunk, zip2, sel_l, top}
use Rattle.evp_wide.specs.Gathered.{picked, gathered, sign_byte, signs_gathered, with_constant, with_kept, ArePlaces}
use Rattle.evp_wide.proofs.Gathers.{shuffled, put_sixteen}

-- which lanes are below 128
abbrev low_lanes : List ℕ → List Bool
low_lanes lanes = zip2 ltb lanes (replicate 16 128)

sign_is : (byte : ℕ) → cond (ltb byte 128) 0 255 ≡ sign_byte byte
sign_is byte = refl

-- 0 where a lane is below 128, else 255
signs : (lanes : List ℕ) → length lanes ≡ 16 → sel_l (low_lanes lanes) (replicate 16 0) (replicate 16 255) ≡ map sign_byte lanes
signs lanes long =
    let zeros = length-replicate {A = ℕ} 16 0 in
    let ones = length-replicate {A = ℕ} 16 255 in
    let limits = length-replicate {A = ℕ} 16 128 in
    let tests : length (low_lanes lanes) ≡ 16 = length-zip2 ltb lanes (replicate 16 128) (long ∙ sym limits) ∙ long in
    let all = length-sel_l (low_lanes lanes) (replicate 16 0) (replicate 16 255) (tests ∙ sym zeros) (tests ∙ sym ones) in
    same_number_lists (sel_l (low_lanes lanes) (replicate 16 0) (replicate 16 255)) (map sign_byte lanes)
    (all ∙ tests ∙ sym (length-map lanes sign_byte ∙ long))
    (λ k low.
    let within : k < 16 = omega (arith, low, all, tests) in
    get_or-sel_l (low_lanes lanes) (replicate 16 0) (replicate 16 255) k 0 (omega (arith, tests, within)) (omega (arith, zeros, within))
    (omega (arith, ones, within))
    ∙ ap (λ (t : Bool). cond t (get_or (replicate 16 0) k 0) (get_or (replicate 16 255) k 0))
    (get_or-zip2 ltb lanes (replicate 16 128) k 0 0 false (omega (arith, long, within)) (omega (arith, limits, within))
    ∙ ap (ltb (get_or lanes k 0)) (get_or-replicate 16 k 128 0 within))
    ∙ ap (λ (n : ℕ). cond (ltb (get_or lanes k 0) 128) n (get_or (replicate 16 255) k 0)) (get_or-replicate 16 k 0 0 within)
    ∙ ap (λ (n : ℕ). cond (ltb (get_or lanes k 0) 128) 0 n) (get_or-replicate 16 k 255 0 within)
    ∙ sign_is (get_or lanes k 0)
    ∙ sym (get_or-map sign_byte lanes k 0 0 (omega (arith, long, within))))

-- what a comparison leaves in each lane, read as a test
abbrev pub compared : List ℕ → List Bool
compared lanes = map (top 7) (zip2 (λ a b. cond (ltb a b) 255 0) lanes (replicate 16 128))

-- the same where the lanes are compared
pub signs_chosen : (lanes : List ℕ) → length lanes ≡ 16
    → sel_l (compared lanes) (replicate 16 0) (replicate 16 255) ≡ map sign_byte lanes
signs_chosen lanes long =
    ap (λ ms. sel_l ms (replicate 16 0) (replicate 16 255)) (tops_compared w8 ltb lanes (replicate 16 128)) ∙ signs lanes long

-- the signs of the lanes of a shuffle
pub signs_are : (bytes mask : List ℕ) → length mask ≡ 16 → ArePlaces mask
    → sel_l (compared (swz_l w8 16 (take 16 bytes) 0 mask)) (replicate 16 0) (replicate 16 255) ≡ signs_gathered mask bytes
signs_are bytes mask long places =
    let lanes = gathered mask bytes in
    ap (λ l. sel_l (compared l) (replicate 16 0) (replicate 16 255)) (shuffled bytes mask long places)
    ∙ signs_chosen lanes (length-map mask (picked bytes) ∙ long)

-- the signs with what stood there and a constant
pub stored_signs : (to : ℕ) (out bytes mask keep constant : List ℕ) → to + 16 ≤ length out → length mask ≡ 16 → length keep ≡ 16
    → length constant ≡ 16 → ArePlaces mask
    → put_chunk to out
    (zip2 bit_or (zip2 bit_or (sel_l (compared (swz_l w8 16 (take 16 bytes) 0 mask)) (replicate 16 0) (replicate 16 255))
    (zip2 bit_and (take 16 (drop to out)) keep)) constant)
    ≡ take to out ++ (with_constant (with_kept (signs_gathered mask bytes) keep (drop to out)) constant ++ drop (to + 16) out)
stored_signs to out bytes mask keep constant room long keep_long constant_long places =
    let lanes = gathered mask bytes in
    let lanes_long : length lanes ≡ 16 = length-map mask (picked bytes) ∙ long in
    let sixteen : length (map sign_byte lanes) ≡ 16 = length-map lanes sign_byte ∙ lanes_long in
    let stood = take 16 (drop to out) in
    let stood_long : length stood ≡ 16 = omega (arith, room, length-take 16 (drop to out), length-drop to out) in
    let kept_long : length (zip2 bit_and stood keep) ≡ 16 = length-zip2 bit_and stood keep (stood_long ∙ sym keep_long) ∙ stood_long in
    let kept = with_kept (signs_gathered mask bytes) keep (drop to out) in
    let blended_long : length kept ≡ 16 =
    length-zip2 bit_or (map sign_byte lanes) (zip2 bit_and stood keep) (sixteen ∙ sym kept_long) ∙ sixteen in
    let put : List ℕ → List ℕ = λ l. put_chunk to out (zip2 bit_or (zip2 bit_or l (zip2 bit_and stood keep)) constant) in
    ap put (signs_are bytes mask long places)
    ∙ put_sixteen to out (with_constant kept constant) room
    (length-zip2 bit_or kept constant (blended_long ∙ sym constant_long) ∙ blended_long)
