-- What a shuffle of sixteen lanes picks.
use Rattle.std.proofs.Common.{◌≡◌, ℕ, ◌+◌, ◌*◌, ◌/◌, ◌<◌, ◌≤◌, ◌⊎◌, cond, List, ◌++◌, length, take, drop, get_or, true, ◌||◌}
use Rattle.std.proofs.Common.{T, subst, zero-add, drop-drop, ltb, leb, sym, refl, ap, ◌∙◌, ⊎_elim, w8, arith}
use Rattle.std.proofs.lemmas.Bool.Decides.{nat_tests}
use Rattle.std.proofs.lemmas.Grind.{same_number_lists}
use Rattle.std.proofs.lemmas.List.{get_or-map, get_or-take, length-map, length-take, length-drop}
use Rattle.std.proofs.lemmas.Simd.{swz_l, SwzOk, SwzOk-from_Each1, Each1-from_get_or, length-swz_l, get_or-swz_l, put_chunk_is}
use Rattle.std.proofs.lemmas.Simd.{length-zip2}
use lib.Lanes.{put_chunk, zip2}
use lib.Bits.{bit_or, bit_and}
use Rattle.evp_wide.specs.Gathered.{picked, gathered, with_constant, with_kept, ArePlaces}

tested : (place : ℕ) → (place < 16) ⊎ (128 ≤ place) → (leb 128 place || ltb place 16) ≡ true
tested place is = grind (arith, nat_tests)

-- what a shuffle asks of a mask
pub allowed : (mask : List ℕ) → length mask ≡ 16 → ArePlaces mask → SwzOk w8 16 16 0 mask
allowed mask long places =
    SwzOk-from_Each1 w8 16 1 16 0 mask refl (omega arith)
    (Each1-from_get_or _ mask 0 (λ i within. subst T (sym (tested (get_or mask i 0) (places i 0 within))) tt))

lane : (bytes : List ℕ) (k place : ℕ) → k < 16 → (place < 16) ⊎ (128 ≤ place)
    → cond (leb 128 place) 0 (get_or (take 16 bytes) (16 * (k / 16) + place) 0) ≡ picked bytes place
lane bytes k place within is =
    let at : 16 * (k / 16) + place ≡ place = omega arith in
    rw at (⊎_elim (λ below. let same = get_or-take 16 bytes place 0 below in grind (arith, nat_tests, same))
    (λ none. grind (arith, nat_tests)) is)

-- the lanes of a shuffle are the bytes that the mask picks
pub shuffled : (bytes mask : List ℕ) → length mask ≡ 16 → ArePlaces mask → swz_l w8 16 (take 16 bytes) 0 mask ≡ gathered mask bytes
shuffled bytes mask long places =
    same_number_lists (swz_l w8 16 (take 16 bytes) 0 mask) (gathered mask bytes)
    (length-swz_l w8 16 (take 16 bytes) 0 mask ∙ sym (length-map mask (picked bytes)))
    (λ k below.
    let within : k < length mask = omega (arith, length-swz_l w8 16 (take 16 bytes) 0 mask) in
    get_or-swz_l w8 16 (take 16 bytes) 0 mask k within
    ∙ rw zero-add (lane bytes k (get_or mask k 0) (omega arith) (places k 0 within))
    ∙ sym (get_or-map (picked bytes) mask k 0 0 within))

pub put_sixteen : (to : ℕ) (out block : List ℕ) → to + 16 ≤ length out → length block ≡ 16 → put_chunk to out block ≡ take to out
    ++ (block ++ drop (to + 16) out)
put_sixteen to out block room sixteen =
    put_chunk_is to out block (omega arith)
    ∙ ap (λ l. take to out ++ (block ++ l)) (ap (λ n. drop n (drop to out)) sixteen ∙ drop-drop 16 to out)

pub stored : (to : ℕ) (out bytes mask : List ℕ) → to + 16 ≤ length out → length mask ≡ 16 → ArePlaces mask
    → put_chunk to out (swz_l w8 16 (take 16 bytes) 0 mask) ≡ take to out ++ (gathered mask bytes ++ drop (to + 16) out)
stored to out bytes mask room long places =
    ap (put_chunk to out) (shuffled bytes mask long places) ∙ put_sixteen to out (gathered mask bytes) room
    (length-map mask (picked bytes) ∙ long)

-- the same with a constant
pub stored_with : (to : ℕ) (out bytes mask constant : List ℕ) → to + 16 ≤ length out → length mask ≡ 16 → length constant ≡ 16
    → ArePlaces mask
    → put_chunk to out (zip2 bit_or (swz_l w8 16 (take 16 bytes) 0 mask) constant) ≡ take to out
    ++ (with_constant (gathered mask bytes) constant ++ drop (to + 16) out)
stored_with to out bytes mask constant room long constant_long places =
    let sixteen : length (gathered mask bytes) ≡ 16 = length-map mask (picked bytes) ∙ long in
    ap (λ l. put_chunk to out (zip2 bit_or l constant)) (shuffled bytes mask long places)
    ∙ put_sixteen to out (with_constant (gathered mask bytes) constant) room
    (length-zip2 bit_or (gathered mask bytes) constant (sixteen ∙ sym constant_long) ∙ sixteen)

-- the same with what stood there
pub stored_blend : (to : ℕ) (out bytes mask keep constant : List ℕ) → to + 16 ≤ length out → length mask ≡ 16 → length keep ≡ 16
    → length constant ≡ 16 → ArePlaces mask
    → put_chunk to out (zip2 bit_or (zip2 bit_or (swz_l w8 16 (take 16 bytes) 0 mask) (zip2 bit_and (take 16 (drop to out)) keep)) constant)
    ≡ take to out ++ (with_constant (with_kept (gathered mask bytes) keep (drop to out)) constant ++ drop (to + 16) out)
stored_blend to out bytes mask keep constant room long keep_long constant_long places =
    let sixteen : length (gathered mask bytes) ≡ 16 = length-map mask (picked bytes) ∙ long in
    let stood = take 16 (drop to out) in
    let stood_long : length stood ≡ 16 = omega (arith, length-take 16 (drop to out), length-drop to out) in
    let kept_long : length (zip2 bit_and stood keep) ≡ 16 = length-zip2 bit_and stood keep (stood_long ∙ sym keep_long) ∙ stood_long in
    let kept = with_kept (gathered mask bytes) keep (drop to out) in
    let blended_long : length kept ≡ 16 =
    length-zip2 bit_or (gathered mask bytes) (zip2 bit_and stood keep) (sixteen ∙ sym kept_long) ∙ sixteen in
    ap (λ l. put_chunk to out (zip2 bit_or (zip2 bit_or l (zip2 bit_and stood keep)) constant)) (shuffled bytes mask long places)
    ∙ put_sixteen to out (with_constant kept constant) room
    (length-zip2 bit_or kept constant (blended_long ∙ sym constant_long) ∙ blended_long)
