-- The front of some bytes put in the place of others.
use Rattle.std.proofs.Common.{◌≡◌, ℕ, zero, suc, ◌+◌, ◌-◌, ◌<◌, ◌≤◌, cond, ltb, Bool, true, false, List, [], ◌∷◌, ◌++◌, length, take, drop}
use Rattle.std.proofs.Common.{map, drop-drop, append_assoc, w8, refl, sym, ap, ◌∙◌, arith, inl, inr}
use Rattle.std.proofs.lemmas.Bool.{cases_lt}
use Rattle.std.proofs.lemmas.Bool.Decides.{nat_tests}
use Rattle.std.proofs.lemmas.List.{length-take, length-drop, length-append, take-append-le, drop-append-le, take-append-drop, drop_at, take_all}
use Rattle.std.proofs.lemmas.List.{take-replicate, replicate-append-replicate}
use Rattle.std.proofs.Math.Seq.{take-append-add}
use Rattle.std.proofs.lemmas.Simd.{tops_compared, zip2_splat, take_more_put_chunk}
use Rattle.std.specs.List.{range_with_len}
use Rattle.std.specs.Prelude.{replicate}
use lib.Lanes.{put_chunk, zip2, sel_l, top}
use Rattle.evp_wide.proofs.Gathers.{put_sixteen}

-- ---- a choice of lanes

none_left : (n : ℕ) → ◌≡◌ {A = List ℕ} (take n [] ++ drop n []) []
none_left zero = refl
none_left (suc n) = refl

-- the lanes below n are those of the first, and the others those of the second
chosen : (n k : ℕ) (first second : List ℕ) → length second ≡ length first
    → sel_l (map (λ x. ltb x n) (range_with_len k (length first))) first second ≡ take (n - k) first ++ drop (n - k) second
chosen n k [] [] same = sym (none_left (n - k))
chosen n k (x ∷ first) [] same = cc
chosen n k [] (y ∷ second) same = cc
chosen n k (x ∷ first) (y ∷ second) same =
    let later = chosen n (k + 1) first second (omega (arith, same)) in
    elim (cases_lt k n) [
      | inl below ↦
          let test : ltb k n ≡ true = grind (arith, nat_tests) in
          let more : n - k ≡ suc (n - (k + 1)) = omega arith in
          (λ i. cond (test i) x y ∷ later i) ∙ sym (ap (λ (m : ℕ). take m (x ∷ first) ++ drop m (y ∷ second)) more)
      | inr past ↦
          let test : ltb k n ≡ false = grind (arith, nat_tests) in
          let none : n - k ≡ 0 = omega arith in
          let none' : n - (k + 1) ≡ 0 = omega arith in
          (λ i. cond (test i) x y ∷ later i) ∙ ap (λ (m : ℕ). y ∷ (take m first ++ drop m second)) none'
          ∙ sym (ap (λ (m : ℕ). take m (x ∷ first) ++ drop m (y ∷ second)) none)
    ]

pub take_less : (n m : ℕ) (xs : List ℕ) → n ≤ m → m ≤ length xs → take n (take m xs) ≡ take n xs
take_less n m xs less within =
    sym (take-append-le n (take m xs) (drop m xs) (omega (arith, length-take m xs))) ∙ ap (take n) (take-append-drop m xs)

-- ---- a window of sixteen

-- as the comparison of the lanes' places with n chooses
abbrev pub front_lanes : ℕ → List Bool
front_lanes n = map (top 7) (zip2 (λ a b. cond (ltb a b) 255 0) (range_with_len 0 16) (replicate 16 n))

pub window_put : (to at n : ℕ) (out from : List ℕ) → at + 16 ≤ length from → to + 16 ≤ length out → n ≤ 16
    → put_chunk to out (sel_l (front_lanes n) (take 16 (drop at from)) (take 16 (drop to out)))
    ≡ take to out ++ (take n (drop at from) ++ drop (to + n) out)
window_put to at n out from inside room few =
    let window = take 16 (drop at from) in
    let stood = take 16 (drop to out) in
    let window_long : length window ≡ 16 = omega (arith, length-take 16 (drop at from), length-drop at from) in
    let stood_long : length stood ≡ 16 = omega (arith, length-take 16 (drop to out), length-drop to out) in
    let lanes : front_lanes n ≡ map (λ x. ltb x n) (range_with_len 0 16) =
    tops_compared w8 ltb (range_with_len 0 16) (replicate 16 n) ∙ zip2_splat ltb (range_with_len 0 16) 16 n refl in
    let made : sel_l (front_lanes n) window stood ≡ take n window ++ drop n stood =
    ap (λ (ms : List Bool). sel_l ms window stood) (lanes ∙ ap (λ (m : ℕ). map (λ x. ltb x n) (range_with_len 0 m)) (sym window_long))
    ∙ chosen n 0 window stood (stood_long ∙ sym window_long)
    ∙ ap (λ (m : ℕ). take m window ++ drop m stood) (omega arith) in
    let long : length (take n window ++ drop n stood) ≡ 16 =
    omega (arith, length-append (take n window) (drop n stood), length-take n window, length-drop n stood, window_long, stood_long) in
    let behind : drop n stood ++ drop (to + 16) out ≡ drop (to + n) out =
    ap (λ (rest : List ℕ). drop n stood ++ rest) (sym (drop-drop 16 to out))
    ∙ sym (drop-append-le n stood (drop 16 (drop to out)) (omega (arith, stood_long)))
    ∙ ap (drop n) (take-append-drop 16 (drop to out)) ∙ drop-drop n to out in
    ap (put_chunk to out) made ∙ put_sixteen to out (take n window ++ drop n stood) room long
    ∙ ap (λ (rest : List ℕ). take to out ++ rest) (append_assoc (take n window) (drop n stood) (drop (to + 16) out)
    ∙ (λ i. take_less n 16 (drop at from) few (omega (arith, length-drop at from)) i ++ behind i))

-- ---- two windows, the second behind the first or inside of it

-- bytes behind those of the first window, which keeps the first `done`
pub two_put : (to behind done count : ℕ) (out from : List ℕ) → behind ≤ done → done ≤ count → count ≤ length from → to + count ≤ length out
    → take (to + behind) (take to out ++ (take done from ++ drop (to + done) out))
    ++ (take (count - behind) (drop behind from)
    ++ drop (to + behind + (count - behind)) (take to out ++ (take done from ++ drop (to + done) out)))
    ≡ take to out ++ (take count from ++ drop (to + count) out)
two_put to behind done count out from near some inside room =
    let before = take to out in
    let first = take done from in
    let second = take (count - behind) (drop behind from) in
    let rest = drop (to + done) out in
    let before_long : length before ≡ to = omega (arith, length-take to out) in
    let first_long : length first ≡ done = omega (arith, length-take done from) in
    let long : length (before ++ first) ≡ to + done = omega (arith, length-append before first, before_long, first_long) in
    let part_long : length (take behind from) ≡ behind = omega (arith, length-take behind from) in
    let joined : before ++ (first ++ rest) ≡ (before ++ first) ++ rest = sym (append_assoc before first rest) in
    let front : take (to + behind) (before ++ (first ++ rest)) ≡ before ++ take behind from =
    ap (λ (n : ℕ). take (n + behind) (before ++ (first ++ rest))) (sym before_long)
    ∙ take-append-add before (first ++ rest) behind
    ∙ ap (λ (l : List ℕ). before ++ l)
    (take-append-le behind first rest (omega (arith, first_long, near)) ∙ take_less behind done from near (omega arith)) in
    let later : drop (to + behind + (count - behind)) (before ++ (first ++ rest)) ≡ drop (to + count) out =
    ap (λ (n : ℕ). drop n (before ++ (first ++ rest))) (omega (arith, near, some))
    ∙ sym (drop-drop (count - done) (to + done) (before ++ (first ++ rest)))
    ∙ ap (drop (count - done)) (ap (drop (to + done)) joined ∙ drop_at (before ++ first) rest (to + done) long)
    ∙ drop-drop (count - done) (to + done) out ∙ ap (λ (n : ℕ). drop n out) (omega (arith, some)) in
    let whole : take behind from ++ second ≡ take count from =
    sym (take-append-add (take behind from) (drop behind from) (count - behind))
    ∙ ap (λ (n : ℕ). take n (take behind from ++ drop behind from)) (omega (arith, near, some, part_long))
    ∙ ap (take count) (take-append-drop behind from) in
    (λ i. front i ++ (second ++ later i)) ∙ append_assoc before (take behind from) (second ++ drop (to + count) out)
    ∙ ap (λ (l : List ℕ). before ++ l) (sym (append_assoc (take behind from) second (drop (to + count) out))
    ∙ ap (λ (l : List ℕ). l ++ drop (to + count) out) whole)

-- none behind them
pub none_put : (at : ℕ) (out from : List ℕ) → take at out ++ (take 0 from ++ drop (at + 0) out) ≡ out
none_put at out from = ap (λ (n : ℕ). take at out ++ drop n out) (omega arith) ∙ take-append-drop at out

-- a window that begins behind all that the first one put puts nothing more
pub both_put : (to behind done more count : ℕ) (out from : List ℕ) → done ≤ count → (behind ≤ count → behind ≤ done)
    → (count < behind → count ≤ done) → more ≡ count - behind → count ≤ length from → to + count ≤ length out
    → take (to + behind) (take to out ++ (take done from ++ drop (to + done) out))
    ++ (take more (drop behind from) ++ drop (to + behind + more) (take to out ++ (take done from ++ drop (to + done) out)))
    ≡ take to out ++ (take count from ++ drop (to + count) out)
both_put to behind done more count out from some near all more_is inside room =
    let first = λ (n : ℕ). take to out ++ (take n from ++ drop (to + n) out) in
    let second = λ (n : ℕ). take (to + behind) (first done)
    ++ (take n (drop behind from) ++ drop (to + behind + n) (first done)) in
    elim (cases_lt count behind) [
      | inl less ↦
          let nothing : more ≡ 0 = omega (arith, more_is, less) in
          let same : done ≡ count = let whole = all less in omega (arith, whole, some) in
          ap second nothing ∙ none_put (to + behind) (first done) (drop behind from) ∙ ap first same
      | inr past ↦ ap second more_is ∙ two_put to behind done count out from (near past) some inside room
    ]

-- ---- zeros

pub zeros_more : (at done : ℕ) (out : List ℕ) → at ≤ done → done ≤ length out → at + 16 ≤ length out → take done out ≡ replicate done 0
    → take (at + 16) (put_chunk at out (replicate 16 0)) ≡ replicate (at + 16) 0
zeros_more at done out less within room zeros =
    take_more_put_chunk at out (replicate 16 0) (at + 16) refl room
    ∙ ap (λ (l : List ℕ). l ++ replicate 16 0)
    (sym (take_less at done out less within) ∙ ap (take at) zeros ∙ take-replicate at done 0 less)
    ∙ replicate-append-replicate at 16 0

-- what is all in front is all
pub zeros_whole : (n : ℕ) (out : List ℕ) → n ≡ length out → take n out ≡ replicate n 0 → out ≡ replicate (length out) 0
zeros_whole n out whole zeros = sym (take_all n out (omega (arith, whole))) ∙ zeros ∙ ap (λ (m : ℕ). replicate m 0) whole
