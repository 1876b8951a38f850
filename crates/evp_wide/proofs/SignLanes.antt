-- Whether lanes are the signs of other lanes.
use Rattle.std.proofs.Common.{◌≡◌, ℕ, zero, suc, ◌+◌, ◌*◌, ◌^◌, ◌%◌, ◌↔◌, IsTrue, Bool, true, false, cond, eqb, List, [], ◌∷◌, length}
use Rattle.std.proofs.Common.{drop, get_or, map, take, refl, sym, ap, ◌∙◌, w8, arith}
use Rattle.std.specs.Prelude.{replicate, bit_or, bit_xor}
use Rattle.std.specs.Int.Bits.{xor_self, xor_add_and}
use Rattle.std.proofs.Math.Nat.{pow-suc}
use Rattle.std.proofs.lemmas.Bool.{eqb-true, eq-eqb}
use Rattle.std.proofs.lemmas.List.{length-map, length-replicate}
use Rattle.std.proofs.lemmas.Nat.{and_le_l, and_le_r, le_or_l, le_or_r}
use Rattle.std.proofs.lemmas.Simd.{swz_l, length-zip2, mask_l-mod, tops_compared}
use lib.Lanes.{zip2, sel_l, mask_l, top}
use Rattle.evp_wide.specs.Gathered.{picked, gathered, sign_byte, signs_gathered, ArePlaces, AreNone}
use Rattle.evp_wide.proofs.Gathers.{shuffled}
use Rattle.evp_wide.proofs.Signs.{compared, signs_are}

-- lanes that are equal set all bits
all_set : (xs : List ℕ) → suc (mask_l (zip2 eqb xs xs)) ≡ 2 ^ length xs
all_set [] = refl
all_set (x ∷ xs) =
    let rest = all_set xs in
    let power = pow-suc 2 (length xs) in
    rw (eq-eqb x x refl) (omega (arith, rest, power))

-- all bits are set by lanes that are equal
set_all : (xs ys : List ℕ) → length xs ≡ length ys → suc (mask_l (zip2 eqb xs ys)) ≡ 2 ^ length xs → xs ≡ ys
set_all [] [] same bits = refl
set_all [] (y ∷ ys) same bits = cc
set_all (x ∷ xs) [] same bits = cc
set_all (x ∷ xs) (y ∷ ys) same bits = by (eqb x y) refl (set_all xs ys (omega (arith, same))) bits
  where
    by : (b : Bool) → eqb x y ≡ b → (suc (mask_l (zip2 eqb xs ys)) ≡ 2 ^ length xs → xs ≡ ys)
        → suc (cond b 1 0 + 2 * mask_l (zip2 eqb xs ys)) ≡ 2 ^ suc (length xs) → x ∷ xs ≡ y ∷ ys
    by true equal rest bits =
        let power = pow-suc 2 (length xs) in
        let first = eqb-true x y equal in
        let others = rest (omega (arith, bits, power)) in
        λ i. first i ∷ others i
    by false other rest bits = let power = pow-suc 2 (length xs) in absurd (omega (arith, bits, power))

-- the bits of a comparison of sixteen lanes
bits_are : (xs ys : List ℕ) → length xs ≡ 16 → length ys ≡ 16
    → mask_l (map (top 7) (zip2 (λ a b. cond (eqb a b) 255 0) xs ys)) % 18446744073709551616 ≡ mask_l (zip2 eqb xs ys)
bits_are xs ys long also =
    ap (λ (ms : List Bool). mask_l ms % 18446744073709551616) (tops_compared w8 eqb xs ys)
    ∙ mask_l-mod (zip2 eqb xs ys) 64 (omega (arith, long, length-zip2 eqb xs ys (long ∙ sym also)))

-- whether all of sixteen lanes are equal
all_equal : (xs ys : List ℕ) → length xs ≡ 16 → length ys ≡ 16
    → IsTrue (eqb (mask_l (map (top 7) (zip2 (λ a b. cond (eqb a b) 255 0) xs ys)) % 18446744073709551616) 65535) ↔ (xs ≡ ys)
all_equal xs ys long also = (
  λ set.
      let full : mask_l (zip2 eqb xs ys) ≡ 65535 = sym (bits_are xs ys long also) ∙ eqb-true _ 65535 set in
      set_all xs ys (long ∙ sym also) (ap suc full ∙ sym (ap (λ (n : ℕ). 2 ^ n) long)),
  λ same.
      let full : suc (mask_l (zip2 eqb xs ys)) ≡ 65536 =
      ap (λ (l : List ℕ). suc (mask_l (zip2 eqb xs l))) (sym same) ∙ all_set xs ∙ ap (λ (n : ℕ). 2 ^ n) long in
      eq-eqb _ 65535 (bits_are xs ys long also ∙ omega (arith, full)),
)

-- ---- lanes that differ in no bit

same_lane : (a b : ℕ) → bit_xor a b ≡ 0 → a ≡ b
same_lane a b none = let both = xor_add_and a b in omega (arith, none, both, and_le_l a b, and_le_r a b)

none_differ : (xs : List ℕ) → zip2 bit_xor xs xs ≡ replicate (length xs) 0
none_differ [] = refl
none_differ (x ∷ xs) = λ i. xor_self x i ∷ none_differ xs i

differ_none : (xs ys : List ℕ) → length xs ≡ length ys → zip2 bit_xor xs ys ≡ replicate (length xs) 0 → xs ≡ ys
differ_none [] [] same none = refl
differ_none [] (y ∷ ys) same none = cc
differ_none (x ∷ xs) [] same none = cc
differ_none (x ∷ xs) (y ∷ ys) same none =
    let first = same_lane x y (ap (λ (l : List ℕ). get_or l 0 0) none) in
    let others = differ_none xs ys (omega (arith, same)) (ap (drop 1) none) in
    λ i. first i ∷ others i

none_of_either : (n : ℕ) → zip2 bit_or (replicate n 0) (replicate n 0) ≡ replicate n 0
none_of_either zero = refl
none_of_either (suc n) = ap (λ (l : List ℕ). 0 ∷ l) (none_of_either n)

either_none : (n : ℕ) (xs ys : List ℕ) → length xs ≡ n → length ys ≡ n → zip2 bit_or xs ys ≡ replicate n 0
    → (xs ≡ replicate n 0) × (ys ≡ replicate n 0)
either_none zero [] [] long also none = (refl, refl)
either_none zero (x ∷ xs) ys long also none = cc
either_none zero [] (y ∷ ys) long also none = cc
either_none (suc n) [] ys long also none = cc
either_none (suc n) (x ∷ xs) [] long also none = cc
either_none (suc n) (x ∷ xs) (y ∷ ys) long also none =
    let first = ap (λ (l : List ℕ). get_or l 0 0) none in
    let others = either_none n xs ys (omega (arith, long)) (omega (arith, also)) (ap (drop 1) none) in
    let one : x ≡ 0 = omega (arith, first, le_or_l x y) in
    let two : y ≡ 0 = omega (arith, first, le_or_r x y) in
    (λ i. one i ∷ others.0 i, λ i. two i ∷ others.1 i)

-- ---- bits in which sixteen bytes differ

-- the test that all of these lanes are 0
abbrev pub is_none : List ℕ → Bool
is_none bits = eqb (mask_l (map (top 7) (zip2 (λ a b. cond (eqb a b) 255 0) bits (replicate 16 0))) % 18446744073709551616) 65535

pub none_set : (bits : List ℕ) → length bits ≡ 16 → IsTrue (is_none bits) ↔ AreNone bits
none_set bits long = all_equal bits (replicate 16 0) long (length-replicate {A = ℕ} 16 0)

pub differences_none : (bytes signs bits : List ℕ) → length bytes ≡ 16 → length signs ≡ 16 → bits ≡ zip2 bit_xor bytes signs
    → (bits ≡ replicate 16 0) ↔ (bytes ≡ signs)
differences_none bytes signs bits long also is =
    let zeros : replicate (length bytes) 0 ≡ replicate 16 0 = ap (λ (n : ℕ). replicate n 0) long in (
      λ none. differ_none bytes signs (long ∙ sym also) (sym is ∙ none ∙ sym zeros),
      λ same. is ∙ ap (zip2 bit_xor bytes) (sym same) ∙ none_differ bytes ∙ zeros,
    )

pub differences_long : (bytes signs bits : List ℕ) → length bytes ≡ 16 → length signs ≡ 16 → bits ≡ zip2 bit_xor bytes signs
    → length bits ≡ 16
differences_long bytes signs bits long also is = ap length is ∙ length-zip2 bit_xor bytes signs (long ∙ sym also) ∙ long

pub both_long : (bits others : List ℕ) → length bits ≡ 16 → length others ≡ 16 → length (zip2 bit_or bits others) ≡ 16
both_long bits others long also = length-zip2 bit_or bits others (long ∙ sym also) ∙ long

pub none_in_both : (bits others : List ℕ) → length bits ≡ 16 → length others ≡ 16
    → AreNone (zip2 bit_or bits others) ↔ (AreNone bits × AreNone others)
none_in_both bits others long also = (
  λ none. either_none 16 bits others long also none,
  λ both. ap (λ (l : List ℕ). zip2 bit_or l others) both.0 ∙ ap (zip2 bit_or (replicate 16 0)) both.1 ∙ none_of_either 16,
)

-- ---- what the masks pick

pub gathered_long : (mask bytes : List ℕ) → length mask ≡ 16 → length (gathered mask bytes) ≡ 16
gathered_long mask bytes long = length-map mask (picked bytes) ∙ long

pub signs_long : (mask bytes : List ℕ) → length mask ≡ 16 → length (signs_gathered mask bytes) ≡ 16
signs_long mask bytes long = length-map (gathered mask bytes) sign_byte ∙ gathered_long mask bytes long

-- the bits in which the bytes that one mask picks differ from the signs of those that the other picks
pub differing : (bytes picks places : List ℕ) → length picks ≡ 16 → ArePlaces picks → length places ≡ 16 → ArePlaces places
    → zip2 bit_xor (swz_l w8 16 (take 16 bytes) 0 picks)
    (sel_l (compared (swz_l w8 16 (take 16 bytes) 0 places)) (replicate 16 0) (replicate 16 255))
    ≡ zip2 bit_xor (gathered picks bytes) (signs_gathered places bytes)
differing bytes picks places picks_long are_picks long are =
    ap (λ (l : List ℕ). zip2 bit_xor l (sel_l (compared (swz_l w8 16 (take 16 bytes) 0 places)) (replicate 16 0) (replicate 16 255)))
    (shuffled bytes picks picks_long are_picks)
    ∙ ap (zip2 bit_xor (gathered picks bytes)) (signs_are bytes places long are)
