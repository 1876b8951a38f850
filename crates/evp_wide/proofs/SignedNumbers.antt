-- Signed numbers put side by side.
use Rattle.std.proofs.Common.{◌≡◌, ℕ, zero, suc, ◌+◌, ◌*◌, ◌/◌, ◌^◌, ◌<◌, ◌≤◌, pos, IsTrue, List, ◌∷◌, ◌++◌, length, take, drop, refl, sym, ap, ◌∙◌}
use Rattle.std.proofs.Common.{arith, append_assoc, drop-drop, length-append, length-take, length-drop, mul-div_cancel, suc-mul, add-mul}
use Rattle.std.specs.List.{flat_map}
use Rattle.std.proofs.lemmas.Bool.Decides.{nat_tests}
use Rattle.std.proofs.lemmas.List.{append-nil, take_at, drop_at, take-take, drop-take, take-append-drop}
use Rattle.std.proofs.lemmas.List.Concat.{flat_map-append}
use Rattle.evp_base.specs.Numbers.{number, digits, residue, is_width}
use Rattle.evp_base.specs.declared.kind.Kind.TheVariants.{Int}
use Rattle.evp_base.specs.declared.order.Order.{Order}
use Rattle.evp_base.proofs.Numbers.{length-digits}
use Rattle.evp_wide.specs.Elements.{rewritten}
use Rattle.evp_wide.specs.Groups.{groups}
use Rattle.evp_wide.specs.Zeros.{with_signed}
use Rattle.evp_wide.proofs.Blocks.{groups-add}
use Rattle.evp_wide.proofs.Residues.{digits-word}

-- ---- bytes laid over others

-- so many bytes laid over others at a place
abbrev pub laid : ℕ → ℕ → List ℕ → List ℕ → List ℕ
laid t n new out = take t out ++ (new ++ drop (t + n) out)

-- bytes laid right behind those that were laid
laid_more : (t a b : ℕ) (first second out : List ℕ) → length first ≡ a → length second ≡ b → t + (a + b) ≤ length out
    → laid (t + a) b second (laid t a first out) ≡ laid t (a + b) (first ++ second) out
laid_more t a b first second out first_long second_long room =
    let before = take t out in
    let rest = drop (t + a) out in
    let whole = before ++ (first ++ rest) in
    let before_long : length before ≡ t = omega (arith, length-take t out, room) in
    let long : length (before ++ first) ≡ t + a = omega (arith, length-append before first, before_long, first_long) in
    let joined : whole ≡ (before ++ first) ++ rest = sym (append_assoc before first rest) in
    let front : take (t + a) whole ≡ before ++ first = ap (take (t + a)) joined ∙ take_at (before ++ first) rest (t + a) long in
    let behind : drop (t + a + b) whole ≡ drop (t + (a + b)) out =
    ap (λ (n : ℕ). drop n whole) (omega arith) ∙ sym (drop-drop b (t + a) whole)
    ∙ ap (drop b) (ap (drop (t + a)) joined ∙ drop_at (before ++ first) rest (t + a) long)
    ∙ drop-drop b (t + a) out ∙ ap (λ (n : ℕ). drop n out) (omega arith) in
    (λ i. front i ++ (second ++ behind i)) ∙ append_assoc before first (second ++ drop (t + (a + b)) out)
    ∙ ap (λ (l : List ℕ). before ++ l) (sym (append_assoc first second (drop (t + (a + b)) out)))

-- ---- groups of the front

groups-take : (size count : ℕ) (bytes : List ℕ) → groups size count (take (count * size) bytes) ≡ groups size count bytes
groups-take size zero bytes = refl
groups-take size (suc count) bytes =
    let more : suc count * size ≡ size + count * size = omega (arith, suc-mul count size) in
    let front : take size (take (suc count * size) bytes) ≡ take size bytes =
    take-take size (suc count * size) bytes (omega (arith, more)) in
    let behind : drop size (take (suc count * size) bytes) ≡ take (count * size) (drop size bytes) =
    ap (λ (n : ℕ). drop size (take n bytes)) more ∙ drop-take size (count * size) bytes in
    let others = ap (groups size count) behind ∙ groups-take size count (drop size bytes) in
    λ i. front i ∷ others i

pub some_width : (size : ℕ) → IsTrue (is_width size) → 0 < size
some_width size allowed = grind (arith, nat_tests)

-- ---- signed numbers

module _ (size : ℕ) (to_order : Order) (from : List ℕ) (width : ℕ) (from_order : Order) where
  abbrev one : List ℕ → List ℕ
  one element = digits to_order size (number from_order Int element)

  abbrev numbers : ℕ → ℕ → List ℕ
  numbers at n = flat_map one (groups width n (drop at from))

  long : (n : ℕ) (bytes : List ℕ) → length (flat_map one (groups width n bytes)) ≡ n * size
  long zero bytes = omega arith
  long (suc n) bytes =
      let first = one (take width bytes) in
      let others = flat_map one (groups width n (drop width bytes)) in
      length-append first others
      ∙ omega (arith, length-digits to_order size (number from_order Int (take width bytes)), long n (drop width bytes), suc-mul n size)

  numbers-add : (at a b : ℕ) → numbers at (a + b) ≡ numbers at a ++ numbers (at + a * width) b
  numbers-add at a b =
      ap (flat_map one) (groups-add width a b (drop at from)) ∙ flat_map-append one (groups width a (drop at from)) _
      ∙ ap (λ (l : List ℕ). numbers at a ++ flat_map one (groups width b l)) (drop-drop (a * width) at from)

  module _ (allowed : IsTrue (is_width width)) where
    -- as the bytes of so many numbers
    all_of : (at n : ℕ) → at + n * width ≤ length from
        → rewritten Int to_order size from_order width (take (n * width) (drop at from)) ≡ numbers at n
    all_of at n inside =
        let bytes = take (n * width) (drop at from) in
        let some = some_width width allowed in
        let all : length bytes ≡ n * width = omega (arith, length-take (n * width) (drop at from), length-drop at from, inside) in
        let count : length bytes / width ≡ n = ap (λ (k : ℕ). k / width) all ∙ mul-div_cancel n some in
        ap (λ (k : ℕ). flat_map one (groups width k bytes)) count ∙ ap (flat_map one) (groups-take width n (drop at from))

    signed_is : (to at n : ℕ) (old : List ℕ) → at + n * width ≤ length from
        → with_signed to size to_order from at width from_order n old ≡ laid to (n * size) (numbers at n) old
    signed_is to at n old inside = ap (λ (l : List ℕ). laid to (n * size) l old) (all_of at n inside)

    -- no number
    pub signed_none : (to at : ℕ) (old : List ℕ) → at ≤ length from → old ≡ with_signed to size to_order from at width from_order 0 old
    signed_none to at old inside =
        let there : to + 0 * size ≡ to = omega arith in
        let room : at + 0 * width ≤ length from = omega (arith, inside) in
        sym (signed_is to at 0 old room ∙ ap (λ (t : ℕ). take to old ++ drop t old) there ∙ take-append-drop to old)

    -- further numbers behind those that were put
    pub signed_more : (to at a b : ℕ) (old : List ℕ) → at + (a + b) * width ≤ length from → to + (a + b) * size ≤ length old
        → with_signed (to + a * size) size to_order from (at + a * width) width from_order b
        (with_signed to size to_order from at width from_order a old)
        ≡ with_signed to size to_order from at width from_order (a + b) old
    signed_more to at a b old inside room =
        let split = add-mul a b width in
        let both = add-mul a b size in
        let first_inside : at + a * width ≤ length from = omega (arith, inside, split) in
        let second_inside : at + a * width + b * width ≤ length from = omega (arith, inside, split) in
        signed_is (to + a * size) (at + a * width) b _ second_inside
        ∙ ap (laid (to + a * size) (b * size) (numbers (at + a * width) b)) (signed_is to at a old first_inside)
        ∙ laid_more to (a * size) (b * size) (numbers at a) (numbers (at + a * width) b) old (long a (drop at from))
        (long b (drop (at + a * width) from)) (omega (arith, room, both))
        ∙ ap (λ (l : List ℕ). laid to (a * size + b * size) l old) (sym (numbers-add at a b))
        ∙ ap (λ (n : ℕ). laid to n (numbers at (a + b)) old) (sym both)
        ∙ sym (signed_is to at (a + b) old inside)

    -- one number
    pub signed_one : (to at word : ℕ) (old : List ℕ) → IsTrue (is_width size) → at + width ≤ length from
        → word ≡ residue (number from_order Int (take width (drop at from))) (2 ^ 64)
        → laid to size (digits to_order size (pos word)) old ≡ with_signed to size to_order from at width from_order 1 old
    signed_one to at word old out_allowed inside is =
        let single : 1 * size ≡ size = omega arith in
        let room : at + 1 * width ≤ length from = omega (arith, inside) in
        let made : digits to_order size (pos word) ≡ numbers at 1 =
        ap (λ (n : ℕ). digits to_order size (pos n)) is ∙ digits-word to_order size (number from_order Int (take width (drop at from))) out_allowed
        ∙ sym (append-nil (one (take width (drop at from)))) in
        (λ i. laid to (sym single i) (made i) old) ∙ sym (signed_is to at 1 old room)

    -- one number behind those that were put
    pub signed_next : (to at k to_next at_next word : ℕ) (old now : List ℕ) → IsTrue (is_width size) → to_next ≡ to + k * size
        → at_next ≡ at + k * width → at + (k + 1) * width ≤ length from → to + (k + 1) * size ≤ length old
        → now ≡ with_signed to size to_order from at width from_order k old
        → word ≡ residue (number from_order Int (take width (drop at_next from))) (2 ^ 64)
        → laid to_next size (digits to_order size (pos word)) now ≡ with_signed to size to_order from at width from_order (k + 1) old
    signed_next to at k to_next at_next word old now out_allowed to_is at_is inside room made is =
        let split = add-mul k 1 width in
        signed_one to_next at_next word now out_allowed (omega (arith, inside, split, at_is)) is
        ∙ (λ i. with_signed (to_is i) size to_order from (at_is i) width from_order 1 (made i))
        ∙ signed_more to at k 1 old inside room
