-- Bytes of a record whose blocks are laid one behind another.
use Rattle.std.proofs.Common.{◌≡◌, ◌≢◌, ℕ, zero, suc, ◌+◌, ◌-◌, ◌≤◌, pos, List, [], ◌∷◌, ◌++◌, length, take, drop, Option, Some, refl}
use Rattle.std.proofs.Common.{sym, ap, ◌∙◌, arith}
use Rattle.std.specs.Prelude.{replicate, option_map}
use Rattle.std.proofs.Math.Seq.{take-append_seam, take-append-add}
use Rattle.std.proofs.lemmas.List.{take-append-le, drop-append-le, take-replicate, length-replicate, length-take-le, length-append, get_or-drop}
use Rattle.std.proofs.lemmas.List.{length-drop, append_assoc, take-append-drop}
use Rattle.memchr.specs.Find.{is_byte}
use Rattle.evp_base.specs.declared.order.Order.{Order}
use Rattle.evp_base.specs.declared.order.Order.TheVariants.{Little, Big}
use Rattle.evp_base.specs.Numbers.{digits}
use Rattle.evp_base.proofs.Numbers.{length-digits}
use Rattle.evp_format.specs.Bytes.{put_at, next_block}
use Rattle.evp_format.specs.Packing.{Machine}
use Rattle.evp_format.specs.Datum.{text}
use Rattle.evp_format.specs.Viewing.{Image, until_zero}
use Rattle.evp_plan.specs.Standing.{ended, text_from}
use Rattle.evp_wide.specs.Zeros.{IsZeroBehind}
use Rattle.evp_plan.specs.LaidOn.{laid_block}
use Rattle.evp_runner.specs.Pieces.{block_of}
use Rattle.evp_runner.proofs.Zeros.{zero_found}
use Rattle.evp_runner.proofs.Texts.{text_before, block_before}

-- ---- put in front

-- what is put inside a front leaves what is behind it
put_before : (t : ℕ) (new front rest : List ℕ) → t + length new ≤ length front
    → put_at t new (front ++ rest) ≡ put_at t new front ++ rest
put_before t new front rest room =
    ap (λ (l : List ℕ). l ++ new ++ drop (t + length new) (front ++ rest)) (take-append-le t front rest (omega (arith, room)))
    ∙ ap (λ (l : List ℕ). take t front ++ new ++ l) (drop-append-le (t + length new) front rest room)
    ∙ sym (append_assoc (take t front ++ new) (drop (t + length new) front) rest)

put_long : (t : ℕ) (new front : List ℕ) → t + length new ≤ length front → length (put_at t new front) ≡ length front
put_long t new front room =
    let taken = length-take-le t front (omega (arith, room)) in
    let first = length-append (take t front) new in
    let both = length-append (take t front ++ new) (drop (t + length new) front) in
    let left = length-drop (t + length new) front in
    omega (arith, room, taken, first, both, left)

-- the front of what was put inside it
pub take_put : (t end : ℕ) (new out : List ℕ) → t + length new ≤ end → end ≤ length out
    → take end (put_at t new out) ≡ put_at t new (take end out)
take_put t end new out room within =
    let front = take end out in
    let long = length-take-le end out within in
    let there : t + length new ≤ length front = omega (arith, room, long) in
    let whole = put_long t new front there in
    let same : end ≡ length (put_at t new front) = omega (arith, whole, long) in
    ap (λ (l : List ℕ). take end (put_at t new l)) (sym (take-append-drop end out))
    ∙ ap (take end) (put_before t new front (drop end out) there)
    ∙ ap (λ (n : ℕ). take n (put_at t new front ++ drop end out)) same
    ∙ take-append_seam (put_at t new front) (drop end out)

-- ---- a gap of zeros

pub gap_made : (size q : ℕ) (out : List ℕ) → size ≤ q → q ≤ size + 8 → size + 8 ≤ length out
    → take q (put_at size (replicate 8 0) out) ≡ take size out ++ replicate (q - size) 0
gap_made size q out low high room =
    let zeros = replicate {A = ℕ} 8 0 in
    let long = length-take-le size out (omega (arith, room)) in
    let both = length-append (take size out) zeros in
    let part : q ≡ length (take size out) + (q - size) = omega (arith, long, low) in
    take-append-le q (take size out ++ zeros) (drop (size + 8) out) (omega (arith, long, both, high))
    ∙ ap (λ (n : ℕ). take n (take size out ++ zeros)) part ∙ take-append-add (take size out) zeros (q - size)
    ∙ ap (λ (l : List ℕ). take size out ++ l) (take-replicate {X = ℕ} (q - size) 8 0 (omega (arith, high)))

-- a block behind what stood there
pub block_made : (q m : ℕ) (old block rest : List ℕ) → q ≤ length old → length block ≡ m
    → take (q + m) (take q old ++ (block ++ rest)) ≡ take q old ++ block
block_made q m old block rest within long =
    let taken = length-take-le q old within in
    let both = length-append (take q old) block in
    let same : q + m ≡ length (take q old ++ block) = omega (arith, taken, both, long) in
    ap (take (q + m)) (sym (append_assoc (take q old) block rest)) ∙ ap (λ (n : ℕ). take n (take q old ++ block ++ rest)) same
    ∙ take-append_seam (take q old ++ block) rest

-- ---- blocks with their pointers

pub next_block_low : (size : ℕ) → size ≤ next_block size
next_block_low size = omega arith

pub next_block_high : (size : ℕ) → next_block size ≤ size + 7
next_block_high size = omega arith

pub block_taken : (machine : Machine) (t size q end : ℕ) (block old out new : List ℕ) → size ≤ length old → t + 8 ≤ size
    → q ≡ next_block size → end ≡ q + length block → end ≤ length out
    → take end out ≡ take size old ++ replicate (q - size) 0 ++ block
    → new ≡ put_at t (digits machine.order 8 (pos q)) out
    → take end new ≡ laid_block machine t (take size old) block
block_taken machine t size q end block old out new within there q_is end_is room made pointed =
    let pointer = digits machine.order 8 (pos q) in
    let long = length-digits machine.order 8 (pos q) in
    let front = take size old in
    let taken = length-take-le size old within in
    let low = next_block_low size in
    let zeros = replicate {A = ℕ} (q - size) 0 in
    ap (take end) pointed ∙ take_put t end pointer out (omega (arith, long, there, low, q_is, end_is)) room
    ∙ ap (put_at t pointer) (made ∙ append_assoc front zeros block)
    ∙ put_before t pointer front (zeros ++ block) (omega (arith, long, taken, there))
    ∙ sym (append_assoc (put_at t pointer front) zeros block)
    ∙ ap (λ (n : ℕ). put_at t (digits machine.order 8 (pos n)) front ++ replicate (n - size) 0 ++ block) q_is
    ∙ ap (λ (n : ℕ). put_at t (digits machine.order 8 (pos (next_block n))) front ++ replicate (next_block n - n) 0 ++ block) (sym taken)

pub laid_long : (machine : Machine) (t size : ℕ) (block old : List ℕ) → size ≤ length old → t + 8 ≤ size
    → length (laid_block machine t (take size old) block) ≡ next_block size + length block
laid_long machine t size block old within there =
    let front = take size old in
    let taken = length-take-le size old within in
    let q = next_block (length front) in
    let same : q ≡ next_block size = ap next_block taken in
    let pointer = digits machine.order 8 (pos q) in
    let long = length-digits machine.order 8 (pos q) in
    let put = put_long t pointer front (omega (arith, long, taken, there)) in
    let zeros = length-replicate {A = ℕ} (q - length front) 0 in
    let first = length-append (put_at t pointer front) (replicate (q - length front) 0) in
    let both = length-append (put_at t pointer front ++ replicate (q - length front) 0) block in
    let low = next_block_low size in
    omega (arith, taken, same, put, zeros, first, both, low)

zero_digits : (order : Order) → digits order 8 (pos 0) ≡ replicate 8 0
zero_digits Little = refl
zero_digits Big = refl

pub none_taken : (machine : Machine) (t size : ℕ) (old new : List ℕ) → size ≤ length old → t + 8 ≤ size
    → new ≡ put_at t (digits machine.order 8 (pos 0)) old → take size new ≡ put_at t (replicate 8 0) (take size old)
none_taken machine t size old new within there pointed =
    ap (take size) (pointed ∙ ap (λ (l : List ℕ). put_at t l old) (zero_digits machine.order))
    ∙ take_put t size (replicate 8 0) old (omega (arith, there)) within

-- ---- texts

-- the first zero byte behind a place
zero_behind : (bytes : List ℕ) (from count : ℕ) → IsZeroBehind bytes from count → Some count ≡ option_map length (until_zero (drop from bytes))
zero_behind bytes from count is =
    let rest = drop from bytes in
    let left = length-drop from bytes in
    let within = is.within in
    zero_found rest (Some count) (
      record {
        low = omega arith;
        high = omega (arith, left, within);
        before = λ k low high passes. is.before (from + k) (omega arith) (omega (arith, high))
            (sym (ap (λ (byte : ℕ). is_byte 0 byte) (get_or-drop from bytes k 0)) ∙ passes);
      },
      ap (λ (byte : ℕ). is_byte 0 byte) (get_or-drop from bytes count 0) ∙ is.here,
    )

pub text_behind : (bytes : List ℕ) (from count : ℕ) → IsZeroBehind bytes from count
    → until_zero (drop from bytes) ≡ Some (take count (drop from bytes))
text_behind bytes from count is = sym (text_before (drop from bytes) count (zero_behind bytes from count is))

-- with the zero byte
pub block_behind : (bytes : List ℕ) (from count : ℕ) → IsZeroBehind bytes from count
    → take (count + 1) (drop from bytes) ≡ take count (drop from bytes) ++ 0 ∷ []
block_behind bytes from count is =
    let rest = drop from bytes in
    let both : Some (take (count + 1) rest) ≡ Some (take count rest ++ 0 ∷ []) =
    block_before rest count (zero_behind bytes from count is) ∙ ap (λ (f : Option (List ℕ)). block_of (ended f)) (text_behind bytes from count is)
    in
    cc

pub text_is : (image : Image) (from count : ℕ) → from ≢ 0 → IsZeroBehind image.bytes from count
    → text_from image from ≡ text (take count (drop from image.bytes))
text_is image zero count some is = absurd (some refl)
text_is image (suc p) count some is = ap ended (text_behind image.bytes (suc p) count is)
