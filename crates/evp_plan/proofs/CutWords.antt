-- A number whose bytes above a part are the sign of what stands below them.
use Rattle.std.proofs.Common.{◌≡◌, ℕ, zero, suc, ◌+◌, ◌-◌, ◌*◌, ◌^◌, ◌<◌, ◌≤◌, IsTrue, true, List, [], ◌∷◌, length, take, drop, get_or}
use Rattle.std.proofs.Common.{Some, None, inl, inr, cond, Bool, refl, sym, ap, ◌∙◌, subst, arith, length-take, length-drop}
use Rattle.std.specs.Prelude.{slice_index}
use Rattle.std.proofs.Math.Nat.{pow-suc}
use Rattle.std.proofs.lemmas.Nat.{pow-add}
use Rattle.std.proofs.lemmas.Bool.{cases_lt, lt-ltb, le-ltb, le-leb, or_left, or_right}
use Rattle.std.proofs.lemmas.Bool.Decides.{nat_tests}
use Rattle.std.proofs.lemmas.List.{get_or-take, get_or-drop, get_or-reverse}
use Rattle.std.proofs.lemmas.List.Elements.{All-take}
use Rattle.byteorder.proofs.Bytes.{pow256}
use Rattle.evp_base.specs.declared.order.Order.{Order}
use Rattle.evp_base.specs.declared.order.Order.TheVariants.{Little, Big}
use Rattle.evp_base.specs.Numbers.{weighed, low_first, is_width}
use Rattle.evp_base.proofs.Complement.{width as width_of}
use Rattle.evp_base.proofs.Digits.{AreBytes, AreBytes-low_first, length-low_first, weighed-lt}
use Rattle.evp_format.specs.Bytes.{bytes_at}
use Rattle.evp_format.proofs.Places.{AreBytes-cut}
use Rattle.evp_wide.specs.Gathered.{sign_byte}
use Rattle.evp_plan.specs.declared.words.Words.{Words}
use Rattle.evp_plan.specs.Among.{is_among}
use Rattle.evp_plan.specs.Cuts.{place_of, AreAbove}
use Rattle.evp_plan.specs.Fills.{byte_there}
use Rattle.evp_plan.specs.Quicks.{IsInside, IsThere}
use Rattle.evp_plan.proofs.QuietSteps.{length_cut}

-- ---- sums of weights

rest_bytes : (byte : ℕ) (bytes : List ℕ) → AreBytes (byte ∷ bytes) → AreBytes bytes
rest_bytes byte bytes are = λ k d below. are (suc k) d (omega (arith, below))

-- those of the lowest bytes, and of those above
weighed_split : (size : ℕ) (bytes : List ℕ) → size ≤ length bytes
    → weighed bytes ≡ weighed (take size bytes) + 256 ^ size * weighed (drop size bytes)
weighed_split zero bytes room = omega arith
weighed_split (suc size) [] room = absurd (omega (arith, room))
weighed_split (suc size) (byte ∷ bytes) room =
    let rest = weighed_split size bytes (omega (arith, room)) in
    let power = pow-suc 256 size in
    rw (rest, power) (omega arith)

zeros_weigh : (bytes : List ℕ) → ((k : ℕ) → k < length bytes → get_or bytes k 0 ≡ 0) → weighed bytes ≡ 0
zeros_weigh [] all = refl
zeros_weigh (byte ∷ bytes) all =
    let first : byte ≡ 0 = all 0 (omega arith) in
    let rest = zeros_weigh bytes (λ k below. all (suc k) (omega (arith, below))) in
    omega (arith, first, rest)

ones_weigh : (bytes : List ℕ) → ((k : ℕ) → k < length bytes → get_or bytes k 0 ≡ 255) → suc (weighed bytes) ≡ 256 ^ length bytes
ones_weigh [] all = refl
ones_weigh (byte ∷ bytes) all =
    let first : byte ≡ 255 = all 0 (omega arith) in
    let rest = ones_weigh bytes (λ k below. all (suc k) (omega (arith, below))) in
    let power = pow-suc 256 (length bytes) in
    omega (arith, first, rest, power)

-- the lowest bytes up to one whose top bit is clear, or set
low_weighs : (top : ℕ) (bytes : List ℕ) → AreBytes bytes → top < length bytes → get_or bytes top 0 < 128
    → weighed (take (suc top) bytes) < 128 * 256 ^ top
low_weighs zero [] are within small = absurd (omega (arith, within))
low_weighs zero (byte ∷ bytes) are within small = omega (arith, small)
low_weighs (suc top) [] are within small = absurd (omega (arith, within))
low_weighs (suc top) (byte ∷ bytes) are within small =
    let first : byte < 256 = are 0 0 (omega arith) in
    let rest = low_weighs top bytes (rest_bytes byte bytes are) (omega (arith, within)) small in
    let power = pow-suc 256 top in
    omega (arith, first, rest, power)

high_weighs : (top : ℕ) (bytes : List ℕ) → top < length bytes → 128 ≤ get_or bytes top 0
    → 128 * 256 ^ top ≤ weighed (take (suc top) bytes)
high_weighs zero [] within large = absurd (omega (arith, within))
high_weighs zero (byte ∷ bytes) within large = omega (arith, large)
high_weighs (suc top) [] within large = absurd (omega (arith, within))
high_weighs (suc top) (byte ∷ bytes) within large =
    let rest = high_weighs top bytes (omega (arith, within)) large in
    let power = pow-suc 256 top in
    omega (arith, rest, power)

-- ---- numbers by their bytes, the lowest first

-- each byte from one on is this
abbrev IsAll : ℕ → ℕ → List ℕ → Type 0
IsAll fill size bytes = (k : ℕ) → size ≤ k → k < length bytes → get_or bytes k 0 ≡ fill

behind : (fill size : ℕ) (bytes : List ℕ) → size ≤ length bytes → IsAll fill size bytes
    → (k : ℕ) → k < length (drop size bytes) → get_or (drop size bytes) k 0 ≡ fill
behind fill size bytes room all k below =
    get_or-drop size bytes k 0 ∙ all (size + k) (omega arith) (omega (arith, room, below, length-drop size bytes))

zeros_above : (size : ℕ) (bytes : List ℕ) → size ≤ length bytes → IsAll 0 size bytes → weighed bytes ≡ weighed (take size bytes)
zeros_above size bytes room all =
    let split = weighed_split size bytes room in
    let none = zeros_weigh (drop size bytes) (behind 0 size bytes room all) in
    split ∙ ap (λ (n : ℕ). weighed (take size bytes) + 256 ^ size * n) none ∙ omega arith

ones_above : (size : ℕ) (bytes : List ℕ) → size ≤ length bytes → IsAll 255 size bytes
    → weighed bytes + 256 ^ size ≡ weighed (take size bytes) + 256 ^ length bytes
ones_above size bytes room all =
    let rest = drop size bytes in
    let split = weighed_split size bytes room in
    let ones = ones_weigh rest (behind 255 size bytes room all) in
    let more : size + length rest ≡ length bytes = omega (arith, room, length-drop size bytes) in
    let power : 256 ^ length bytes ≡ 256 ^ size * 256 ^ length rest = ap (λ (n : ℕ). 256 ^ n) (sym more) ∙ pow-add 256 size (length rest) in
    let high : 256 ^ size * suc (weighed rest) ≡ 256 ^ length bytes = ap (λ (n : ℕ). 256 ^ size * n) ones ∙ sym power in
    omega (arith, split, high)

among_low : (top under m : ℕ) → m ≤ top → is_among top under m ≡ true
among_low top under m near = or_left _ _ (le-leb m top near)

among_high : (top under m : ℕ) → under < m → is_among top under m ≡ true
among_high top under m far = or_right _ _ (lt-ltb under m far)

pub zeros_among : (size top under : ℕ) (bytes : List ℕ) → AreBytes bytes → size ≤ length bytes → IsAll 0 size bytes
    → 2 ^ (8 * size) ≤ suc top → is_among top under (weighed bytes) ≡ true
zeros_among size top under bytes are room all wide =
    let low = weighed-lt (take size bytes) (All-take (λ byte. byte < 256) size bytes are) in
    let long : length (take size bytes) ≡ size = omega (arith, room, length-take size bytes) in
    let power : 256 ^ length (take size bytes) ≡ 2 ^ (8 * size) = ap (λ (n : ℕ). 256 ^ n) long ∙ pow256 size in
    let same = zeros_above size bytes room all in
    among_low top under (weighed bytes) (omega (arith, low, power, same, wide))

-- half of what so many bytes hold
half_is : (top : ℕ) → IsTrue (is_width (suc top)) → 2 ^ (8 * suc top - 1) ≡ 128 * 256 ^ top
half_is top allowed =
    let doubled = (width_of (suc top) allowed).half in
    let power = pow256 (suc top) in
    let step = pow-suc 256 top in
    omega (arith, doubled, power, step)

positive_among : (size top under : ℕ) (bytes : List ℕ) → AreBytes bytes → IsTrue (is_width size) → size ≤ length bytes
    → IsAll 0 size bytes → get_or bytes (size - 1) 0 < 128 → 2 ^ (8 * size - 1) ≤ suc top → is_among top under (weighed bytes) ≡ true
positive_among zero top under bytes are allowed room all small wide = absurd (grind (arith, nat_tests))
positive_among (suc size) top under bytes are allowed room all small wide =
    let place : suc size - 1 ≡ size = omega arith in
    let clear : get_or bytes size 0 < 128 = subst (λ (k : ℕ). get_or bytes k 0 < 128) place small in
    let low = low_weighs size bytes are (omega (arith, room)) clear in
    let half = half_is size allowed in
    let same = zeros_above (suc size) bytes room all in
    among_low top under (weighed bytes) (omega (arith, low, half, same, wide))

negative_among : (size top under : ℕ) (bytes : List ℕ) → IsTrue (is_width size) → size ≤ length bytes
    → IsAll 255 size bytes → 128 ≤ get_or bytes (size - 1) 0 → under + 2 ^ (8 * size - 1) < 2 ^ (8 * length bytes)
    → is_among top under (weighed bytes) ≡ true
negative_among zero top under bytes allowed room all large wide = absurd (grind (arith, nat_tests))
negative_among (suc size) top under bytes allowed room all large wide =
    let place : suc size - 1 ≡ size = omega arith in
    let set : 128 ≤ get_or bytes size 0 = subst (λ (k : ℕ). 128 ≤ get_or bytes k 0) place large in
    let low = high_weighs size bytes (omega (arith, room)) set in
    let half = half_is size allowed in
    let step = pow-suc 256 size in
    let power = pow256 (length bytes) in
    let same = ones_above (suc size) bytes room all in
    among_high top under (weighed bytes) (omega (arith, low, half, step, power, same, wide))

signed_among : (size top under : ℕ) (bytes : List ℕ) → AreBytes bytes → IsTrue (is_width size) → size ≤ length bytes
    → IsAll (sign_byte (get_or bytes (size - 1) 0)) size bytes → 2 ^ (8 * size - 1) ≤ suc top
    → under + 2 ^ (8 * size - 1) < 2 ^ (8 * length bytes) → is_among top under (weighed bytes) ≡ true
signed_among size top under bytes are allowed room all wide below = elim (cases_lt (get_or bytes (size - 1) 0) 128) [
  | inl clear ↦
      let none : sign_byte (get_or bytes (size - 1) 0) ≡ 0 = ap (λ (b : Bool). cond b 0 255) (lt-ltb _ 128 clear) in
      positive_among size top under bytes are allowed room (subst (λ (f : ℕ). IsAll f size bytes) none all) clear wide
  | inr set ↦
      let full : sign_byte (get_or bytes (size - 1) 0) ≡ 255 = ap (λ (b : Bool). cond b 0 255) (le-ltb _ 128 set) in
      negative_among size top under bytes allowed room (subst (λ (f : ℕ). IsAll f size bytes) full all) set below
]

-- ---- numbers in a record

-- byte k of a number, the lowest first
byte_low : (order : Order) (bytes : List ℕ) (at offset width k : ℕ) → at + offset + width ≤ length bytes → k < width
    → get_or (low_first order (bytes_at (at + offset) width bytes)) k 0 ≡ get_or bytes (at + place_of order offset width k) 0
byte_low Little bytes at offset width k room below =
    get_or-take width (drop (at + offset) bytes) k 0 below ∙ get_or-drop (at + offset) bytes k 0
    ∙ ap (λ (n : ℕ). get_or bytes n 0) (omega arith)
byte_low Big bytes at offset width k room below =
    let number = bytes_at (at + offset) width bytes in
    let long = length_cut bytes (at + offset) width room in
    let turned : length number - 1 - k ≡ width - 1 - k = omega (arith, long) in
    get_or-reverse number k 0 (omega (arith, long, below)) ∙ ap (λ (n : ℕ). get_or number n 0) turned
    ∙ get_or-take width (drop (at + offset) bytes) (width - 1 - k) 0 (omega (arith, below))
    ∙ get_or-drop (at + offset) bytes (width - 1 - k) 0
    ∙ ap (λ (n : ℕ). get_or bytes n 0) (omega arith)

abbrev low_bytes : Order → Words → ℕ → List ℕ → List ℕ
low_bytes order words at bytes = low_first order (bytes_at (at + words.offset) words.size bytes)

low_long : (order : Order) (words : Words) (at : ℕ) (bytes : List ℕ) → IsInside at bytes words
    → length (low_bytes order words at bytes) ≡ words.size
low_long order words at bytes inside =
    length-low_first order (bytes_at (at + words.offset) words.size bytes) ∙ length_cut bytes (at + words.offset) words.size inside

low_are : (order : Order) (words : Words) (at : ℕ) (bytes : List ℕ) → AreBytes bytes → AreBytes (low_bytes order words at bytes)
low_are order words at bytes are =
    AreBytes-low_first order (bytes_at (at + words.offset) words.size bytes) (AreBytes-cut bytes (at + words.offset) words.size are)

all_low : (order : Order) (words : Words) (fill size at : ℕ) (bytes : List ℕ) → IsInside at bytes words
    → ((k : ℕ) → size ≤ k → k < words.size → slice_index bytes (at + place_of order words.offset words.size k) ≡ fill)
    → IsAll fill size (low_bytes order words at bytes)
all_low order words fill size at bytes inside filled k from below =
    let within : k < words.size = omega (arith, below, low_long order words at bytes inside) in
    byte_low order bytes at words.offset words.size k inside within ∙ filled k from within

pub filled_zeros : (order : Order) (words : Words) (size at : ℕ) (bytes : List ℕ) → AreBytes bytes → IsInside at bytes words
    → size ≤ words.size → 2 ^ (8 * size) ≤ suc words.top → AreAbove order words size None at bytes → IsThere at order bytes words
filled_zeros order words size at bytes are inside less wide above =
    let long = low_long order words at bytes inside in
    zeros_among size words.top words.under (low_bytes order words at bytes) (low_are order words at bytes are) (omega (arith, long, less))
    (all_low order words 0 size at bytes inside above) wide

-- the byte below
byte_below : (order : Order) (words : Words) (size below at : ℕ) (bytes : List ℕ) → IsInside at bytes words → IsTrue (is_width size)
    → size ≤ words.size → below ≡ place_of order words.offset words.size (size - 1)
    → slice_index bytes (at + below) ≡ get_or (low_bytes order words at bytes) (size - 1) 0
byte_below order words size below at bytes inside allowed less is =
    let some : 0 < size = (width_of size allowed).some in
    ap (λ (n : ℕ). slice_index bytes (at + n)) is
    ∙ sym (byte_low order bytes at words.offset words.size (size - 1) inside (omega (arith, some, less)))

pub filled_positive : (order : Order) (words : Words) (size below at : ℕ) (bytes : List ℕ) → AreBytes bytes → IsInside at bytes words
    → IsTrue (is_width size) → size ≤ words.size → below ≡ place_of order words.offset words.size (size - 1)
    → 2 ^ (8 * size - 1) ≤ suc words.top → AreAbove order words size (Some below) at bytes
    → 0 ≡ sign_byte (byte_there at bytes (Some below)) → IsThere at order bytes words
filled_positive order words size below at bytes are inside allowed less is wide above clear =
    let long = low_long order words at bytes inside in
    let same = byte_below order words size below at bytes inside allowed less is in
    let low : slice_index bytes (at + below) < 128 = grind (arith, nat_tests, clear) in
    positive_among size words.top words.under (low_bytes order words at bytes) (low_are order words at bytes are) allowed
    (omega (arith, long, less)) (all_low order words 0 size at bytes inside (λ k from within. above k from within ∙ sym clear))
    (subst (λ (b : ℕ). b < 128) same low) wide

pub filled_signed : (order : Order) (words : Words) (size below at : ℕ) (bytes : List ℕ) → AreBytes bytes → IsInside at bytes words
    → IsTrue (is_width size) → size ≤ words.size → below ≡ place_of order words.offset words.size (size - 1)
    → 2 ^ (8 * size - 1) ≤ suc words.top → words.under + 2 ^ (8 * size - 1) < 2 ^ (8 * words.size)
    → AreAbove order words size (Some below) at bytes → IsThere at order bytes words
filled_signed order words size below at bytes are inside allowed less is wide far above =
    let long = low_long order words at bytes inside in
    let same = byte_below order words size below at bytes inside allowed less is in
    let low = low_bytes order words at bytes in
    signed_among size words.top words.under low (low_are order words at bytes are) allowed (omega (arith, long, less))
    (all_low order words (sign_byte (get_or low (size - 1) 0)) size at bytes inside
    (λ k from within. above k from within ∙ ap sign_byte same))
    wide (subst (λ (n : ℕ). words.under + 2 ^ (8 * size - 1) < 2 ^ (8 * n)) (sym long) far)
