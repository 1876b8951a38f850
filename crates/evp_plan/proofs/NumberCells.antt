-- The cells of a number make its bytes.
use Rattle.std.proofs.Common.{◌≡◌, ◌≢◌, ℕ, zero, suc, ◌+◌, ◌-◌, ◌*◌, ◌/◌, ◌%◌, ◌^◌, ◌<◌, ◌≤◌, pos, negsuc, ◌-ℤ◌, List, [], ◌∷◌, ◌++◌}
use Rattle.std.proofs.Common.{length, take, drop, map, reverse, refl, sym, ap, ◌∙◌, subst, inl, inr}
use Rattle.std.proofs.Common.{arith, length-take, length-drop}
use Rattle.std.specs.Prelude.{slice_index}
use Rattle.std.proofs.Math.Nat.{mod-lt, pow-suc, one-le-pow}
use Rattle.std.proofs.Math.Arith.{mod-mul}
use Rattle.std.proofs.lemmas.List.Elements.{All-nil, All-cons, All-take, All-drop}
use Rattle.std.proofs.lemmas.List.{map-append}
use Rattle.std.proofs.lemmas.Grind.{reverse_onto}
use Rattle.evp_format.specs.Bytes.{bytes_at}
use Rattle.std.proofs.Math.Seq.{drop-cons}
use Rattle.std.proofs.lemmas.Bool.{cases_lt, lt-ltb, le-ltb}
use Rattle.std.proofs.lemmas.Bool.Decides.{nat_tests}
use Rattle.std.proofs.lemmas.Int.{ints}
use Rattle.byteorder.proofs.Bytes.{pow256}
use Rattle.evp_base.specs.declared.kind.Kind.{Kind}
use Rattle.evp_base.specs.declared.kind.Kind.TheVariants.{Int, Unsigned, Char, Boolean, Enumeration}
use Rattle.evp_base.specs.declared.order.Order.{Order}
use Rattle.evp_base.specs.declared.order.Order.TheVariants.{Little, Big}
use Rattle.evp_base.specs.Numbers.{number, digits, residue, weighed, low_first, low_digits, twos_complement}
use Rattle.evp_base.proofs.Digits.{AreBytes, AreBytes-low_first, length-low_first, weighed-lt}
use Rattle.evp_plan.specs.declared.cell.Cell.{Cell}
use Rattle.evp_plan.specs.declared.cell.Cell.TheVariants.{Byte}
use Rattle.evp_plan.specs.Cells.{sign_byte, cell_value, bytes_from, turned, resized, top_offset, filling, number_cells, constants}
use Rattle.evp_plan.proofs.Painting.{Makes}

-- ---- digits of sums of weights

first_byte : (byte : ℕ) (bytes : List ℕ) → AreBytes (byte ∷ bytes) → byte < 256
first_byte byte bytes are = are 0 0 (omega arith)

other_bytes : (byte : ℕ) (bytes : List ℕ) → AreBytes (byte ∷ bytes) → AreBytes bytes
other_bytes byte bytes are = λ k d below. are (suc k) d (omega arith)

pub low_digits-resized : (size : ℕ) (bytes : List ℕ) → AreBytes bytes → low_digits size (weighed bytes) ≡ resized size 0 bytes
low_digits-resized zero bytes are = refl
low_digits-resized (suc size) [] are = ap (λ (l : List ℕ). 0 ∷ l) (low_digits-resized size [] are)
low_digits-resized (suc size) (byte ∷ bytes) are =
    let first = first_byte byte bytes are in
    let digit : (byte + 256 * weighed bytes) % 256 ≡ byte = omega arith in
    let front : (byte + 256 * weighed bytes) / 256 ≡ weighed bytes = omega arith in
    rw (digit, front, low_digits-resized size bytes (other_bytes byte bytes are)) refl

-- the two low digits of a number, to the bases 256 and p
mod_split : (n p q : ℕ) → 0 < p → q ≡ p * 256 → n % q ≡ (n / 256 % p) * 256 + n % 256
mod_split n p q some is = ap (λ (m : ℕ). n % m) is ∙ mod-mul n {m = p} {c = 256} some (omega arith)

-- digits of the residue are those of the number
pub low_digits-mod : (size n : ℕ) → low_digits size (n % 256 ^ size) ≡ low_digits size n
low_digits-mod zero n = refl
low_digits-mod (suc size) n =
    let whole = pow-suc 256 size in
    let some : 0 < 256 ^ size = one-le-pow size 256 (omega arith) in
    let split : n % 256 ^ suc size ≡ (n / 256 % 256 ^ size) * 256 + n % 256 = mod_split n (256 ^ size) (256 ^ suc size) some
    (omega (arith, whole)) in
    let digit : ((n / 256 % 256 ^ size) * 256 + n % 256) % 256 ≡ n % 256 = omega arith in
    let front : ((n / 256 % 256 ^ size) * 256 + n % 256) / 256 ≡ n / 256 % 256 ^ size = omega arith in
    rw (split, digit, front, low_digits-mod size (n / 256)) refl

-- the complement's digits
abbrev pub complement : ℕ → ℕ
complement byte = 255 - byte

low_digits-complement : (size n : ℕ) → low_digits size (256 ^ size - 1 - n % 256 ^ size) ≡ map complement (low_digits size n)
low_digits-complement zero n = refl
low_digits-complement (suc size) n =
    let whole = pow-suc 256 size in
    let some : 0 < 256 ^ size = one-le-pow size 256 (omega arith) in
    let split : n % 256 ^ suc size ≡ (n / 256 % 256 ^ size) * 256 + n % 256 = mod_split n (256 ^ size) (256 ^ suc size) some
    (omega (arith, whole)) in
    let low : n / 256 % 256 ^ size < 256 ^ size = mod-lt (n / 256) {m = 256 ^ size} some in
    let is : 256 ^ suc size - 1 - n % 256 ^ suc size ≡ (256 ^ size - 1 - n / 256 % 256 ^ size) * 256 + (255 - n % 256) = omega
    (arith, whole, split, low) in
    let digit : ((256 ^ size - 1 - n / 256 % 256 ^ size) * 256 + (255 - n % 256)) % 256 ≡ 255 - n % 256 = omega arith in
    let front : ((256 ^ size - 1 - n / 256 % 256 ^ size) * 256 + (255 - n % 256)) / 256
    ≡ 256 ^ size - 1 - n / 256 % 256 ^ size = omega arith in
    rw (is, digit, front, low_digits-complement size (n / 256)) refl

AreBytes-complement : (bytes : List ℕ) → AreBytes (map complement bytes)
AreBytes-complement [] = All-nil (λ byte. byte < 256)
AreBytes-complement (byte ∷ bytes) = All-cons (λ b. b < 256) (complement byte) (map complement bytes) (omega arith)
    (AreBytes-complement bytes)

weighed-complement : (bytes : List ℕ) → AreBytes bytes → weighed (map complement bytes) ≡ 256 ^ length bytes - 1 - weighed bytes
weighed-complement [] are = refl
weighed-complement (byte ∷ bytes) are =
    let first = first_byte byte bytes are in
    let whole = pow-suc 256 (length bytes) in
    let below = weighed-lt bytes (other_bytes byte bytes are) in
    let rest = weighed-complement bytes (other_bytes byte bytes are) in
    omega (arith, first, whole, below, rest)

complement-resized : (size : ℕ) (bytes : List ℕ) → AreBytes bytes
    → map complement (resized size 0 (map complement bytes)) ≡ resized size 255 bytes
complement-resized zero bytes are = refl
complement-resized (suc size) [] are = ap (λ (l : List ℕ). 255 ∷ l) (complement-resized size [] are)
complement-resized (suc size) (byte ∷ bytes) are =
    let first = first_byte byte bytes are in
    let same : 255 - (255 - byte) ≡ byte = omega (arith, first) in
    ap (λ (b : ℕ). b ∷ map complement (resized size 0 (map complement bytes))) same
    ∙ ap (λ (l : List ℕ). byte ∷ l) (complement-resized size bytes (other_bytes byte bytes are))

-- ---- signs

-- the last byte
abbrev pub top : List ℕ → ℕ
top [] = 0
top (byte ∷ []) = byte
top (byte ∷ (next ∷ bytes)) = top (next ∷ bytes)

low_top : (byte : ℕ) (bytes : List ℕ) → AreBytes (byte ∷ bytes) → 2 * weighed (byte ∷ bytes) < 256 ^ length (byte ∷ bytes)
    → top (byte ∷ bytes) < 128
low_top byte [] are small =
    let is : top (byte ∷ []) ≡ byte = refl in
    let sum : weighed (byte ∷ []) ≡ byte + 256 * 0 = refl in
    let power : 256 ^ length (byte ∷ []) ≡ 256 = refl in
    omega (arith, small, is, sum, power)
low_top byte (next ∷ bytes) are small =
    let first = first_byte byte (next ∷ bytes) are in
    let whole = pow-suc 256 (length (next ∷ bytes)) in
    low_top next bytes (other_bytes byte (next ∷ bytes) are) (omega (arith, first, whole, small))

high_top : (byte : ℕ) (bytes : List ℕ) → AreBytes (byte ∷ bytes) → 256 ^ length (byte ∷ bytes) ≤ 2 * weighed (byte ∷ bytes)
    → 128 ≤ top (byte ∷ bytes)
high_top byte [] are large =
    let is : top (byte ∷ []) ≡ byte = refl in
    let sum : weighed (byte ∷ []) ≡ byte + 256 * 0 = refl in
    let power : 256 ^ length (byte ∷ []) ≡ 256 = refl in
    omega (arith, large, is, sum, power)
high_top byte (next ∷ bytes) are large =
    let first = first_byte byte (next ∷ bytes) are in
    let whole = pow-suc 256 (length (next ∷ bytes)) in
    let even = pow-suc 256 (length bytes) in
    high_top next bytes (other_bytes byte (next ∷ bytes) are) (omega (arith, first, whole, even, large))

signed_digits : (size byte : ℕ) (bytes : List ℕ) → AreBytes (byte ∷ bytes)
    → low_digits size (residue (twos_complement (length (byte ∷ bytes)) (weighed (byte ∷ bytes))) (2 ^ (8 * size)))
    ≡ resized size (sign_byte (top (byte ∷ bytes))) (byte ∷ bytes)
signed_digits size byte bytes are =
    let all = byte ∷ bytes in
    let m = weighed all in
    let power : 2 ^ (8 * length all) ≡ 256 ^ length all = sym (pow256 (length all)) in
    let modulus : 2 ^ (8 * size) ≡ 256 ^ size = sym (pow256 size) in
    elim (cases_lt (2 * m) (2 ^ (8 * length all))) [
      | inl less ↦
          let low = low_top byte bytes are (omega (arith, less, power)) in
          let none : sign_byte (top all) ≡ 0 = grind (arith, nat_tests) in
          rw (lt-ltb (2 * m) (2 ^ (8 * length all)) less, modulus, none) (low_digits-mod size m ∙ low_digits-resized size all are)
      | inr more ↦
          let high = high_top byte bytes are (omega (arith, more, power)) in
          let full : sign_byte (top all) ≡ 255 = grind (arith, nat_tests) in
          let below = weighed-lt all are in
          let k : ℕ = 256 ^ length all - 1 - m in
          let negative : (pos m -ℤ pos (2 ^ (8 * length all))) ≡ negsuc k = omega (arith, ints, power, below) in
          let k_is : k ≡ weighed (map complement all) = sym (weighed-complement all are) in
          rw (le-ltb (2 * m) (2 ^ (8 * length all)) more, negative, modulus, full)
          (low_digits-complement size k ∙ ap (λ (n : ℕ). map complement (low_digits size n)) k_is
          ∙ ap (map complement) (low_digits-resized size (map complement all) (AreBytes-complement all)) ∙ complement-resized size all are)
    ]

-- ---- what cells make

-- the byte that a cell makes, where `old` stood
abbrev made_by : List ℕ → ℕ → ℕ → Cell → ℕ
made_by from at old cell = cell_value from at cell old

pub all_make : (from : List ℕ) (at : ℕ) (cells : List Cell) (bytes : List ℕ) → ((old : ℕ) → map (made_by from at old) cells ≡ bytes)
    → Makes from at cells bytes
all_make from at [] [] same = tt
all_make from at [] (byte ∷ bytes) same = cc (same 0)
all_make from at (cell ∷ cells) [] same = cc (same 0)
all_make from at (cell ∷ cells) (byte ∷ bytes) same =
    (λ old. (let s = same old in cc), all_make from at cells bytes (λ old. (let s = same old in cc)))

map_reverse : (f : Cell → ℕ) (cells : List Cell) → map f (reverse cells) ≡ reverse (map f cells)
map_reverse f [] = refl
map_reverse f (cell ∷ cells) =
    ap (map f) (reverse_onto cells cell []) ∙ map-append f (reverse cells) (cell ∷ [])
    ∙ ap (λ (l : List ℕ). l ++ f cell ∷ []) (map_reverse f cells)
    ∙ sym (reverse_onto (map f cells) (f cell) [])

map-turned : (order : Order) (f : Cell → ℕ) (cells : List Cell) → map f (turned order cells) ≡ turned order (map f cells)
map-turned Little f cells = refl
map-turned Big f cells = map_reverse f cells

turned-bytes : (order : Order) (bytes : List ℕ) → turned order bytes ≡ low_first order bytes
turned-bytes Little bytes = refl
turned-bytes Big bytes = refl

map-resized : (f : Cell → ℕ) (size : ℕ) (more : Cell) (cells : List Cell)
    → map f (resized size more cells) ≡ resized size (f more) (map f cells)
map-resized f zero more cells = refl
map-resized f (suc size) more [] = ap (λ (l : List ℕ). f more ∷ l) (map-resized f size more [])
map-resized f (suc size) more (cell ∷ cells) = ap (λ (l : List ℕ). f cell ∷ l) (map-resized f size more cells)

-- the bytes from an offset on
map-bytes_from : (from : List ℕ) (at old offset width : ℕ) → at + offset + width ≤ length from
    → map (made_by from at old) (bytes_from offset width) ≡ take width (drop (at + offset) from)
map-bytes_from from at old offset zero room = refl
map-bytes_from from at old offset (suc width) room =
    let here = drop-cons from (at + offset) 0 (omega (arith, room)) in
    let next : suc (at + offset) ≡ at + suc offset = omega arith in
    ap (λ (l : List ℕ). slice_index from (at + offset) ∷ l) (map-bytes_from from at old (suc offset) width (omega (arith, room)))
    ∙ ap (λ (n : ℕ). slice_index from (at + offset) ∷ take width (drop n from)) (sym next) ∙ ap (take (suc width)) (sym here)

top-push : (bytes : List ℕ) (byte : ℕ) → top (bytes ++ byte ∷ []) ≡ byte
top-push [] byte = refl
top-push (first ∷ []) byte = refl
top-push (first ∷ (next ∷ bytes)) byte = top-push (next ∷ bytes) byte

top-cells : (from : List ℕ) (at old offset width : ℕ) → top (map (made_by from at old) (bytes_from offset (suc width)))
    ≡ slice_index from (at + (offset + width))
top-cells from at old offset zero = let none : offset + 0 ≡ offset = omega arith in ap (λ (n : ℕ). slice_index from (at + n)) (sym none)
top-cells from at old offset (suc width) =
    let next : suc offset + width ≡ offset + suc width = omega arith in
    top-cells from at old (suc offset) width ∙ ap (λ (n : ℕ). slice_index from (at + n)) next

-- the top byte of a number, low first, is the one at its top's offset
top_is : (order : Order) (from : List ℕ) (at old offset width : ℕ) → 1 ≤ width
    → top (low_first order (map (made_by from at old) (bytes_from offset width))) ≡ slice_index from (at + top_offset order offset width)
top_is order from at old offset zero some = absurd (omega arith)
top_is Little from at old offset (suc width) some =
    let place : offset + width ≡ offset + suc width - 1 = omega arith in
    top-cells from at old offset width ∙ ap (λ (n : ℕ). slice_index from (at + n)) place
top_is Big from at old offset (suc width) some =
    let f = made_by from at old in
    ap top (reverse_onto (map f (bytes_from (suc offset) width)) (f (Byte offset)) [])
    ∙ top-push (reverse (map f (bytes_from (suc offset) width))) (f (Byte offset))

signed_low : (size width : ℕ) (low : List ℕ) → length low ≡ width → 1 ≤ width → AreBytes low
    → low_digits size (residue (twos_complement width (weighed low)) (2 ^ (8 * size))) ≡ resized size (sign_byte (top low)) low
signed_low size width [] long some are = absurd (omega (arith, long, some))
signed_low size width (byte ∷ bytes) long some are =
    let P : ℕ → Type 0 = λ w. low_digits size (residue (twos_complement w (weighed (byte ∷ bytes))) (2 ^ (8 * size)))
    ≡ resized size (sign_byte (top (byte ∷ bytes))) (byte ∷ bytes) in
    subst P long (signed_digits size byte bytes are)

unsigned_low : (size : ℕ) (low : List ℕ) → AreBytes low → low_digits size (residue (pos (weighed low)) (2 ^ (8 * size)))
    ≡ resized size 0 low
unsigned_low size low are =
    ap (λ (m : ℕ). low_digits size (weighed low % m)) (sym (pow256 size)) ∙ low_digits-mod size (weighed low)
    ∙ low_digits-resized size low are

-- what fills up a number, and its digits, low first
low_number : (from_order : Order) (kind : Kind) (from : List ℕ) (at old offset width size : ℕ) (bytes : List ℕ) → kind ≢ Boolean → 1 ≤ width
    → AreBytes bytes → length bytes ≡ width
    → bytes ≡ map (made_by from at old) (bytes_from offset width)
    → low_digits size (residue (number from_order kind bytes) (2 ^ (8 * size)))
    ≡ resized size (made_by from at old (filling kind (top_offset from_order offset width))) (low_first from_order bytes)
low_number from_order Int from at old offset width size bytes other some are long is =
    let low = low_first from_order bytes in
    let t = ap (λ (l : List ℕ). top (low_first from_order l)) is ∙ top_is from_order from at old offset width some in
    signed_low size (length bytes) low (length-low_first from_order bytes) (omega (arith, long, some))
    (AreBytes-low_first from_order bytes are)
    ∙ ap (λ (b : ℕ). resized size (sign_byte b) low) t
low_number from_order Enumeration from at old offset width size bytes other some are long is =
    let low = low_first from_order bytes in
    let t = ap (λ (l : List ℕ). top (low_first from_order l)) is ∙ top_is from_order from at old offset width some in
    signed_low size (length bytes) low (length-low_first from_order bytes) (omega (arith, long, some))
    (AreBytes-low_first from_order bytes are)
    ∙ ap (λ (b : ℕ). resized size (sign_byte b) low) t
low_number from_order Unsigned from at old offset width size bytes other some are long is = unsigned_low size (low_first from_order bytes)
    (AreBytes-low_first from_order bytes are)
low_number from_order Char from at old offset width size bytes other some are long is = unsigned_low size (low_first from_order bytes)
    (AreBytes-low_first from_order bytes are)
low_number from_order Boolean from at old offset width size bytes other some are long is = absurd (other refl)

AreBytes-at : (from : List ℕ) (n width : ℕ) → AreBytes from → AreBytes (bytes_at n width from)
AreBytes-at from n width are = All-take (λ byte. byte < 256) width (drop n from) (All-drop (λ byte. byte < 256) n from are)

-- the cells of a number make its digits
pub number_made : (order from_order : Order) (kind : Kind) (from : List ℕ) (at offset width size : ℕ) → kind ≢ Boolean → 1 ≤ width
    → AreBytes from → at + offset + width ≤ length from
    → Makes from at (number_cells order size from_order kind offset width)
    (digits order size (number from_order kind (bytes_at (at + offset) width from)))
number_made order from_order kind from at offset width size other some are room =
    let bytes = bytes_at (at + offset) width from in
    let long : length bytes ≡ width = omega (arith, room, length-take width (drop (at + offset) from), length-drop (at + offset) from) in
    all_make from at (number_cells order size from_order kind offset width) (digits order size (number from_order kind bytes))
    (λ old.
    (let f = made_by from at old in
    let fill = filling kind (top_offset from_order offset width) in
    let low = turned from_order (bytes_from offset width) in
    let is : map f (bytes_from offset width) ≡ bytes = map-bytes_from from at old offset width room in
    map-turned order f (resized size fill low) ∙ ap (turned order) (map-resized f size fill low)
    ∙ ap (λ (l : List ℕ). turned order (resized size (f fill) l))
    (map-turned from_order f (bytes_from offset width) ∙ turned-bytes from_order (map f (bytes_from offset width))
    ∙ ap (low_first from_order) is)
    ∙ ap (turned order)
    (sym (low_number from_order kind from at old offset width size bytes other some (AreBytes-at from (at + offset) width are) long
    (sym is)))
    ∙ turned-bytes order (low_digits size (residue (number from_order kind bytes) (2 ^ (8 * size))))))

-- stated bytes make themselves
pub constants_made : (from : List ℕ) (at : ℕ) (bytes : List ℕ) → Makes from at (constants bytes) bytes
constants_made from at [] = tt
constants_made from at (byte ∷ bytes) = (λ old. refl, constants_made from at bytes)
