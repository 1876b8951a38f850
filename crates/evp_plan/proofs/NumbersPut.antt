-- Numbers that stand side by side, put at once.
use Rattle.std.proofs.Common.{◌≡◌, ℕ, zero, suc, ◌+◌, ◌*◌, ◌/◌, ◌<◌, ◌≤◌, List, ◌∷◌, length, take, drop}
use Rattle.std.proofs.Common.{refl, sym, ap, ◌∙◌, subst, arith}
use Rattle.std.specs.List.{flat_map}
use Rattle.std.proofs.Math.Nat.{mul-div_cancel}
use Rattle.std.proofs.lemmas.List.{length-append, length-drop, length-take, drop-drop, drop-take, take-take}
use Rattle.evp_format.specs.Bytes.{bytes_at, put_at}
use Rattle.evp_format.specs.Packing.{Pieces, one_piece, put_pieces}
use Rattle.evp_plan.specs.Moving.{moved_elements}
use Rattle.evp_wide.specs.Groups.{groups, elements}
use Rattle.evp_plan.proofs.PutAt.{put_none, put_long, put_more}

-- ---- groups

pub next_place : (k size : ℕ) → suc k * size ≡ k * size + size
next_place k size = omega arith

pub groups_take : (size count : ℕ) (bytes : List ℕ) → groups size count (take (count * size) bytes) ≡ groups size count bytes
groups_take size zero bytes = refl
groups_take size (suc count) bytes =
    let more : suc count * size ≡ size + count * size = omega arith in
    ap (λ (m : ℕ). take size (take m bytes) ∷ groups size count (drop size (take m bytes))) more
    ∙ ap (λ (l : List ℕ). l ∷ groups size count (drop size (take (size + count * size) bytes)))
    (take-take size (size + count * size) bytes (omega arith))
    ∙ ap (λ (l : List ℕ). take size bytes ∷ groups size count l) (drop-take size (count * size) bytes)
    ∙ ap (λ (l : List (List ℕ)). take size bytes ∷ l) (groups_take size count (drop size bytes))

-- the first n are groups of the whole
pub first_groups : (width n start : ℕ) (bytes : List ℕ) → 0 < width → start + n * width ≤ length bytes
    → elements width (take (n * width) (drop start bytes)) ≡ groups width n (drop start bytes)
first_groups width n start bytes some within =
    let here = drop start bytes in
    let left = length-drop start bytes in
    let taken = length-take (n * width) here in
    let long : length (take (n * width) here) ≡ n * width = omega (arith, left, taken, within) in
    ap (λ (m : ℕ). groups width (m / width) (take (n * width) here)) long
    ∙ ap (λ (m : ℕ). groups width m (take (n * width) here)) (mul-div_cancel n some) ∙ groups_take width n here

pub length-groups : (f : List ℕ → List ℕ) (size width count : ℕ) (bytes : List ℕ) → ((e : List ℕ) → length (f e) ≡ size)
    → length (flat_map f (groups width count bytes)) ≡ count * size
length-groups f size width zero bytes long = omega arith
length-groups f size width (suc count) bytes long =
    let first = long (take width bytes) in
    let rest = length-groups f size width count (drop width bytes) long in
    let both = length-append (f (take width bytes)) (flat_map f (groups width count (drop width bytes))) in
    let more : suc count * size ≡ size + count * size = omega arith in
    omega (arith, first, rest, both, more)

-- ---- pieces

abbrev pub number_piece : (List ℕ → List ℕ) → ℕ → ℕ → ℕ → ℕ → ℕ → List ℕ → ℕ → ℕ → Pieces
number_piece f base size width start stride bytes k later =
    one_piece (base + k * size) (f (bytes_at (start + k * stride) width bytes)) later

pub numbers_size : (f : List ℕ → List ℕ) (base size width start stride : ℕ) (bytes : List ℕ) (n k after : ℕ)
    → after ≡ (moved_elements (λ i later. number_piece f base size width start stride bytes i later) n k after).size
numbers_size f base size width start stride bytes zero k after = refl
numbers_size f base size width start stride bytes (suc n) k after = numbers_size f base size width start stride bytes n (suc k) after

numbers_put : (f : List ℕ → List ℕ) (base size width start : ℕ) (bytes : List ℕ) (n k after : ℕ) (out : List ℕ)
    → ((e : List ℕ) → length (f e) ≡ size) → base + k * size + n * size ≤ length out
    → put_pieces (moved_elements (λ i later. number_piece f base size width start width bytes i later) n k after).all out
    ≡ put_at (base + k * size) (flat_map f (groups width n (drop (start + k * width) bytes))) out
numbers_put f base size width start bytes zero k after out long room = sym (put_none (base + k * size) out)
numbers_put f base size width start bytes (suc n) k after out long room =
    let place = base + k * size in
    let here = drop (start + k * width) bytes in
    let first = f (take width here) in
    let sized = long (take width here) in
    let step = next_place k size in
    let more : suc n * size ≡ size + n * size = omega arith in
    let rest = flat_map f (groups width n (drop width here)) in
    let put = put_at place first out in
    let whole : length put ≡ length out = put_long place first out (omega (arith, room, sized, more)) in
    let from_step = next_place k width in
    let on : start + suc k * width ≡ start + k * width + width = omega (arith, from_step) in
    let behind : drop (start + suc k * width) bytes ≡ drop width here =
    ap (λ (m : ℕ). drop m bytes) on ∙ sym (drop-drop width (start + k * width) bytes) in
    let next : base + suc k * size ≡ place + length first = omega (arith, step, sized) in
    numbers_put f base size width start bytes n (suc k) after put long (omega (arith, room, whole, step, more))
    ∙ ap (λ (l : List ℕ). put_at (base + suc k * size) (flat_map f (groups width n l)) put) behind
    ∙ ap (λ (m : ℕ). put_at m rest put) next ∙ put_more place first rest out (omega (arith, room, sized, more))

-- all numbers of an array, from the first on
pub all_put : (f : List ℕ → List ℕ) (base size width start stride : ℕ) (bytes : List ℕ) (n after : ℕ) (out : List ℕ)
    → ((e : List ℕ) → length (f e) ≡ size) → base + n * size ≤ length out → stride ≡ width
    → put_pieces (moved_elements (λ i later. number_piece f base size width start stride bytes i later) n 0 after).all out
    ≡ put_at base (flat_map f (groups width n (drop start bytes))) out
all_put f base size width start stride bytes n after out long room same =
    let P : ℕ → Type 0 = λ w.
    put_pieces (moved_elements (λ i later. number_piece f base size width start w bytes i later) n 0 after).all out
    ≡ put_at base (flat_map f (groups width n (drop start bytes))) out in
    let none : 0 * size ≡ 0 = omega arith in
    let none_from : 0 * width ≡ 0 = omega arith in
    let first : base + 0 * size ≡ base = omega (arith, none) in
    let begins : start + 0 * width ≡ start = omega (arith, none_from) in
    subst P (sym same)
    (numbers_put f base size width start bytes n 0 after out long (omega (arith, room, first))
    ∙ ap (λ (m : ℕ). put_at m (flat_map f (groups width n (drop (start + 0 * width) bytes))) out) first
    ∙ ap (λ (m : ℕ). put_at base (flat_map f (groups width n (drop m bytes))) out) begins)
