-- Numbers in another order are their bytes reversed, and in the same order their bytes.
use Rattle.std.proofs.Common.{◌≡◌, ◌≢◌, ℕ, zero, suc, ◌+◌, ◌*◌, ◌/◌, ◌%◌, IsTrue, true, false, List, [], ◌∷◌, ◌++◌, length}
use Rattle.std.proofs.Common.{take, drop, get_or, reverse, refl, sym, ap, ◌∙◌, subst, arith, ◌<◌}
use denote.Enum.Bare.{sameb}
use Rattle.evp_base.specs.contracts.order.Order.{the_type}
use Rattle.std.specs.List.{flat_map}
use Rattle.std.proofs.Math.Nat.{mod-eq-sub-div-mul, div-mul-le_self}
use Rattle.std.proofs.lemmas.List.Elements.{All-nil, All-cons, All-take, All-drop}
use Rattle.std.proofs.lemmas.List.{length-reverse, reverse-reverse, length-drop, take-append-drop}
use Rattle.std.proofs.lemmas.Bool.Decides.{nat_tests}
use Rattle.evp_base.specs.Numbers.{number, digits, is_size_of, is_width}
use Rattle.evp_base.specs.declared.kind.Kind.{Kind}
use Rattle.evp_base.specs.declared.kind.Kind.TheVariants.{Int, Unsigned, Char, Boolean, Enumeration}
use Rattle.evp_base.specs.declared.order.Order.{Order}
use Rattle.evp_base.specs.declared.order.Order.TheVariants.{Little, Big}
use Rattle.evp_base.proofs.Digits.{AreBytes, AreBytes-reverse}
use Rattle.evp_base.proofs.Numbers.{digits-number}
use Rattle.evp_wide.specs.Elements.{swapped, AreReordered}
use Rattle.evp_wide.specs.Groups.{groups, elements}
use Rattle.evp_wide.proofs.Blocks.{same_groups}

pub slice_bytes : (bytes : List ℕ) → ((k : ℕ) → get_or bytes k 0 < 256) → AreBytes bytes
slice_bytes [] each = All-nil (λ byte. byte < 256)
slice_bytes (byte ∷ bytes) each = All-cons (λ byte. byte < 256) byte bytes (each 0) (slice_bytes bytes (λ k. each (suc k)))

-- ---- one number

same_order : (order : Order) (kind : Kind) (size : ℕ) (bytes : List ℕ) → kind ≢ Boolean → IsTrue (is_size_of kind size)
    → length bytes ≡ size → AreBytes bytes → digits order size (number order kind bytes) ≡ bytes
same_order order kind size bytes other allowed long are =
    let Allowed : ℕ → Type 0 = λ n. IsTrue (is_size_of kind n) in
    ap (λ (n : ℕ). digits order n (number order kind bytes)) (sym long)
    ∙ digits-number order kind bytes other (subst Allowed (sym long) allowed) are

-- the number of bytes in one order is that of the reversed bytes in the other
number-reverse : (kind : Kind) (bytes : List ℕ) → number Little kind bytes ≡ number Big kind (reverse bytes)
number-reverse Int bytes = rw (length-reverse bytes, reverse-reverse bytes) refl
number-reverse Unsigned bytes = rw (reverse-reverse bytes) refl
number-reverse Char bytes = rw (reverse-reverse bytes) refl
number-reverse Boolean bytes = rw (reverse-reverse bytes) refl
number-reverse Enumeration bytes = rw (length-reverse bytes, reverse-reverse bytes) refl

number-reversed : (kind : Kind) (bytes : List ℕ) → number Big kind bytes ≡ number Little kind (reverse bytes)
number-reversed kind bytes = ap (number Big kind) (sym (reverse-reverse bytes)) ∙ sym (number-reverse kind (reverse bytes))

other_order : (out_order order : Order) (kind : Kind) (size : ℕ) (bytes : List ℕ) → out_order ≢ order → kind ≢ Boolean
    → IsTrue (is_size_of kind size) → length bytes ≡ size → AreBytes bytes
    → digits out_order size (number order kind bytes) ≡ reverse bytes
other_order Little Little kind size bytes differ other allowed long are = absurd (differ refl)
other_order Big Big kind size bytes differ other allowed long are = absurd (differ refl)
other_order Big Little kind size bytes differ other allowed long are =
    ap (digits Big size) (number-reverse kind bytes)
    ∙ same_order Big kind size (reverse bytes) other allowed (length-reverse bytes ∙ long) (AreBytes-reverse bytes are)
other_order Little Big kind size bytes differ other allowed long are =
    ap (digits Little size) (number-reversed kind bytes)
    ∙ same_order Little kind size (reverse bytes) other allowed (length-reverse bytes ∙ long) (AreBytes-reverse bytes are)

-- ---- all numbers

flat_groups : (size count : ℕ) (bytes : List ℕ) → length bytes ≡ count * size → flat_map (λ e. e) (groups size count bytes) ≡ bytes
flat_groups size zero [] long = refl
flat_groups size zero (byte ∷ bytes) long = absurd (omega (arith, long))
flat_groups size (suc count) bytes long =
    let more : suc count * size ≡ size + count * size = omega arith in
    let left = length-drop size bytes in
    ap (λ (l : List ℕ). take size bytes ++ l) (flat_groups size count (drop size bytes) (omega (arith, long, more, left)))
    ∙ take-append-drop size bytes

whole_count : (length size : ℕ) → length % size ≡ 0 → length ≡ length / size * size
whole_count length size whole = let parts = mod-eq-sub-div-mul length size in let less = div-mul-le_self length size in omega
    (arith, parts, less, whole)

by_groups : (f g : List ℕ → List ℕ) (size : ℕ) (bytes : List ℕ) → length bytes % size ≡ 0 → AreBytes bytes
    → ((e : List ℕ) → length e ≡ size → AreBytes e → f e ≡ g e) → flat_map f (elements size bytes) ≡ flat_map g (elements size bytes)
by_groups f g size bytes whole are same =
    let count = whole_count (length bytes) size whole in
    same_groups AreBytes f g size (length bytes / size) bytes (λ n l p. All-take (λ byte. byte < 256) n l p)
    (λ n l p. All-drop (λ byte. byte < 256) n l p) same (omega (arith, count)) are

-- bytes that stay
pub copied : (out_order order : Order) (size : ℕ) (from out : List ℕ) → out_order ≡ order → length from % size ≡ 0 → AreBytes from
    → out ≡ from → AreReordered out_order order size from out
copied out_order order size from out same whole are is kind other allowed =
    let count = whole_count (length from) size whole in
    let one : (e : List ℕ) → length e ≡ size → AreBytes e → digits out_order size (number order kind e) ≡ e =
    λ e long bytes. ap (λ (o : Order). digits o size (number order kind e)) same ∙ same_order order kind size e other allowed long bytes in
    is ∙ sym (flat_groups size (length from / size) from count)
    ∙ sym (by_groups (λ e. digits out_order size (number order kind e)) (λ e. e) size from whole are one)

-- bytes that are turned
pub turned_over : (out_order order : Order) (size : ℕ) (from out : List ℕ) → out_order ≢ order → length from % size ≡ 0 → AreBytes from
    → out ≡ swapped size from → AreReordered out_order order size from out
turned_over out_order order size from out differ whole are is kind other allowed =
    is ∙ sym (by_groups (λ e. digits out_order size (number order kind e)) reverse size from whole are
    (λ e long bytes. other_order out_order order kind size e differ other allowed long bytes))

one_turned : (bytes : List ℕ) → length bytes ≡ 1 → reverse bytes ≡ bytes
one_turned (a ∷ []) long = refl
one_turned bytes long = absurd (omega (arith, long))

single_swap : (from : List ℕ) → AreBytes from → from ≡ swapped 1 from
single_swap from are =
    let count = whole_count (length from) 1 (omega arith) in
    sym (flat_groups 1 (length from / 1) from count)
    ∙ sym (by_groups reverse (λ e. e) 1 from (omega arith) are (λ e long bytes. one_turned e long))

-- single bytes have no order
pub single : (out_order order : Order) (from out : List ℕ) → AreBytes from → out ≡ from → AreReordered out_order order 1 from out
single Little Little from out are is = copied Little Little 1 from out refl (omega arith) are is
single Big Big from out are is = copied Big Big 1 from out refl (omega arith) are is
single Little Big from out are is = turned_over Little Big 1 from out (λ same. cc) (omega arith) are (is ∙ single_swap from are)
single Big Little from out are is = turned_over Big Little 1 from out (λ same. cc) (omega arith) are (is ∙ single_swap from are)

pub single_as : (out_order order : Order) (size : ℕ) (from out : List ℕ) → size ≡ 1 → AreBytes from → out ≡ from
    → AreReordered out_order order size from out
single_as out_order order size from out one are is =
    subst (λ (n : ℕ). AreReordered out_order order n from out) (sym one) (single out_order order from out are is)

pub turned_as : (out_order order : Order) (size n : ℕ) (from out : List ℕ) → size ≡ n → out_order ≢ order → length from % size ≡ 0
    → AreBytes from → out ≡ swapped n from → AreReordered out_order order size from out
turned_as out_order order size n from out same differ whole are is =
    turned_over out_order order size from out differ whole are (is ∙ ap (λ (m : ℕ). swapped m from) (sym same))

pub eight : (size : ℕ) → IsTrue (is_width size) → size ≢ 1 → size ≢ 2 → size ≢ 4 → size ≡ 8
eight size width one two four = grind (arith, nat_tests)

-- ---- the test of two orders

pub order_is : (one other : Order) → true ≡ sameb the_type one other → one ≡ other
order_is Little Little same = refl
order_is Big Big same = refl
order_is Little Big same = cc
order_is Big Little same = cc

pub order_other : (one other : Order) → false ≡ sameb the_type one other → one ≢ other
order_other Little Little same is = cc
order_other Big Big same is = cc
order_other Little Big same is = cc
order_other Big Little same is = cc
