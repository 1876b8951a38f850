-- Reading what stands in the bytes: numbers, pointers, texts, and elements one after another.
use Rattle.std.proofs.Common.{◌≡◌, ◌≢◌, ℕ, zero, suc, ◌+◌, ◌*◌, ◌^◌, ◌≤◌, ◌<◌, ℤ, pos, Bool, false, ◌||◌, not, nat_lt, nat_eq, List, []}
use Rattle.std.proofs.Common.{◌∷◌, ◌++◌, length, drop, Some, option_map, ◌⊎◌, inl, inr, refl, sym, ap, ◌∙◌, subst, arith, append_assoc}
use Rattle.std.proofs.Common.{take-append-drop, IsTrue, if◌then◌else◌}
use Rattle.std.proofs.Math.Dec.{eqb-suc-zero}
use Rattle.std.proofs.Math.Nat.{mod-eq_of_lt}
use Rattle.std.proofs.lemmas.Bool.{le-ltb, lt-ltb}
use Rattle.evp_base.proofs.Numbers.{length-digits, magnitude-digits, number-digits}
use Rattle.evp_base.specs.declared.kind.Kind.{Kind}
use Rattle.evp_base.specs.declared.order.Order.{Order}
use Rattle.evp_base.specs.Numbers.{digits, magnitude, number, is_size_of, InRange}
use Rattle.evp_format.specs.Bytes.{bytes_at, next_block}
use Rattle.evp_format.specs.Datum.{Datum, num, null, text, list, rec, Elements, empty_list, element, count_of}
use Rattle.evp_format.specs.declared.broken.Broken.{Broken}
use Rattle.evp_format.specs.declared.place.PlaceStep.{PlaceStep}
use Rattle.evp_format.specs.Packing.{Piece, Pieces, Machine, pack_text, pack_elements}
use Rattle.evp_format.specs.Text.{HasNoZero}
use Rattle.evp_format.specs.Typed.{EachElement, IsText}
use Rattle.evp_format.specs.Viewing.{Image, Walked, read, then_walk, unless, pointer_at, until_zero, ended_text, view_string, view_elements}
use Rattle.evp_record.proofs.Held.{Holds}
use Rattle.evp_record.proofs.Pieces.{Each}
use Rattle.evp_record.proofs.Placed.{PlacesEach, placed_elements, next_block-behind}

-- the record that a machine reads
abbrev pub image_on : Machine → List ℕ → Image
image_on machine bytes = record { order = machine.order; pointer = machine.pointer; bytes = bytes }

-- a walk that reads this value, with its mark at or before this size
abbrev pub ReadsBack : {A : Type 0} → Walked A → A → ℕ → Type 0
ReadsBack walked value size = (mark : ℕ) × (walked ≡ read value mark) × (mark ≤ size)

pub each_split : (P : Piece → Type 0) (first rest : List Piece) → Each P (first ++ rest) → Each P first × Each P rest
each_split P [] rest each = (tt, each)
each_split P (piece ∷ first) rest each = let others = each_split P first rest each.1 in ((each.0, others.0), others.1)

-- a pointer has 4 or 8 bytes
abbrev pub IsPointer : ℕ → Type 0
IsPointer pointer = (pointer ≡ 4) ⊎ (pointer ≡ 8)

below_pointer : (pointer q : ℕ) → IsPointer pointer → q < 2 ^ 32 → q < 2 ^ (8 * pointer)
below_pointer pointer q (inl four) small = let Below : ℕ → Type 0 = λ p. q < 2 ^ (8 * p) in subst Below (sym four) small
below_pointer pointer q (inr eight) small =
    let Below : ℕ → Type 0 = λ p. q < 2 ^ (8 * p) in
    let wide : q < 2 ^ 64 = omega (arith, small) in
    subst Below (sym eight) wide

-- the digits that stand there
held_digits : (order : Order) (at size : ℕ) (n : ℤ) (bytes : List ℕ) → Holds bytes (record { at = at; bytes = digits order size n })
    → bytes_at at size bytes ≡ digits order size n
held_digits order at size n bytes held = ap (λ (count : ℕ). bytes_at at count bytes) (sym (length-digits order size n)) ∙ held

-- a pointer is read back
pub pointer_reads : (machine : Machine) (at q : ℕ) (bytes : List ℕ) → IsPointer machine.pointer → q < 2 ^ 32
    → Holds bytes (record { at = at; bytes = digits machine.order machine.pointer (pos q) }) → pointer_at (image_on machine bytes) at ≡ q
pointer_reads machine at q bytes pointer small held =
    let below : q < 2 ^ (8 * machine.pointer) = below_pointer machine.pointer q pointer small in
    ap (magnitude machine.order) (held_digits machine.order at machine.pointer (pos q) bytes held)
    ∙ magnitude-digits machine.order machine.pointer (pos q) ∙ mod-eq_of_lt below

-- a number is read back
pub number_reads : (machine : Machine) (kind : Kind) (size at : ℕ) (n : ℤ) (bytes : List ℕ) → IsTrue (is_size_of kind size)
    → InRange kind size n
    → Holds bytes (record { at = at; bytes = digits machine.order size n }) → number machine.order kind (bytes_at at size bytes) ≡ n
number_reads machine kind size at n bytes allowed in_range held =
    ap (number machine.order kind) (held_digits machine.order at size n bytes held)
    ∙ number-digits machine.order kind size n allowed in_range

pub not_zero : (byte : ℕ) → byte ≢ 0 → nat_eq byte 0 ≡ false
not_zero zero some = absurd (some refl)
not_zero (suc n) some = eqb-suc-zero n

-- a text ends at its first zero
until_zero-append : (bytes rest : List ℕ) → HasNoZero bytes → until_zero (bytes ++ 0 ∷ rest) ≡ Some bytes
until_zero-append [] rest none = refl
until_zero-append (byte ∷ bytes) rest none =
    ap (λ (test : Bool). if test then Some [] else option_map (λ (after : List ℕ). byte ∷ after) (until_zero (bytes ++ 0 ∷ rest)))
    (not_zero byte none.0)
    ∙ ap (option_map (λ (after : List ℕ). byte ∷ after)) (until_zero-append bytes rest none.1)

text_reads : (q : ℕ) (text' bytes : List ℕ) → HasNoZero text' → Holds bytes (record { at = q; bytes = text' ++ 0 ∷ [] })
    → until_zero (drop q bytes) ≡ Some text'
text_reads q text' bytes none held =
    let n = length (text' ++ 0 ∷ []) in
    ap until_zero (sym (take-append-drop n (drop q bytes)) ∙ ap (λ (front : List ℕ). front ++ drop n (drop q bytes)) held
    ∙ append_assoc text' (0 ∷ []) (drop n (drop q bytes)))
    ∙ until_zero-append text' (drop n (drop q bytes)) none

-- a walk that isn't stopped
pub goes_on : {A : Type 0} (test : Bool) (fault : Broken) (next : Unit {0} → Walked A) → test ≡ false → unless test fault next ≡ next tt
goes_on test fault next passes = ap (λ (t : Bool). unless t fault next) passes

pub neither : (a b : Bool) → a ≡ false → b ≡ false → (a || b) ≡ false
neither a b first second = ap (λ (t : Bool). t || b) first ∙ second

view_string-some : (machine : Machine) (bytes text' : List ℕ) (place : List PlaceStep) (mark q : ℕ) → 0 < q → mark ≤ q → q < length bytes
    → until_zero (drop q bytes) ≡ Some text'
    → view_string (image_on machine bytes) place mark q ≡ read (text text') (q + length text' + 1)
view_string-some machine bytes text' place mark zero some behind inside found = absurd (omega arith)
view_string-some machine bytes text' place mark (suc p) some behind inside found =
    goes_on (nat_lt (suc p) mark || not (nat_lt (suc p) (length bytes))) _ _
    (neither (nat_lt (suc p) mark) (not (nat_lt (suc p) (length bytes))) (le-ltb (suc p) mark behind)
    (ap not (lt-ltb (suc p) (length bytes) inside)))
    ∙ ap (ended_text place (suc p)) found

-- a string is read back
pub string_reads : (machine : Machine) (bytes : List ℕ) (place : List PlaceStep) (at size mark : ℕ) (datum : Datum)
    → IsPointer machine.pointer → IsText datum → 0 < size → mark ≤ size
    → (pack_text machine at datum size).size ≤ length bytes → length bytes < 2 ^ 32
    → Each (Holds bytes) (pack_text machine at datum size).all
    → ReadsBack (view_string (image_on machine bytes) place mark (pointer_at (image_on machine bytes) at)) datum
    (pack_text machine at datum size).size
string_reads machine bytes place at size mark null pointer typed some behind fits small held =
    let q : pointer_at (image_on machine bytes) at ≡ 0 = pointer_reads machine at 0 bytes pointer (omega (arith, small)) held.0 in
    (mark, ap (view_string (image_on machine bytes) place mark) q, behind)
string_reads machine bytes place at size mark (text text') pointer typed some behind fits small held =
    let q = next_block size in
    let after = next_block-behind size in
    let found : pointer_at (image_on machine bytes) at ≡ q = pointer_reads machine at q bytes pointer (omega (arith, fits, small)) held.0 in (
      q + length text' + 1,
      ap (view_string (image_on machine bytes) place mark) found
          ∙ view_string-some machine bytes text' place mark q (omega (arith, after, some)) (omega (arith, after, behind))
          (omega (arith, fits)) (text_reads q text' bytes typed.0 held.1.0),
      omega arith,
    )
string_reads machine bytes place at size mark (num z) pointer typed some behind fits small held = absurd typed
string_reads machine bytes place at size mark (list elements) pointer typed some behind fits small held = absurd typed
string_reads machine bytes place at size mark (rec entries) pointer typed some behind fits small held = absurd typed

-- how a part that is packed at an offset is read back
abbrev pub ReadsEach : List ℕ → (Datum → Type 0) → ℕ → (ℕ → Datum → ℕ → Pieces) → (ℕ → List PlaceStep → ℕ → Walked Datum) → Type 0
ReadsEach bytes P element_size packs views =
    (offset : ℕ) (place : List PlaceStep) (value : Datum) (size mark : ℕ) → P value → offset + element_size ≤ size → 0 < size → mark ≤ size
    → (packs offset value size).size ≤ length bytes
    → Each (Holds bytes) (packs offset value size).all → ReadsBack (views offset place mark) value (packs offset value size).size

-- goes on behind what was read
pub then_reads : {A B : Type 0} (walked : Walked A) (next : A → ℕ → Walked B) (value : A) (mark : ℕ) → walked ≡ read value mark
    → then_walk walked next ≡ next value mark
then_reads walked next value mark reads = ap (λ w. then_walk w next) reads

-- elements are read back, one after another
pub elements_read : (bytes : List ℕ) (P : Datum → Type 0) (element_size : ℕ) (packs : ℕ → Datum → ℕ → Pieces)
    (views : ℕ → List PlaceStep → ℕ → Walked Datum) → PlacesEach P element_size packs
    → ReadsEach bytes P element_size packs views → (places : ℕ → List PlaceStep) (elements : Elements) (base k size mark : ℕ)
    → EachElement P elements
    → base + (k + count_of elements) * element_size ≤ size → 0 < size → mark ≤ size
    → (pack_elements (λ i. packs (base + i * element_size)) elements k size).size ≤ length bytes
    → Each (Holds bytes) (pack_elements (λ i. packs (base + i * element_size)) elements k size).all
    → ReadsBack (view_elements (λ i after. views (base + i * element_size) (places i) after) (count_of elements) k mark) elements
    (pack_elements (λ i. packs (base + i * element_size)) elements k size).size
elements_read bytes P element_size packs views placed reads places empty_list base k size mark each inside some behind fits held
    = (mark, refl, behind)
elements_read bytes P element_size packs views placed reads places (element datum rest) base k size mark each inside some behind fits held =
    let offset = base + k * element_size in
    let first = packs offset datum size in
    let lies = placed offset datum size each.0 (omega (arith, inside)) in
    let others = placed_elements P element_size packs placed rest base (suc k) first.size each.1 (omega (arith, inside, lies.grows)) in
    let both = each_split (Holds bytes) first.all (pack_elements (λ i. packs (base + i * element_size)) rest (suc k) first.size).all held in
    let one = reads offset (places k) datum size mark each.0 (omega (arith, inside)) some behind (omega (arith, fits, others.grows)) both.0
    in
    let more =
    elements_read bytes P element_size packs views placed reads places rest base (suc k) first.size one.0 each.1
    (omega (arith, inside, lies.grows)) (omega (arith, some, lies.grows)) one.2 fits both.1 in
    let view_rest = λ (after : ℕ). view_elements (λ i after. views (base + i * element_size) (places i) after) (count_of rest) (suc k) after
    in (
      more.0,
      then_reads (views offset (places k) mark) (λ value after. then_walk (view_rest after) (λ rest' end. read (element value rest') end))
          datum one.0 one.1
          ∙ then_reads (view_rest one.0) (λ rest' end. read (element datum rest') end) rest more.0 more.1,
      more.2,
    )
