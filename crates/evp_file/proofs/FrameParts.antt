-- Parts of a frame stand in it, and what stands there is read.
use Rattle.std.proofs.Common.{◌≡◌, ℕ, zero, suc, ◌+◌, ◌*◌, ◌^◌, ◌<◌, ◌≤◌, Bool, true, false, cond, List, [], ◌∷◌, ◌++◌, length, drop}
use Rattle.std.proofs.Common.{Some, Result, Ok, Err, IsTrue, refl, sym, ap, subst, ◌∙◌, append_assoc, length-append, arith}
use Rattle.std.specs.Prelude.{nat_lt, slice_get}
use Rattle.std.proofs.lemmas.Bool.{ltb-false, le-ltb}
use Rattle.std.proofs.lemmas.List.{drop_at, length-drop, length-take}
use Rattle.evp_base.specs.declared.order.Order.TheVariants.{Big}
use Rattle.evp_base.specs.Numbers.{magnitude, is_width}
use Rattle.evp_base.proofs.Digits.{AreBytes}
use Rattle.evp_format.specs.declared.layout_fault.LayoutFault.{LayoutFault}
use Rattle.evp_format.specs.declared.layout_fault.LayoutFault.TheVariants.{Short as ShortLayout}
use Rattle.evp_format.specs.Bytes.{bytes_at}
use Rattle.evp_format.specs.Describing.{described_number}
use Rattle.evp_format.specs.Reading.{number_at}
use Rattle.evp_format.proofs.Places.{Stands, stands_cut, cut_stands, number_stands, number_again}
use Rattle.evp_format.proofs.WellLaidTypes.{ok_is as layout_ok_is, not_refused as layout_not_refused}
use Rattle.evp_file.specs.declared.fault.FileFault.{FileFault}
use Rattle.evp_file.specs.declared.fault.FileFault.TheVariants.{Short}
use Rattle.evp_file.specs.Reading.{part, number_part}
use Rattle.evp_file.specs.Steps.{◌>>=◌}
use Rattle.evp_file.proofs.PassedSteps.{bind_ok, not_refused, ok_is}

-- a part that is read is inside the bytes, and is what stands there
pub part_read : (at : ℕ) (bytes : List ℕ) (place size : ℕ) (text : List ℕ) → part at bytes place size ≡ Ok text
    → (place + size ≤ length bytes) × (bytes_at place size bytes ≡ text)
unfolding part
part_read at bytes place size text e =
    let read = not_refused (nat_lt (length bytes) (place + size)) (Short at) (Ok (bytes_at place size bytes)) text e in
    (ltb-false (length bytes) (place + size) read.0, ok_is (bytes_at place size bytes) text read.1)

pub part_stands : (at : ℕ) (bytes : List ℕ) (place size : ℕ) (text : List ℕ) → part at bytes place size ≡ Ok text
    → Stands bytes place text (place + size)
part_stands at bytes place size text e =
    let read = part_read at bytes place size text e in
    subst (λ (t : List ℕ). Stands bytes place t (place + size)) read.1 (stands_cut bytes place size read.0)

pub part_length : (at : ℕ) (bytes : List ℕ) (place size : ℕ) (text : List ℕ) → part at bytes place size ≡ Ok text → length text ≡ size
part_length at bytes place size text e =
    let stands = part_stands at bytes place size text e in
    let next = stands.next_is in
    omega (arith, next)

pub part_again : (at : ℕ) (bytes : List ℕ) (place : ℕ) (text : List ℕ) (next size : ℕ) → Stands bytes place text next → length text ≡ size
    → part at bytes place size ≡ Ok text
unfolding part
part_again at bytes place text next size stands long =
    let end = stands.next_is in
    let inside = stands.within in
    let whole : nat_lt (length bytes) (place + size) ≡ false = le-ltb (length bytes) (place + size) (omega (arith, end, inside, long)) in
    ap (λ (b : Bool). cond b (Err (Short at)) (Ok (bytes_at place size bytes))) whole
    ∙ ap (λ (t : List ℕ). Ok t) (cut_stands bytes place text next size stands long)

-- a number stands there as it is described
pub number_part_stands : (at : ℕ) (bytes : List ℕ) (place size n : ℕ) → IsTrue (is_width size) → AreBytes bytes
    → number_part at bytes place size ≡ Ok n
    → Stands bytes place (described_number size n) (place + size)
unfolding number_part number_at
number_part_stands at bytes place size n wide are e =
    let read = bind_ok (part at bytes place size) (λ (text : List ℕ). Ok (magnitude Big text)) n e in
    let there = part_read at bytes place size read.0 read.1 in
    let value : magnitude Big (bytes_at place size bytes) ≡ n = ap (magnitude Big) there.1 ∙ ok_is (magnitude Big read.0) n read.2 in
    let whole : nat_lt (length bytes) (place + size) ≡ false = le-ltb (length bytes) (place + size) there.0 in
    let pair : ℕ → Result (ℕ × ℕ) LayoutFault = λ n. Ok (n, place + size) in
    let same : number_at size bytes place ≡ Ok (n, place + size) =
    ap (λ (b : Bool). cond b (Err (ShortLayout place)) (pair (magnitude Big (bytes_at place size bytes)))) whole ∙ ap pair value in
    (number_stands size bytes place (n, place + size) wide are same).0

pub number_part_again : (at : ℕ) (bytes : List ℕ) (place size n next : ℕ) → n < 2 ^ (8 * size)
    → Stands bytes place (described_number size n) next → number_part at bytes place size ≡ Ok n
unfolding number_part number_at
number_part_again at bytes place size n next small stands =
    let again = number_again size bytes place n next small stands in
    let made : ℕ × ℕ = (magnitude Big (bytes_at place size bytes), place + size) in
    let read = layout_not_refused (nat_lt (length bytes) (place + size)) (ShortLayout place) (Ok made) (n, next) again in
    let value : magnitude Big (bytes_at place size bytes) ≡ n = ap (λ (m : ℕ × ℕ). m.0) (layout_ok_is made (n, next) read.1) in
    let inside = ltb-false (length bytes) (place + size) read.0 in
    let cut = stands_cut bytes place size inside in
    let long : length (bytes_at place size bytes) ≡ size = (let next = cut.next_is in omega (arith, next)) in
    let text = part_again at bytes place (bytes_at place size bytes) (place + size) size cut long in
    ap (λ (r : Result (List ℕ) FileFault). r >>= λ text. Ok (magnitude Big text)) text ∙ ap (λ (m : ℕ). Ok m) value

-- the first byte stands in front
pub letter_stands : (bytes : List ℕ) (letter : ℕ) → slice_get bytes 0 ≡ Some letter → Stands bytes 0 (letter ∷ []) 1
letter_stands [] letter there = absurd (cc)
letter_stands (first ∷ rest) letter there =
    let same : first ≡ letter = cc in
    record { parts = ap (λ (byte : ℕ). byte ∷ rest) same; next_is = refl; within = omega arith }

-- what the bytes begin with stands in front
pub front_stands : (bytes text rest : List ℕ) → bytes ≡ text ++ rest → Stands bytes 0 text (length text)
front_stands bytes text rest split =
    let behind : drop (length text) bytes ≡ rest = ap (drop (length text)) split ∙ drop_at text rest (length text) refl in
    let long : length bytes ≡ length text + length rest = ap length split ∙ length-append text rest in
    record { parts = split ∙ ap (λ (some : List ℕ). text ++ some) (sym behind); next_is = omega arith; within = omega (arith, long) }
