-- What stands from one offset to another.
use Rattle.std.proofs.Common.{◌≡◌, ℕ, ◌+◌, ◌-◌, ◌*◌, ◌^◌, ◌<◌, ◌≤◌, ℤ, pos, ◌-ℤ◌, ◌≤ℤ◌, Bool, false, cond, List, [], ◌++◌, length, take}
use Rattle.std.proofs.Common.{drop, Result, Ok, Err, IsTrue, refl, sym, ap, subst, ◌∙◌, append_assoc, arith}
use Rattle.std.specs.Prelude.{nat_lt}
use Rattle.std.proofs.Math.Nat.{mod-eq_of_lt}
use Rattle.std.proofs.lemmas.Bool.{ltb-false, le-ltb}
use Rattle.std.proofs.lemmas.List.{take_at, drop_at, take-append-drop, drop-drop, length-append, length-take, length-drop}
use Rattle.std.proofs.lemmas.List.Elements.{All-take, All-drop}
use Rattle.evp_base.specs.declared.kind.Kind.TheVariants.{Unsigned}
use Rattle.evp_base.specs.declared.order.Order.TheVariants.{Big}
use Rattle.evp_base.specs.Numbers.{digits, magnitude, twos_complement, low_digits, low_first, is_width, is_size_of}
use Rattle.evp_base.proofs.Complement.{residue-signed, signed-residue}
use Rattle.evp_base.proofs.Digits.{AreBytes, AreBytes-low_first, low_first-low_first, length-low_first, low_digits-weighed, magnitude-lt}
use Rattle.evp_base.proofs.Numbers.{length-digits, magnitude-digits, digits-number}
use Rattle.evp_format.specs.declared.layout_fault.LayoutFault.{LayoutFault}
use Rattle.evp_format.specs.declared.layout_fault.LayoutFault.TheVariants.{Short}
use Rattle.evp_format.specs.Bytes.{bytes_at}
use Rattle.evp_format.specs.Describing.{described_number, described_text}
use Rattle.evp_format.specs.Steps.{◌>>=◌}
use Rattle.evp_format.specs.Reading.{number_at, signed_at, text_behind, text_at}
use Rattle.evp_format.proofs.WellLaidTypes.{bind_ok, not_refused, ok_is}

-- the text stands from `at` to `next`
pub record Stands (bytes : List ℕ) (at : ℕ) (text : List ℕ) (next : ℕ) : Type 0 where
  pub parts : drop at bytes ≡ text ++ drop next bytes
  pub next_is : next ≡ at + length text
  pub within : next ≤ length bytes

pub stands_nothing : (bytes : List ℕ) (at : ℕ) → at ≤ length bytes → Stands bytes at [] at
stands_nothing bytes at within = record { parts = refl; next_is = omega arith; within = within }

-- one behind another
pub stands_join : (bytes : List ℕ) (at : ℕ) (text : List ℕ) (next : ℕ) (more : List ℕ) (last : ℕ) → Stands bytes at text next
    → Stands bytes next more last → Stands bytes at (text ++ more) last
stands_join bytes at text next more last front back =
    let long = length-append text more in
    let first = front.next_is in
    let second = back.next_is in
    record {
      parts = front.parts ∙ ap (λ (rest : List ℕ). text ++ rest) back.parts ∙ sym (append_assoc text more (drop last bytes));
      next_is = omega (arith, long, first, second);
      within = back.within;
    }

-- and apart again
pub stands_front : (bytes : List ℕ) (at : ℕ) (text more : List ℕ) (last : ℕ) → Stands bytes at (text ++ more) last
    → Stands bytes at text (at + length text)
stands_front bytes at text more last whole =
    let rest : List ℕ = more ++ drop last bytes in
    let split : drop at bytes ≡ text ++ rest = whole.parts ∙ append_assoc text more (drop last bytes) in
    let behind : drop (at + length text) bytes ≡ rest = sym (drop-drop (length text) at bytes) ∙ ap (drop (length text)) split
    ∙ drop_at text rest (length text) refl in
    let long = length-append text more in
    let end = whole.next_is in
    let inside = whole.within in
    record { parts = split ∙ ap (λ (some : List ℕ). text ++ some) (sym behind); next_is = refl; within = omega (arith, long, end, inside) }

pub stands_back : (bytes : List ℕ) (at : ℕ) (text more : List ℕ) (last : ℕ) → Stands bytes at (text ++ more) last
    → Stands bytes (at + length text) more last
stands_back bytes at text more last whole =
    let rest : List ℕ = more ++ drop last bytes in
    let split : drop at bytes ≡ text ++ rest = whole.parts ∙ append_assoc text more (drop last bytes) in
    let behind : drop (at + length text) bytes ≡ rest = sym (drop-drop (length text) at bytes) ∙ ap (drop (length text)) split
    ∙ drop_at text rest (length text) refl in
    let long = length-append text more in
    let end = whole.next_is in
    record { parts = behind; next_is = omega (arith, long, end); within = whole.within }

-- what is cut out stands there
pub stands_cut : (bytes : List ℕ) (at size : ℕ) → at + size ≤ length bytes → Stands bytes at (bytes_at at size bytes) (at + size)
stands_cut bytes at size within =
    let left = length-drop at bytes in
    let taken = length-take size (drop at bytes) in
    record {
      parts = sym (take-append-drop size (drop at bytes)) ∙ ap (λ (rest : List ℕ). bytes_at at size bytes ++ rest)
          (drop-drop size at bytes);
      next_is = omega (arith, left, taken);
      within = within;
    }

-- what stands there is cut out
pub cut_stands : (bytes : List ℕ) (at : ℕ) (text : List ℕ) (next size : ℕ) → Stands bytes at text next → length text ≡ size
    → bytes_at at size bytes ≡ text
cut_stands bytes at text next size stands same = ap (take size) stands.parts ∙ take_at text (drop next bytes) size same

pub AreBytes-cut : (bytes : List ℕ) (at size : ℕ) → AreBytes bytes → AreBytes (bytes_at at size bytes)
AreBytes-cut bytes at size are = All-take (λ byte. byte < 256) size (drop at bytes) (All-drop (λ byte. byte < 256) at bytes are)

-- ---- numbers

length-cut : (bytes : List ℕ) (at size : ℕ) → at + size ≤ length bytes → length (bytes_at at size bytes) ≡ size
length-cut bytes at size within = let left = length-drop at bytes in let taken = length-take size (drop at bytes) in omega
    (arith, left, taken)

-- a number that is read stands there as it is described
pub number_stands : (size : ℕ) (bytes : List ℕ) (at : ℕ) (n : ℕ × ℕ) → IsTrue (is_width size) → AreBytes bytes
    → number_at size bytes at ≡ Ok n
    → Stands bytes at (described_number size n.0) n.1 × (n.0 < 256 ^ size)
unfolding number_at
number_stands size bytes at n wide are e =
    let cut = bytes_at at size bytes in
    let made : ℕ × ℕ = (magnitude Big cut, at + size) in
    let read = not_refused (nat_lt (length bytes) (at + size)) (Short at) (Ok made) n e in
    let within : at + size ≤ length bytes = ltb-false (length bytes) (at + size) read.0 in
    let bytes_are = AreBytes-cut bytes at size are in
    let long = length-cut bytes at size within in
    let wide_cut : IsTrue (is_size_of Unsigned (length cut)) = subst (λ (k : ℕ). IsTrue (is_width k)) (sym long) wide in
    let back : digits Big (length cut) (pos (magnitude Big cut)) ≡ cut = digits-number Big Unsigned cut (λ other. cc) wide_cut bytes_are in
    let described : described_number size (magnitude Big cut) ≡ cut = ap (λ (k : ℕ). digits Big k (pos (magnitude Big cut))) (sym long)
    ∙ back in
    let small : magnitude Big cut < 256 ^ size = subst (λ (k : ℕ). magnitude Big cut < 256 ^ k) long (magnitude-lt Big cut bytes_are) in
    subst (λ (m : ℕ × ℕ). Stands bytes at (described_number size m.0) m.1 × (m.0 < 256 ^ size)) (ok_is made n read.1)
    (subst (λ (text : List ℕ). Stands bytes at text (at + size)) (sym described) (stands_cut bytes at size within), small)

-- a number that stands there is read
pub number_again : (size : ℕ) (bytes : List ℕ) (at n next : ℕ) → n < 2 ^ (8 * size) → Stands bytes at (described_number size n) next
    → number_at size bytes at ≡ Ok (n, next)
unfolding number_at
number_again size bytes at n next small stands =
    let long = length-digits Big size (pos n) in
    let end : next ≡ at + size = let is = stands.next_is in omega (arith, long, is) in
    let inside = stands.within in
    let short : nat_lt (length bytes) (at + size) ≡ false = le-ltb (length bytes) (at + size) (omega (arith, end, inside)) in
    let cut = cut_stands bytes at (described_number size n) next size stands long in
    let value : magnitude Big (bytes_at at size bytes) ≡ n = ap (magnitude Big) cut ∙ magnitude-digits Big size (pos n)
    ∙ mod-eq_of_lt small in
    let pair : ℕ → ℕ → Result (ℕ × ℕ) LayoutFault = λ value end. Ok (value, end) in
    ap (λ (b : Bool). cond b (Err (Short at)) (pair (magnitude Big (bytes_at at size bytes)) (at + size))) short
    ∙ ap (λ (m : ℕ). pair m (at + size)) value ∙ ap (pair n) (sym end)

-- the same for a number of 16 bytes in two's complement
signed_back : (cut : List ℕ) → AreBytes cut → length cut ≡ 16 → digits Big 16 (twos_complement 16 (magnitude Big cut)) ≡ cut
signed_back cut are long =
    let small : magnitude Big cut < 2 ^ 128 = subst (λ (k : ℕ). magnitude Big cut < 256 ^ k) long (magnitude-lt Big cut are) in
    let turned : low_digits 16 (magnitude Big cut) ≡ low_first Big cut = subst
    (λ (k : ℕ). low_digits k (magnitude Big cut) ≡ low_first Big cut) (length-low_first Big cut ∙ long)
    (low_digits-weighed (low_first Big cut) (AreBytes-low_first Big cut are)) in
    ap (λ (n : ℕ). low_first Big (low_digits 16 n)) (residue-signed (2 ^ 128) (magnitude Big cut) small) ∙ ap (low_first Big) turned
    ∙ low_first-low_first Big cut

pub signed_stands : (bytes : List ℕ) (at : ℕ) (n : ℤ × ℕ) → AreBytes bytes → signed_at bytes at ≡ Ok n
    → Stands bytes at (digits Big 16 n.0) n.1
unfolding signed_at
signed_stands bytes at n are e =
    let cut = bytes_at at 16 bytes in
    let made : ℤ × ℕ = (twos_complement 16 (magnitude Big cut), at + 16) in
    let read = not_refused (nat_lt (length bytes) (at + 16)) (Short at) (Ok made) n e in
    let within : at + 16 ≤ length bytes = ltb-false (length bytes) (at + 16) read.0 in
    let back = signed_back cut (AreBytes-cut bytes at 16 are) (length-cut bytes at 16 within) in
    subst (λ (m : ℤ × ℕ). Stands bytes at (digits Big 16 m.0) m.1) (ok_is made n read.1)
    (subst (λ (text : List ℕ). Stands bytes at text (at + 16)) (sym back) (stands_cut bytes at 16 within))

pub signed_again : (bytes : List ℕ) (at : ℕ) (n : ℤ) (next : ℕ) → (pos 0 -ℤ pos (2 ^ 127)) ≤ℤ n → n ≤ℤ pos (2 ^ 127 - 1)
    → Stands bytes at (digits Big 16 n) next → signed_at bytes at ≡ Ok (n, next)
unfolding signed_at
signed_again bytes at n next low high stands =
    let long = length-digits Big 16 n in
    let end : next ≡ at + 16 = let is = stands.next_is in omega (arith, long, is) in
    let inside = stands.within in
    let short : nat_lt (length bytes) (at + 16) ≡ false = le-ltb (length bytes) (at + 16) (omega (arith, end, inside)) in
    let cut = cut_stands bytes at (digits Big 16 n) next 16 stands long in
    let value : twos_complement 16 (magnitude Big (bytes_at at 16 bytes)) ≡ n =
    ap (λ (text : List ℕ). twos_complement 16 (magnitude Big text)) cut ∙ ap (twos_complement 16) (magnitude-digits Big 16 n)
    ∙ signed-residue (2 ^ 127) (2 ^ 128) n (omega arith) refl low high in
    let pair : ℤ → ℕ → Result (ℤ × ℕ) LayoutFault = λ value end. Ok (value, end) in
    ap (λ (b : Bool). cond b (Err (Short at)) (pair (twos_complement 16 (magnitude Big (bytes_at at 16 bytes))) (at + 16))) short
    ∙ ap (λ (m : ℤ). pair m (at + 16)) value ∙ ap (pair n) (sym end)

-- ---- texts

pub text_stands : (bytes : List ℕ) (at : ℕ) (text : List ℕ × ℕ) → AreBytes bytes → text_at bytes at ≡ Ok text
    → Stands bytes at (described_text text.0) text.1
unfolding text_at text_behind
text_stands bytes at text are e =
    let size = bind_ok (number_at 1 bytes at) (λ size. text_behind bytes at size.0) text e in
    let n = size.0.0 in
    let number = number_stands 1 bytes at size.0 refl are size.1 in
    let one : size.0.1 ≡ at + 1 = number.0.next_is in
    let made : List ℕ × ℕ = (bytes_at (at + 1) n bytes, at + 1 + n) in
    let read = not_refused (nat_lt (length bytes) (at + 1 + n)) (Short at) (Ok made) text size.2 in
    let within : at + 1 + n ≤ length bytes = ltb-false (length bytes) (at + 1 + n) read.0 in
    let first : Stands bytes at (described_number 1 n) (at + 1) = subst (λ (k : ℕ). Stands bytes at (described_number 1 n) k) one number.0
    in
    let both = stands_join bytes at (described_number 1 n) (at + 1) (bytes_at (at + 1) n bytes) (at + 1 + n) first
    (stands_cut bytes (at + 1) n within) in
    let long = length-cut bytes (at + 1) n within in
    subst (λ (t : List ℕ × ℕ). Stands bytes at (described_text t.0) t.1) (ok_is made text read.1)
    (subst (λ (k : ℕ). Stands bytes at (described_number 1 k ++ bytes_at (at + 1) n bytes) (at + 1 + n)) (sym long) both)

pub text_again : (bytes : List ℕ) (at : ℕ) (text : List ℕ) (next : ℕ) → length text < 256 → Stands bytes at (described_text text) next
    → text_at bytes at ≡ Ok (text, next)
unfolding text_at text_behind
text_again bytes at text next small stands =
    let first = stands_front bytes at (described_number 1 (length text)) text next stands in
    let back = stands_back bytes at (described_number 1 (length text)) text next stands in
    let size : number_at 1 bytes at ≡ Ok (length text, at + 1) = number_again 1 bytes at (length text) (at + 1) small first in
    let there : Stands bytes (at + 1) text next = back in
    let end : next ≡ at + 1 + length text = there.next_is in
    let inside = there.within in
    let short : nat_lt (length bytes) (at + 1 + length text) ≡ false = le-ltb (length bytes) (at + 1 + length text)
    (omega (arith, end, inside)) in
    let cut = cut_stands bytes (at + 1) text next (length text) there refl in
    let pair : List ℕ → ℕ → Result (List ℕ × ℕ) LayoutFault = λ value end. Ok (value, end) in
    let rest : ℕ × ℕ → Result (List ℕ × ℕ) LayoutFault = λ size. text_behind bytes at size.0 in
    ap (λ (r : Result (ℕ × ℕ) LayoutFault). r >>= rest) size
    ∙ ap (λ (b : Bool). cond b (Err (Short at)) (pair (bytes_at (at + 1) (length text) bytes) (at + 1 + length text))) short
    ∙ ap (λ (t : List ℕ). pair t (at + 1 + length text)) cut ∙ ap (pair text) (sym end)
