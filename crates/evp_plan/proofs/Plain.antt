-- A gather that keeps and sets nothing writes what it picks.
use Rattle.std.proofs.Common.{◌≡◌, ℕ, zero, suc, ◌+◌, ◌≤◌, Bool, List, [], ◌∷◌, ◌++◌, length, take, drop, refl, sym, ap, ◌∙◌, arith}
use Rattle.std.specs.Prelude.{replicate}
use Rattle.std.proofs.lemmas.List.{length-map, length-drop}
use Rattle.std.specs.Int.Bits.{bit_or, bit_and, or_zero_r, and_zero_r}
use lib.Lanes.{zip2}
use Rattle.evp_wide.specs.declared.lanes.Blend.{Blend}
use Rattle.evp_wide.specs.Gathered.{picked, gathered, with_constant, with_kept}
use Rattle.evp_plan.specs.Cells.{lanes, written}
use Rattle.evp_plan.specs.Clean.{IsPlain}

byte_alone : (byte old : ℕ) → bit_or (bit_or byte (bit_and old 0)) 0 ≡ byte
byte_alone byte old = or_zero_r (bit_or byte (bit_and old 0)) ∙ ap (bit_or byte) (and_zero_r old) ∙ or_zero_r byte

bytes_alone : (n : ℕ) (bytes stood : List ℕ) → length bytes ≡ n → n ≤ length stood
    → zip2 bit_or (zip2 bit_or bytes (zip2 bit_and (take n stood) (replicate n 0))) (replicate n 0) ≡ bytes
bytes_alone zero [] stood long room = refl
bytes_alone zero (byte ∷ bytes) stood long room = absurd (omega (arith, long))
bytes_alone (suc n) [] stood long room = absurd (omega (arith, long))
bytes_alone (suc n) (byte ∷ bytes) [] long room = absurd (omega (arith, room))
bytes_alone (suc n) (byte ∷ bytes) (old ∷ stood) long room =
    let rest = bytes_alone n bytes stood (omega (arith, long)) (omega (arith, room)) in
    λ i. byte_alone byte old i ∷ rest i

-- sixteen bytes that are picked, as they are written
pub plain_written : (signed : Bool) (places window : List ℕ) (blend : Blend) (to : ℕ) (out out' : List ℕ) → IsPlain signed blend
    → length places ≡ 16 → to + 16 ≤ length out → out' ≡ take to out ++ (gathered places window ++ drop (to + 16) out)
    → out' ≡ written (lanes signed places window) blend to out
plain_written signed places window blend to out out' plain long room made =
    let bytes = gathered places window in
    let sixteen : length bytes ≡ 16 = length-map places (picked window) ∙ long in
    let alone : with_constant (with_kept bytes blend.keep (drop to out)) blend.constant ≡ bytes =
    ap (λ (k : List ℕ). with_constant (with_kept bytes k (drop to out)) blend.constant) plain.none_kept
    ∙ ap (with_constant (with_kept bytes (replicate 16 0) (drop to out))) plain.none_set
    ∙ bytes_alone 16 bytes (drop to out) sixteen (omega (arith, room, length-drop to out)) in
    made ∙ sym (ap (λ (s : Bool). written (lanes s places window) blend to out) plain.bytes
    ∙ ap (λ (l : List ℕ). take to out ++ (l ++ drop (to + 16) out)) alone)
