-- A gap of zeros, and bytes written over it by two windows.
use Rattle.std.proofs.Common.{◌≡◌, ℕ, ◌+◌, ◌-◌, ◌≤◌, List, ◌++◌, length, take, drop, drop-drop, append_assoc, sym, ap, ◌∙◌, arith}
use Rattle.std.specs.Prelude.{replicate}
use Rattle.std.proofs.lemmas.List.{length-take, length-drop, length-append, take-append-le, take-append-drop, take-replicate, length-replicate}
use Rattle.std.proofs.lemmas.Simd.{take_more_put_chunk, length-chunk, length-put_chunk}
use Rattle.std.proofs.Math.Seq.{take-append-add}
use lib.Lanes.{chunk, put_chunk}
use borrow.Rule.Slice.PartMut.{put_mid}
use Rattle.evp_wide.specs.Zeros.{IsFrontWith}
use Rattle.evp_wide.proofs.Windows.{take_less}

-- what stands before a place inside of the gap, or right behind it
gap_made : (size to k : ℕ) (out zeros : List ℕ) → size ≤ to → to ≤ size + 8 → size ≤ length out → zeros ≡ replicate 8 0
    → take to (put_mid size k out zeros) ≡ take size out ++ replicate (to - size) 0
gap_made size to k out zeros behind near room are =
    let before = take size out in
    let rest = drop k (drop size out) in
    let before_long : length before ≡ size = omega (arith, length-take size out, room) in
    let zeros_long : length zeros ≡ 8 = ap length are ∙ length-replicate {A = ℕ} 8 0 in
    let place : to ≡ length before + (to - size) = omega (arith, behind, before_long) in
    ap (λ (n : ℕ). take n (before ++ (zeros ++ rest))) place
    ∙ take-append-add before (zeros ++ rest) (to - size)
    ∙ ap (λ (l : List ℕ). before ++ l)
    (take-append-le (to - size) zeros rest (omega (arith, near, zeros_long))
    ∙ ap (take (to - size)) are ∙ take-replicate (to - size) 8 0 (omega (arith, near)))

-- two windows that are written over bytes
windows_made : (to from behind : ℕ) (out bytes : List ℕ) → behind ≤ 16 → from + behind + 16 ≤ length bytes
    → to + behind + 16 ≤ length out
    → take (to + (behind + 16)) (put_chunk (to + behind) (put_chunk to out (chunk from 16 bytes)) (chunk (from + behind) 16 bytes))
    ≡ take to out ++ take (behind + 16) (drop from bytes)
windows_made to from behind out bytes near inside room =
    let one = chunk from 16 bytes in
    let two = chunk (from + behind) 16 bytes in
    let one_long : length one ≡ 16 = length-chunk from 16 bytes (omega (arith, inside)) in
    let two_long : length two ≡ 16 = length-chunk (from + behind) 16 bytes inside in
    let first = put_chunk to out one in
    let same : length first ≡ length out = length-put_chunk to out one in
    let before = take to out in
    let before_long : length before ≡ to = omega (arith, length-take to out, room) in
    let part_long : length (take behind (drop from bytes)) ≡ behind =
    omega (arith, length-take behind (drop from bytes), length-drop from bytes, inside) in
    let front : take (to + behind) first ≡ before ++ take behind (drop from bytes) =
    sym (take_less (to + behind) (to + 16) first (omega (arith, near)) (omega (arith, same, room)))
    ∙ ap (take (to + behind)) (take_more_put_chunk to out one (to + 16) (omega (arith, one_long)) (omega (arith, room)))
    ∙ ap (λ (n : ℕ). take (n + behind) (before ++ one)) (sym before_long)
    ∙ take-append-add before one behind
    ∙ ap (λ (l : List ℕ). before ++ l) (take_less behind 16 (drop from bytes) near (omega (arith, length-drop from bytes, inside))) in
    let second : two ≡ take 16 (drop behind (drop from bytes)) = ap (take 16) (sym (drop-drop behind from bytes)) in
    take_more_put_chunk (to + behind) first two (to + (behind + 16)) (omega (arith, two_long)) (omega (arith, same, room))
    ∙ ap (λ (l : List ℕ). l ++ two) front
    ∙ append_assoc before (take behind (drop from bytes)) two
    ∙ ap (λ (l : List ℕ). before ++ l)
    (ap (λ (l : List ℕ). take behind (drop from bytes) ++ l) second
    ∙ sym (take-append-add (take behind (drop from bytes)) (drop behind (drop from bytes)) 16)
    ∙ ap (λ (n : ℕ). take (n + 16) (take behind (drop from bytes) ++ drop behind (drop from bytes))) part_long
    ∙ ap (take (behind + 16)) (take-append-drop behind (drop from bytes)))

pub text_put : (size to from behind k : ℕ) (out bytes zeros : List ℕ) → size ≤ to → to ≤ size + 8 → behind ≤ 16
    → from + behind + 16 ≤ length bytes → to + behind + 16 ≤ length out → k ≡ 8 → zeros ≡ replicate 8 0
    → IsFrontWith size to (behind + 16) (drop from bytes) out
    (put_chunk (to + behind) (put_chunk to (put_mid size k out zeros) (chunk from 16 bytes)) (chunk (from + behind) 16 bytes))
text_put size to from behind k out bytes zeros after near few inside room k_is are =
    let small : size ≤ length out = omega (arith, room, after) in
    let zeros_long : length zeros ≡ 8 = ap length are ∙ length-replicate {A = ℕ} 8 0 in
    let same : length (put_mid size k out zeros) ≡ length out =
    length-append (take size out) (zeros ++ drop k (drop size out)) ∙ omega (
      arith,
      length-append zeros (drop k (drop size out)),
      zeros_long,
      length-take size out,
      length-drop k (drop size out),
      length-drop size out,
      k_is,
      room,
      after,
    ) in
    windows_made to from behind (put_mid size k out zeros) bytes few inside (omega (arith, same, room))
    ∙ ap (λ (l : List ℕ). l ++ take (behind + 16) (drop from bytes)) (gap_made size to k out zeros after near small are)
    ∙ append_assoc (take size out) (replicate (to - size) 0) (take (behind + 16) (drop from bytes))

-- the same for fewer bytes
pub fewer_put : (size to count more : ℕ) (from old new : List ℕ) → size ≤ to → size ≤ length old → count ≤ more → to + more ≤ length new
    → more ≤ length from → IsFrontWith size to more from old new → IsFrontWith size to count from old new
fewer_put size to count more from old new after small few room inside all =
    let before = take size old in
    let gap : List ℕ = replicate (to - size) 0 in
    let before_long : length before ≡ size = omega (arith, length-take size old, small) in
    let long : length (before ++ gap) ≡ to = omega (arith, length-append before gap, before_long, length-replicate {A = ℕ} (to - size) 0, after) in
    sym (take_less (to + count) (to + more) new (omega (arith, few)) room)
    ∙ ap (take (to + count)) (all ∙ sym (append_assoc before gap (take more from)))
    ∙ ap (λ (n : ℕ). take (n + count) ((before ++ gap) ++ take more from)) (sym long)
    ∙ take-append-add (before ++ gap) (take more from) count
    ∙ ap (λ (l : List ℕ). (before ++ gap) ++ l) (take_less count more from few inside)
    ∙ append_assoc before gap (take count from)
