-- A part of a slice that was written, as bytes put in the place of others.
use Rattle.std.proofs.Common.{◌≡◌, ℕ, ◌+◌, ◌-◌, ◌≤◌, List, ◌++◌, length, take, drop, refl, sym, ap, ◌∙◌, arith}
use borrow.Rule.Slice.PartMut.{put_mid}
use Rattle.std.proofs.lemmas.List.{take-append-drop}
use Rattle.std.proofs.lemmas.Slice.{take-put_mid, drop-put_mid}
use Rattle.evp_format.specs.Bytes.{put_at}

pub mid_put : (t size : ℕ) (out new : List ℕ) → length new ≡ size → t + size ≤ length out
    → put_mid t (t + size - t) out new ≡ put_at t new out
mid_put t size out new long room =
    let count : t + size - t ≡ size = omega arith in
    let written = put_mid t size out new in
    ap (λ (k : ℕ). put_mid t k out new) count ∙ sym (take-append-drop (t + length new) written)
    ∙ ap (λ (l : List ℕ). l ++ drop (t + length new) written)
    (take-put_mid t size out new (t + length new) refl (omega (arith, room)))
    ∙ ap (λ (l : List ℕ). take t out ++ new ++ l)
    (drop-put_mid t size out new (t + length new) (omega (arith, long)) (omega (arith, room)) long)
