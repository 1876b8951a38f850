-- Bytes written over a part of a slice.
use Rattle.std.proofs.Common.{◌≡◌, ℕ, ◌+◌, ◌-◌, List, ◌++◌, length, take, drop, append_assoc, sym, ap, ◌∙◌, arith}
use Rattle.std.proofs.lemmas.List.{drop-drop}
use borrow.Rule.Slice.PartMut.{put_mid}
use Rattle.evp_format.specs.Bytes.{put_at}

pub put_part : (at size : ℕ) (new bytes : List ℕ) → length new ≡ size → put_mid at (at + size - at) bytes new ≡ put_at at new bytes
put_part at size new bytes count =
    let long : at + size - at ≡ length new = omega (arith, count) in
    ap (λ (n : ℕ). take at bytes ++ (new ++ drop n (drop at bytes))) long
    ∙ ap (λ (rest : List ℕ). take at bytes ++ (new ++ rest)) (drop-drop (length new) at bytes)
    ∙ sym (append_assoc (take at bytes) new (drop (at + length new) bytes))
