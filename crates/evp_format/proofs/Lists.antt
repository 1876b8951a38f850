-- What stands at a place of a list.
use Rattle.std.proofs.Common.{◌≡◌, ℕ, ◌<◌, List, length, get_or, Some, refl, ap, ◌∙◌, sym}
use Rattle.std.proofs.lemmas.Option.{slice_get_read}
use Rattle.std.specs.Prelude.{slice_get}

-- an element that was read from a list that equals this one
pub found_at : {A : Type 0} (xs ys : List A) (k : ℕ) (x : A) → xs ≡ ys → k < length xs → x ≡ get_or xs k x → slice_get ys k ≡ Some x
found_at {A = A} xs ys k x same below read = ap (λ (zs : List A). slice_get zs k) (sym same)
    ∙ slice_get_read xs (length xs) k x refl below read
