-- Texts are the same where their bytes are.
use Rattle.std.proofs.Common.{◌≡◌, ℕ, nat_eq, ◌&&◌, List, [], ◌∷◌, refl, sym, ap}
use Rattle.std.proofs.lemmas.Bool.Decides.{Decides-eqb}
use Rattle.std.proofs.lemmas.Slice.Eq.{slice_eq-Decides}
use Rattle.std.specs.Bool.{Decides}
use Rattle.std.specs.Cmp.Lexicographic.{pointwise}
use Rattle.evp_format.specs.Bytes.{bytes_equal}

pub pointwise-bytes_equal : (xs ys : List ℕ) → pointwise nat_eq xs ys ≡ bytes_equal xs ys
pointwise-bytes_equal [] [] = refl
pointwise-bytes_equal [] (y ∷ ys) = refl
pointwise-bytes_equal (x ∷ xs) [] = refl
pointwise-bytes_equal (x ∷ xs) (y ∷ ys) = ap (λ b. nat_eq x y && b) (pointwise-bytes_equal xs ys)

pub bytes_equal-Decides : (xs ys : List ℕ) → Decides (bytes_equal xs ys) (xs ≡ ys)
bytes_equal-Decides xs ys = slice_eq-Decides Decides-eqb xs ys (bytes_equal xs ys) (sym (pointwise-bytes_equal xs ys))
