-- The definitions, computed on worked bytes.
use Rattle.std.proofs.Common.{◌≡◌, ℕ, zero, suc, ◌<◌, ◌≤◌, true, [], ◌∷◌, get_or, refl, arith}
use Rattle.evp_base.specs.declared.kind.Kind.TheVariants.{Int, Unsigned}
use Rattle.evp_base.specs.declared.order.Order.TheVariants.{Little, Big}
use Rattle.evp_wide.specs.Groups.{elements}
use Rattle.evp_wide.specs.Elements.{swapped, rewritten}
use Rattle.evp_wide.specs.Gathered.{gathered, signs_gathered}
use Rattle.evp_wide.specs.Zeros.{IsZeroBehind, IsFrontWith, with_signed}
use Rattle.memchr.specs.Find.{is_byte}

pairs : elements 2 (1 ∷ 2 ∷ 3 ∷ 4 ∷ []) ≡ (1 ∷ 2 ∷ []) ∷ (3 ∷ 4 ∷ []) ∷ []
pairs = refl

fours : swapped 4 (1 ∷ 2 ∷ 3 ∷ 4 ∷ 5 ∷ 6 ∷ 7 ∷ 8 ∷ []) ≡ 4 ∷ 3 ∷ 2 ∷ 1 ∷ 8 ∷ 7 ∷ 6 ∷ 5 ∷ []
fours = refl

none : swapped 8 [] ≡ []
none = refl

widened : rewritten Unsigned Big 2 Big 1 (255 ∷ 1 ∷ []) ≡ 0 ∷ 255 ∷ 0 ∷ 1 ∷ []
widened = refl

signed : rewritten Int Little 4 Big 2 (255 ∷ 254 ∷ []) ≡ 254 ∷ 255 ∷ 255 ∷ 255 ∷ []
signed = refl

-- place 128 is none
picks : gathered (2 ∷ 128 ∷ 0 ∷ []) (7 ∷ 8 ∷ 9 ∷ []) ≡ 9 ∷ 0 ∷ 7 ∷ []
picks = refl

-- 255 where the byte's top bit is set
signs : signs_gathered (2 ∷ 128 ∷ 0 ∷ []) (127 ∷ 8 ∷ 128 ∷ []) ≡ 255 ∷ 0 ∷ 0 ∷ []
signs = refl

-- two numbers behind one byte, which are -2 and 3, in the place of four bytes
two_signed : with_signed 1 2 Big (7 ∷ 254 ∷ 3 ∷ []) 1 1 Little 2 (1 ∷ 2 ∷ 3 ∷ 4 ∷ 5 ∷ 6 ∷ []) ≡ 1 ∷ 255 ∷ 254 ∷ 0 ∷ 3 ∷ 6 ∷ []
two_signed = refl

no_signed : with_signed 1 2 Big (7 ∷ []) 1 4 Little 0 (1 ∷ 2 ∷ []) ≡ 1 ∷ 2 ∷ []
no_signed = refl

-- two letters and the zero byte behind one byte and a gap of one
front : IsFrontWith 1 2 3 (7 ∷ 8 ∷ 0 ∷ 9 ∷ []) (1 ∷ 2 ∷ 3 ∷ 4 ∷ 5 ∷ 6 ∷ []) (1 ∷ 0 ∷ 7 ∷ 8 ∷ 0 ∷ 9 ∷ [])
front = refl

text_end : IsZeroBehind (0 ∷ 8 ∷ 9 ∷ 0 ∷ 0 ∷ []) 1 2
text_end = record {
  within = omega arith;
  before = λ k from to here. others k from to here;
  here = refl;
}
  where
    others : (k : ℕ) → 1 ≤ k → k < 3 → is_byte 0 (get_or (0 ∷ 8 ∷ 9 ∷ 0 ∷ 0 ∷ []) k 0) ≡ true → ⊥
    others zero from to here = omega arith
    others (suc zero) from to here = cc
    others (suc (suc zero)) from to here = cc
    others (suc (suc (suc k))) from to here = omega arith
