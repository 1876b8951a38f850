-- Numbers, lines of three and four words, and order files, computed on small values by hand.
use Rattle.std.proofs.Common.{◌≡◌, ℕ, List, [], ◌∷◌, codes, map, Some, None, Result, Ok, Err, refl}
use Rattle.std.specs.Fmt.{digits}
use Rattle.evp_stones.specs.declared.refusal.Refusal.{Refusal}
use Rattle.evp_stones.specs.declared.refusal.Refusal.TheVariants.{Order}
use Rattle.evp_stones.specs.DecimalNumber.{number_in}
use Rattle.evp_stones.specs.Order.{turns_of}
use Rattle.evp_stones.specs.Words.{line_of, run, walk, convert}

-- the bound, a leading zero, a sign, nothing, no digit
numbers : map (number_in 65) (codes "64" ∷ codes "65" ∷ codes "0" ∷ codes "01" ∷ codes "+1" ∷ [] ∷ codes "6x" ∷ [])
    ≡ Some 64 ∷ None ∷ Some 0 ∷ None ∷ None ∷ None ∷ None ∷ []
unfolding digits
numbers = refl

runs : map (λ (workers : List ℕ). line_of (codes "run" ∷ codes "j" ∷ workers ∷ [])) (codes "1" ∷ codes "64" ∷ codes "0" ∷ codes "65" ∷ [])
    ≡ Some (run (codes "j") 1) ∷ Some (run (codes "j") 64) ∷ None ∷ None ∷ []
unfolding digits
runs = refl

line_walk : line_of (codes "walk" ∷ codes "j" ∷ codes "o" ∷ []) ≡ Some (walk (codes "j") (codes "o"))
line_walk = refl

line_convert : line_of (codes "convert" ∷ codes "j" ∷ codes "q" ∷ codes "a" ∷ []) ≡ Some (convert (codes "j") (codes "q") (codes "a"))
line_convert = refl

-- five actors
turns : List ℕ → Result (List ℕ) Refusal
turns = turns_of 5 (codes "o")

orders : map turns (codes "4\n4\n0\n" ∷ [] ∷ codes "4" ∷ []) ≡ Ok (4 ∷ 4 ∷ 0 ∷ []) ∷ Ok [] ∷ Ok (4 ∷ []) ∷ []
unfolding turns digits
orders = refl

-- no such actor, a leading zero, a sign, an empty line, a carriage return, only a line feed
bad_lines : map turns (codes "5\n" ∷ codes "04" ∷ codes "4\n+4\n" ∷ codes "4\n\n" ∷ codes "4\n4\r\n" ∷ codes "\n" ∷ [])
    ≡ Err (Order (codes "o") 0) ∷ Err (Order (codes "o") 0) ∷ Err (Order (codes "o") 2) ∷ Err (Order (codes "o") 2)
    ∷ Err (Order (codes "o") 2) ∷ Err (Order (codes "o") 0) ∷ []
unfolding turns digits
bad_lines = refl
