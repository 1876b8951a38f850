-- Which gathers make a pair, worked out by hand.
use Rattle.std.proofs.Common.{◌≡◌, true, false, [], ◌∷◌, refl}
use Rattle.evp_plan.specs.Clean.{are_paired}

-- the first picks, the second picks, and neither does
fits : are_paired (0 ∷ 128 ∷ 200 ∷ []) (128 ∷ 15 ∷ 255 ∷ []) (255 ∷ 0 ∷ 255 ∷ []) ≡ true
fits = refl

both_pick : are_paired (128 ∷ 15 ∷ []) (3 ∷ 0 ∷ []) (0 ∷ 0 ∷ []) ≡ false
both_pick = refl

not_kept : are_paired (0 ∷ []) (128 ∷ []) (0 ∷ []) ≡ false
not_kept = refl

kept_in_part : are_paired (128 ∷ []) (128 ∷ []) (127 ∷ []) ≡ false
kept_in_part = refl

second_too_short : are_paired (128 ∷ 128 ∷ []) (3 ∷ []) (0 ∷ 255 ∷ []) ≡ false
second_too_short = refl
