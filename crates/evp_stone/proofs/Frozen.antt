-- Numbers of a round that is frozen for some stones, and the last number of a list.
use Rattle.std.proofs.Common.{◌≡◌, ℕ, zero, suc, ◌-◌, ◌<◌, ◌==◌, Bool, true, false}
use Rattle.std.proofs.Common.{List, [], ◌∷◌, length, map, get_or, refl, sym, ap, ◌∙◌, arith}
use Rattle.std.specs.Prelude.{if◌then◌else◌, ◌||◌}
use Rattle.std.specs.List.{list_any}
use Rattle.evp_queue.specs.Counts.{is_among}
use Rattle.evp_stone.specs.declared.round.Round.{Round}
use Rattle.evp_stone.specs.Route.{last_of}

pub any_among : (number : ℕ) (numbers : List ℕ) → list_any (λ n. n == number) numbers ≡ is_among number numbers
any_among number [] = refl
any_among number (n ∷ numbers) = either (n == number) (list_any (λ m. m == number) numbers) (is_among number numbers)
    (any_among number numbers)
  where
    either : (b x y : Bool) → x ≡ y → (b || x) ≡ (if b then true else y)
    either true x y same = refl
    either false x y same = same

pub frozen_at : (rounds : List Round) (stone k : ℕ) (d : Round) → k < length rounds
    → get_or (map (λ (round : Round). is_among stone round.frozen) rounds) k true ≡ is_among stone (get_or rounds k d).frozen
frozen_at [] stone k d below = absurd (omega arith)
frozen_at (r ∷ rounds) stone zero d below = refl
frozen_at (r ∷ rounds) stone (suc k) d below = frozen_at rounds stone k d (omega arith)

pub last_at : (numbers : List ℕ) (d : ℕ) → 0 < length numbers → last_of numbers ≡ get_or numbers (length numbers - 1) d
last_at [] d some = absurd (omega arith)
last_at (n ∷ []) d some = refl
last_at (n ∷ m ∷ numbers) d some =
    let next : length (n ∷ m ∷ numbers) - 1 ≡ suc (length (m ∷ numbers) - 1) = omega arith in
    last_at (m ∷ numbers) d (omega arith) ∙ ap (λ (k : ℕ). get_or (n ∷ m ∷ numbers) k d) (sym next)
