-- Elements of lists by their places.
use Rattle.std.proofs.Common.{◌≡◌, ℕ, zero, suc, List, [], ◌∷◌, ◌++◌, length, Some, Bool, true, refl, sym, ◌∙◌}
use Rattle.std.proofs.Common.{⊎_elim, arith}
use Rattle.std.specs.Prelude.{◌==◌, Vec}
use Rattle.std.specs.Vec.{vec_len}
use Rattle.std.proofs.lemmas.Bool.{false≢true}
use Rattle.std.proofs.lemmas.Bool.Decides.{eqb_tells}
use Rattle.std.specs.List.{slice_get}

-- a vector that is empty holds nothing
pub no_items : {X Z : Type 0} (v : Vec X Z) (b : Bool) → b ≡ (vec_len v == 0) → b ≡ true → v.items ≡ []
no_items v b is empty =
    ⊎_elim (λ e. nothing v.items (let long = v.ok.0 in let none = e.1 in omega arith))
    (λ e. absurd (false≢true (sym e.0 ∙ sym is ∙ empty))) (eqb_tells (vec_len v) 0)
  where
    nothing : {X : Type 0} (xs : List X) → length xs ≡ 0 → xs ≡ []
    nothing [] none = refl
    nothing (x ∷ xs) none = absurd (omega arith)

pub front_at : {X : Type 0} (xs ys : List X) (k : ℕ) (x : X) → slice_get xs k ≡ Some x → slice_get (xs ++ ys) k ≡ Some x
front_at [] ys k x at = absurd (cc)
front_at (z ∷ xs) ys zero x at = at
front_at (z ∷ xs) ys (suc k) x at = front_at xs ys k x at

pub last_there : {X : Type 0} (xs : List X) (x : X) (k : ℕ) → length xs ≡ k → slice_get (xs ++ x ∷ []) k ≡ Some x
last_there [] x zero long = refl
last_there [] x (suc k) long = absurd (omega arith)
last_there (z ∷ xs) x zero long = absurd (omega arith)
last_there (z ∷ xs) x (suc k) long = last_there xs x k (omega arith)
