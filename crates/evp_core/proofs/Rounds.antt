-- Passes of one turn for each actor are turns in rotation.
use Rattle.std.proofs.Common.{◌^◌, ◌≡◌, ◌≤◌, ℕ, zero, suc, ◌+◌, ◌*◌, ◌<◌, ◌%◌, List, [], ◌∷◌, ◌++◌, length, Some}
use Rattle.std.proofs.Common.{refl, sym, ap, subst, ◌∙◌, arith, ⊎_elim, ◌⊎◌, inl, inr, length-append}
use Rattle.std.proofs.lemmas.List.FromFn.{length-range_with_len, get_or-range_with_len}
use Rattle.std.proofs.lemmas.Nat.{mod-mul-add}
use Rattle.std.proofs.lemmas.Option.{get_or_from_slice_get, slice_get_within}
use Rattle.std.specs.List.{slice_get, range_with_len}
use Rattle.evp_core.specs.Held.{HasStopped}
use Rattle.evp_core.specs.Rotation.{all_numbers, IsRotation, HaveRotated, HasStoppedIn}
use Rattle.evp_core.specs.Turns.{turns}
use Rattle.evp_core.specs.WorldShape.{WorldShape}
use Rattle.evp_core.specs.WorldTurned.{HaveTurned}
use Rattle.evp_core.proofs.Behind.{have_then, stopped_then}

-- a place of two lists is one of the first, or of the other
place_in : (front back : List ℕ) (place number : ℕ) → slice_get (front ++ back) place ≡ Some number
    → (slice_get front place ≡ Some number)
    ⊎ ((k : ℕ) × (place ≡ length front + k) × (slice_get back k ≡ Some number))
place_in [] back place number at = inr (place, omega arith, at)
place_in (n ∷ front) back zero number at = inl at
place_in (n ∷ front) back (suc place) number at =
    ⊎_elim (λ there. inl there) (λ here. let is = here.1 in inr (here.0, omega arith, here.2)) (place_in front back place number at)

-- one pass more behind whole passes goes on with the rotation
goes_round : (actors passes : ℕ) (numbers : List ℕ) → length numbers ≡ passes * actors → IsRotation actors numbers
    → IsRotation actors (numbers ++ range_with_len 0 actors)
goes_round actors passes numbers long rotation place number at =
    ⊎_elim (λ there. rotation place number there)
    (λ here.
    let below : here.0 < length (range_with_len 0 actors) = slice_get_within (range_with_len 0 actors) here.0 number here.2 in
    let long-pass = length-range_with_len 0 actors in
    let under : here.0 < actors = omega arith in
    let is : number ≡ here.0 = sym (get_or_from_slice_get (range_with_len 0 actors) here.0 number 0 here.2)
    ∙ get_or-range_with_len 0 actors here.0 0 under ∙ (let e : 0 + here.0 ≡ here.0 = omega arith in e) in
    let at-place : place ≡ passes * actors + here.0 = (let p = here.1 in omega arith) in
    is ∙ sym (ap (λ (p : ℕ). p % actors) at-place ∙ mod-mul-add passes actors here.0 under))
    (place_in numbers (range_with_len 0 actors) place number at)

-- so many whole passes were made
pub record HavePassed (start now : WorldShape) (passes : ℕ) : Type 0 where
  pub numbers : List ℕ
  pub long : length numbers ≡ passes * length start.actors
  pub rotation : IsRotation (length start.actors) numbers
  pub turned : HaveTurned start now numbers

pub none_passed : (world : WorldShape) → HavePassed world world 0
none_passed world = record { numbers = []; long = omega arith; rotation = λ place number at. absurd (cc); turned = refl }

module _ (start old new : WorldShape) (passes : ℕ) (passed : HavePassed start old passes)
    (count : length old.actors ≡ length start.actors) where
  rotation_on : IsRotation (length start.actors) (passed.numbers ++ all_numbers old)
  rotation_on = subst (λ (n : ℕ). IsRotation (length start.actors) (passed.numbers ++ range_with_len 0 n)) (sym count)
      (goes_round (length start.actors) passes passed.numbers passed.long passed.rotation)

  long_on : length (passed.numbers ++ all_numbers old) ≡ (passes + 1) * length start.actors
  long_on =
      let both = length-append passed.numbers (all_numbers old) in
      let pass = length-range_with_len 0 (length old.actors) in
      let was = passed.long in
      let more : (passes + 1) * length start.actors ≡ passes * length start.actors + length start.actors = omega arith in
      omega arith

  pub one_pass : HaveTurned old new (all_numbers old) → HavePassed start new (passes + 1)
  one_pass turned = record {
    numbers = passed.numbers ++ all_numbers old;
    long = long_on;
    rotation = rotation_on;
    turned = have_then start old new passed.numbers (all_numbers old) passed.turned turned;
  }

  pub stopped_in : start.done < 2 ^ 64 → HasStopped old new (all_numbers old) → (passes + 1) * length start.actors ≤ turns start.lists.job
      → HasStoppedIn start new
  stopped_in below stopped few = record {
    numbers = passed.numbers ++ all_numbers old;
    rotation = rotation_on;
    few = let long = long_on in omega arith;
    stopped = stopped_then start old new passed.numbers (all_numbers old) below passed.turned stopped;
  }

pub rotated : (start now : WorldShape) (passes : ℕ) → HavePassed start now passes → passes * length start.actors ≤ turns start.lists.job
    → HaveRotated start now
rotated start now passes passed few = record {
  numbers = passed.numbers;
  rotation = passed.rotation;
  few = let long = passed.long in omega arith;
  turned = passed.turned;
}
