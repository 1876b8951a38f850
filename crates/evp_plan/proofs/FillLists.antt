-- Lists of fills that grow.
use Rattle.std.proofs.Common.{◌≡◌, ℕ, ◌+◌, ◌<◌, ◌≤◌, List, [], ◌∷◌, ◌++◌, length, Option, Some, None, inl, inr, refl, sym, ap, ◌∙◌, subst, arith}
use Rattle.std.specs.List.{All}
use Rattle.std.proofs.lemmas.Bool.{cases_lt}
use Rattle.std.proofs.lemmas.List.{length-append, get_or_append_left, get_or_at}
use Rattle.evp_base.specs.declared.order.Order.{Order}
use Rattle.evp_wide.specs.Gathered.{sign_byte}
use Rattle.evp_plan.specs.declared.fill.Fill.{Fill}
use Rattle.evp_plan.specs.declared.words.Words.{Words}
use Rattle.evp_plan.specs.Cuts.{place_of, AddsAbove, AddsPositive}
use Rattle.evp_plan.specs.Fills.{byte_there, IsFilled, AreFilled}

-- ---- the last of a list

pub All-front : {X : Type 0} (P : X → Type 0) (xs : List X) (x : X) → All P (xs ++ x ∷ []) → All P xs
All-front P xs x all =
    λ k d below.
    subst P (get_or_append_left xs (x ∷ []) d k below)
    (all k d (omega (arith, below, length-append xs (x ∷ []))))

pub All-last : {X : Type 0} (P : X → Type 0) (xs : List X) (x : X) → All P (xs ++ x ∷ []) → P x
All-last P xs x all =
    subst P (get_or_at xs x [] x (length xs) refl)
    (all (length xs) x (omega (arith, length-append xs (x ∷ []))))

-- ---- one fill more

-- the same of the bytes up to one
abbrev pub AreAboveTo : Order → Words → ℕ → Option ℕ → ℕ → ℕ → List ℕ → Type 0
AreAboveTo order words size sign end at bytes =
    (k : ℕ) → size ≤ k → k < end
    → byte_there at bytes (Some (place_of order words.offset words.size k)) ≡ sign_byte (byte_there at bytes sign)

-- what the fills so far tell
abbrev pub AddsSoFar : Order → Words → ℕ → Option ℕ → ℕ → List Fill → List Fill → Type 0
AddsSoFar order words size sign end old new =
    (at : ℕ) (bytes : List ℕ) → AreFilled at bytes new → AreFilled at bytes old × AreAboveTo order words size sign end at bytes

pub none_added : (order : Order) (words : Words) (size : ℕ) (sign : Option ℕ) (fills : List Fill)
    → AddsSoFar order words size sign size fills fills
none_added order words size sign fills at bytes filled = (filled, λ k from below. absurd (omega (arith, from, below)))

pub above_added : (order : Order) (words : Words) (size : ℕ) (sign : Option ℕ) (end : ℕ) (old now new : List Fill) (fill : Fill)
    → AddsSoFar order words size sign end old now → new ≡ now ++ fill ∷ []
    → fill.pick ≡ Some (place_of order words.offset words.size end) → fill.sign ≡ sign
    → AddsSoFar order words size sign (end + 1) old new
above_added order words size sign end old now new fill so_far is pick_is sign_is at bytes filled =
    let all = subst (AreFilled at bytes) is filled in
    let before = so_far at bytes (All-front (IsFilled at bytes) now fill all) in
    let last : IsFilled at bytes fill = All-last (IsFilled at bytes) now fill all in
    let Here : ℕ → Type 0 = λ k.
    byte_there at bytes (Some (place_of order words.offset words.size k)) ≡ sign_byte (byte_there at bytes sign) in
    let here : Here end = sym (ap (byte_there at bytes) pick_is) ∙ last ∙ ap (λ (o : Option ℕ). sign_byte (byte_there at bytes o)) sign_is in (
      before.0,
      λ k from below. elim (cases_lt k end) [
        | inl less ↦ before.1 k from less
        | inr past ↦ let same : end ≡ k = omega (arith, past, below) in subst Here same here
      ],
    )

pub all_added : (order : Order) (words : Words) (size : ℕ) (sign : Option ℕ) (end : ℕ) (old new : List Fill)
    → AddsSoFar order words size sign end old new → words.size ≤ end → AddsAbove order words size sign old new
all_added order words size sign end old new so_far past at bytes filled =
    let all = so_far at bytes filled in
    (all.0, λ k from below. all.1 k from (omega (arith, past, below)))

-- and the fill that a byte has no sign
pub sign_added : (order : Order) (words : Words) (size below : ℕ) (old now new : List Fill) (fill : Fill)
    → AddsAbove order words size (Some below) old now → new ≡ now ++ fill ∷ [] → fill.pick ≡ None → fill.sign ≡ Some below
    → AddsPositive order words size below old new
sign_added order words size below old now new fill so_far is pick_is sign_is at bytes filled =
    let all = subst (AreFilled at bytes) is filled in
    let before = so_far at bytes (All-front (IsFilled at bytes) now fill all) in
    let last : IsFilled at bytes fill = All-last (IsFilled at bytes) now fill all in (
      before.0,
      (
        before.1,
        sym (ap (byte_there at bytes) pick_is) ∙ last ∙ ap (λ (o : Option ℕ). sign_byte (byte_there at bytes o)) sign_is,
      ),
    )
