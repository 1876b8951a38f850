-- A string that is read.
use Rattle.std.proofs.Common.{◌≡◌, ℕ, zero, suc, ◌<◌, Bool, true, false, ◌||◌, nat_lt, nat_eq, List, [], ◌∷◌, length, take, drop, not}
use Rattle.std.proofs.Common.{Option, Some, None, Ok, refl, sym, ap, ◌∙◌, subst, arith}
use Rattle.std.specs.Prelude.{option_map, IsOk, if◌then◌else◌}
use Rattle.std.proofs.lemmas.Bool.Decides.{nat_tests}
use Rattle.evp_format.specs.declared.broken.Broken.TheVariants.{BlockPlace}
use Rattle.evp_format.specs.Datum.{text}
use Rattle.evp_format.specs.Text.{HasNoZero}
use Rattle.evp_format.specs.Viewing.{Image, unless, view_string, ended_text, until_zero, viewed}

-- a string that has a view is the bytes up to its zero byte
pub record TextRead (image : Image) (q : ℕ) : Type 0 where
  pub bytes : List ℕ
  pub ended : until_zero (drop q image.bytes) ≡ Some bytes
  pub value : viewed (view_string image [] 0 q) ≡ Ok (text bytes)

ended_read : (image : Image) (q : ℕ) (found : Option (List ℕ)) → IsOk (viewed (ended_text [] q found)) → (bytes : List ℕ)
    × (found ≡ Some bytes) × (viewed (ended_text [] q found) ≡ Ok (text bytes))
ended_read image q None ok = cc
ended_read image q (Some bytes) ok = (bytes, refl, refl)

passed_string : (image : Image) (q : ℕ) (test : Bool)
    → IsOk (viewed (unless test (BlockPlace []) (λ _. ended_text [] q (until_zero (drop q image.bytes)))))
    → (bytes : List ℕ) × (until_zero (drop q image.bytes) ≡ Some bytes)
    × (viewed (unless test (BlockPlace []) (λ _. ended_text [] q (until_zero (drop q image.bytes)))) ≡ Ok (text bytes))
passed_string image q true ok = cc
passed_string image q false ok = ended_read image q (until_zero (drop q image.bytes)) ok

pub text_read : (image : Image) (q : ℕ) → 0 < q → IsOk (viewed (view_string image [] 0 q)) → TextRead image q
text_read image zero some ok = absurd (omega arith)
text_read image (suc p) some ok =
    let found = passed_string image (suc p) (nat_lt (suc p) 0 || not (nat_lt (suc p) (length image.bytes))) ok in
    record { bytes = found.0; ended = found.1; value = found.2 }

until_zero_step : (byte : ℕ) (bytes : List ℕ) (test : Bool) (rest : Option (List ℕ)) (before : List ℕ)
    → (if test then Some [] else option_map (λ more. byte ∷ more) rest) ≡ Some before
    → ((more : List ℕ) → rest ≡ Some more → take (length more) bytes ≡ more)
    → take (length before) (byte ∷ bytes) ≡ before
until_zero_step byte bytes true rest before is taken =
    let none : [] ≡ before = cc in
    ap (λ (b : List ℕ). take (length b) (byte ∷ bytes)) (sym none) ∙ none
until_zero_step byte bytes false None before is taken = cc
until_zero_step byte bytes false (Some more) before is taken =
    let made : byte ∷ more ≡ before = cc in
    ap (λ (b : List ℕ). take (length b) (byte ∷ bytes)) (sym made) ∙ ap (λ (b : List ℕ). byte ∷ b) (taken more refl) ∙ made

pub take-until_zero : (bytes before : List ℕ) → until_zero bytes ≡ Some before → take (length before) bytes ≡ before
take-until_zero [] before is = cc
take-until_zero (byte ∷ bytes) before is = until_zero_step byte bytes (nat_eq byte 0) (until_zero bytes) before is
    (λ more same. take-until_zero bytes more same)

no_zero_step : (byte : ℕ) (test : Bool) (rest : Option (List ℕ)) (before : List ℕ) → nat_eq byte 0 ≡ test
    → (if test then Some [] else option_map (λ more. byte ∷ more) rest) ≡ Some before
    → ((more : List ℕ) → rest ≡ Some more → HasNoZero more) → HasNoZero before
no_zero_step byte true rest before tested is none_in =
    let none : [] ≡ before = cc in
    let P : List ℕ → Type 0 = λ b. HasNoZero b in subst P none tt
no_zero_step byte false None before tested is none_in = cc
no_zero_step byte false (Some more) before tested is none_in =
    let made : byte ∷ more ≡ before = cc in
    let P : List ℕ → Type 0 = λ b. HasNoZero b in
    let differs : byte ≡ 0 → ⊥ = λ zero_byte. grind (arith, nat_tests) in
    subst P made (differs, none_in more refl)

-- no byte before the first zero byte is zero
pub HasNoZero-until_zero : (bytes before : List ℕ) → until_zero bytes ≡ Some before → HasNoZero before
HasNoZero-until_zero [] before is = cc
HasNoZero-until_zero (byte ∷ bytes) before is = no_zero_step byte (nat_eq byte 0) (until_zero bytes) before refl is
    (λ more same. HasNoZero-until_zero bytes more same)
