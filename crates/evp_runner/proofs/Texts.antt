-- The text before the first zero byte.
use Rattle.std.proofs.Common.{◌≡◌, ℕ, suc, ◌+◌, Bool, true, false, nat_eq, subst, arith, List, [], ◌∷◌, ◌++◌, length, take, Option, Some}
use Rattle.std.proofs.Common.{None, refl, ap, ◌∙◌}
use Rattle.std.specs.Prelude.{option_map, if◌then◌else◌}
use Rattle.std.proofs.lemmas.Bool.{eqb-true}
use Rattle.evp_plan.specs.Standing.{ended}
use Rattle.evp_runner.specs.Pieces.{block_of}
use Rattle.evp_format.specs.Viewing.{until_zero}
use Rattle.evp_record.proofs.TextsRead.{take-until_zero}

text_at : (bytes : List ℕ) (n : ℕ) (found : Option (List ℕ)) → until_zero bytes ≡ found → Some n ≡ option_map length found
    → Some (take n bytes) ≡ found
text_at bytes n None is long = cc
text_at bytes n (Some text) is long =
    let same : n ≡ length text = cc in
    ap Some (ap (λ (k : ℕ). take k bytes) same ∙ take-until_zero bytes text is)

pub text_before : (bytes : List ℕ) (n : ℕ) → Some n ≡ option_map length (until_zero bytes) → Some (take n bytes) ≡ until_zero bytes
text_before bytes n long = text_at bytes n (until_zero bytes) refl long

-- with the zero byte
zero_found : (byte : ℕ) (bytes : List ℕ) (rest : Option (List ℕ)) (test : Bool) (t : List ℕ) → nat_eq byte 0 ≡ test
    → (if test then Some [] else option_map (λ r. byte ∷ r) rest) ≡ Some t
    → ((r : List ℕ) → rest ≡ Some r → take (length r + 1) bytes ≡ r ++ 0 ∷ []) → take (length t + 1) (byte ∷ bytes) ≡ t ++ 0 ∷ []
zero_found byte bytes rest true t test found behind =
    let none : [] ≡ t = cc in
    let zero_byte : byte ≡ 0 = eqb-true byte 0 test in
    let P : List ℕ → Type 0 = λ s. take (length s + 1) (byte ∷ bytes) ≡ s ++ 0 ∷ [] in
    subst P none (ap (λ (b : ℕ). b ∷ []) zero_byte)
zero_found byte bytes None false t test found behind = cc
zero_found byte bytes (Some r) false t test found behind =
    let whole : byte ∷ r ≡ t = cc in
    let P : List ℕ → Type 0 = λ s. take (length s + 1) (byte ∷ bytes) ≡ s ++ 0 ∷ [] in
    let one : suc (length r) + 1 ≡ suc (length r + 1) = omega arith in
    subst P whole (ap (λ (n : ℕ). take n (byte ∷ bytes)) one ∙ ap (λ (rest : List ℕ). byte ∷ rest) (behind r refl))

take-block : (bytes t : List ℕ) → until_zero bytes ≡ Some t → take (length t + 1) bytes ≡ t ++ 0 ∷ []
take-block [] t found = cc
take-block (byte ∷ bytes) t found = zero_found byte bytes (until_zero bytes) (nat_eq byte 0) t refl found (λ r is. take-block bytes r is)

block_at : (bytes : List ℕ) (n : ℕ) (found : Option (List ℕ)) → until_zero bytes ≡ found → Some n ≡ option_map length found
    → Some (take (n + 1) bytes) ≡ block_of (ended found)
block_at bytes n None is long = cc
block_at bytes n (Some t) is long =
    let same : n ≡ length t = cc in
    ap Some (ap (λ (k : ℕ). take (k + 1) bytes) same ∙ take-block bytes t is)

pub block_before : (bytes : List ℕ) (n : ℕ) → Some n ≡ option_map length (until_zero bytes)
    → Some (take (n + 1) bytes) ≡ block_of (ended (until_zero bytes))
block_before bytes n long = block_at bytes n (until_zero bytes) refl long
