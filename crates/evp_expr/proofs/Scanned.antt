-- The tokens of texts that stand one behind the other.
use Rattle.std.proofs.Common.{◌≡◌, ℕ, suc, ◌+◌, ◌-◌, List, [], ◌∷◌, ◌++◌, length, append_assoc, refl, sym, ◌∙◌, ap, arith}
use Rattle.std.proofs.Common.{length-append}
use Rattle.std.proofs.lemmas.List.{append-nil}
use Rattle.std.proofs.Math.Seq.{drop-append_seam}
use Rattle.evp_expr.specs.declared.token.Placed.{Placed}
use Rattle.evp_expr.specs.declared.token.Token.{Token}
use Rattle.evp_expr.specs.Lexing.{placed, Scan, Tokens, Faulty, behind_token, scan, tokens_of}
use Rattle.evp_expr.specs.Printing.{spaced}
use Rattle.evp_expr.proofs.Scans.{after_tokens, scan_passes, scan_blank, scan_token}
use Rattle.evp_expr.proofs.Lexemes.{Reads, reads}

-- from this place on these bytes are these tokens, whatever follows them
pub data Scanned : ℕ → List ℕ → List Placed → Type 0 where
  scanned : {at : ℕ} {bytes : List ℕ} {ts : List Placed}
      → ((rest : List ℕ) → scan 0 at (bytes ++ rest) ≡ after_tokens ts (scan 0 (at + length bytes) rest)) → Scanned at bytes ts

after_tokens-append : (us vs : List Placed) (s : Scan) → after_tokens us (after_tokens vs s) ≡ after_tokens (us ++ vs) s
after_tokens-append us vs (Tokens ts) = ap Tokens (sym (append_assoc us vs ts))
after_tokens-append us vs (Faulty f) = refl

after_tokens-one : (p : Placed) (s : Scan) → behind_token p s ≡ after_tokens (p ∷ []) s
after_tokens-one p (Tokens ts) = refl
after_tokens-one p (Faulty f) = refl

-- two texts
pub both : (at : ℕ) (xs ys : List ℕ) (us vs : List Placed) → Scanned at xs us → Scanned (at + length xs) ys vs
    → Scanned at (xs ++ ys) (us ++ vs)
both at xs ys us vs (scanned f) (scanned g) =
    scanned (λ rest.
    let place : at + length xs + length ys ≡ at + length (xs ++ ys) = omega (arith, length-append xs ys) in
    ap (scan 0 at) (append_assoc xs ys rest)
    ∙ (f (ys ++ rest)
    ∙ (ap (after_tokens us) (g rest)
    ∙ (after_tokens-append us vs (scan 0 (at + length xs + length ys) rest) ∙ ap (λ x. after_tokens (us ++ vs) (scan 0 x rest)) place))))

-- one token and its blank
pub one : (at : ℕ) (bytes : List ℕ) (t : Token) → Reads bytes t → Scanned at (spaced bytes) (placed at t ∷ [])
one at [] t h = elim h [ ]
one at (a ∷ others) t (reads dark whole) =
    scanned (λ rest.
    let count : suc (length others) - 1 ≡ length others = omega arith in
    let end : suc (suc at + length others) ≡ at + length (spaced (a ∷ others)) = omega (arith, length-append others (32 ∷ [])) in
    let room = length-append others (32 ∷ rest) in
    ap (λ x. scan 0 at (a ∷ x)) (append_assoc others (32 ∷ []) rest)
    ∙ (scan_token at a (others ++ 32 ∷ rest) t (suc (length others)) dark (whole rest)
    ∙ (ap (λ n. behind_token (placed at t) (scan n (suc at) (others ++ 32 ∷ rest))) count
    ∙ (ap (behind_token (placed at t)) (scan_passes (length others) (suc at) (others ++ 32 ∷ rest) (omega (arith, room)))
    ∙ (ap (λ x. behind_token (placed at t) (scan 0 (suc at + length others) x)) (drop-append_seam others (32 ∷ rest))
    ∙ (ap (behind_token (placed at t)) (scan_blank (suc at + length others) 32 rest refl)
    ∙ (ap (λ x. behind_token (placed at t) (scan 0 x rest)) end
    ∙ after_tokens-one (placed at t) (scan 0 (at + length (spaced (a ∷ others))) rest))))))))

-- a whole text
pub whole_text : (bytes : List ℕ) (ts : List Placed) → Scanned 0 bytes ts → tokens_of bytes ≡ Tokens ts
whole_text bytes ts (scanned f) =
    ap (scan 0 0) (sym (append-nil bytes)) ∙ (f [] ∙ ap Tokens (append-nil ts))
