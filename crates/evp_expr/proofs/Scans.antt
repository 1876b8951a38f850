-- Looking for tokens goes on behind each token.
use Rattle.std.proofs.Common.{◌≡◌, ℕ, zero, suc, ◌+◌, ◌-◌, ◌^◌, ◌<◌, ◌≤◌, List, [], ◌∷◌, ◌++◌, length, take, drop, get_or, append_assoc}
use Rattle.std.proofs.Common.{Bool, true, false, nat_eq, nat_le, nat_lt, Option, Some, None, pos, refl, sym, ◌∙◌, ap, subst, arith}
use Rattle.std.proofs.Common.{add-zero, length-take, length-drop, drop-cons}
use Rattle.std.proofs.lemmas.List.{drop-drop, take_all}
use Rattle.std.proofs.lemmas.List.Sums.{prefix_len-le-length}
use Rattle.std.specs.List.{prefix_len}
use Rattle.evp_base.specs.Name.{begins_name, continues_name, is_digit}
use Rattle.evp_expr.specs.declared.token.Placed.{Placed}
use Rattle.evp_expr.specs.declared.token.Token.{Token}
use Rattle.evp_expr.specs.declared.token.Token.TheVariants as token
use Rattle.evp_expr.specs.Lexing.{placed, Lexeme, Whole, Missing, TooLarge, is_blank, is_plain, word, numeral, closed, quoted, short_symbol}
use Rattle.evp_expr.specs.Lexing.{symbol, symbol_of, double_of, decimal_from, lexeme, Scan, Tokens, Faulty, behind_token, scan}

-- the tokens found, and those of what was scanned behind them
abbrev pub after_tokens : List Placed → Scan → Scan
after_tokens found (Tokens others) = Tokens (found ++ others)
after_tokens found (Faulty f) = Faulty f

pub after_tokens-behind : (found : List Placed) (p : Placed) (s : Scan)
    → after_tokens found (behind_token p s) ≡ after_tokens (found ++ p ∷ []) s
after_tokens-behind found p (Tokens others) = ap Tokens (sym (append_assoc found (p ∷ []) others))
after_tokens-behind found p (Faulty f) = refl

-- the bytes of a token are passed over
pub scan_passes : (n at : ℕ) (bytes : List ℕ) → n ≤ length bytes → scan n at bytes ≡ scan 0 (at + n) (drop n bytes)
scan_passes zero at bytes h = rw add-zero
scan_passes (suc n) at [] h = absurd (omega arith)
scan_passes (suc n) at (a ∷ bytes) h =
    let e : suc at + n ≡ at + suc n = omega arith in
    scan_passes n (suc at) bytes (omega arith) ∙ ap (λ x. scan 0 x (drop n bytes)) e

pub scan_blank : (at : ℕ) (a : ℕ) (bytes : List ℕ) → is_blank a ≡ true → scan 0 at (a ∷ bytes) ≡ scan 0 (suc at) bytes
scan_blank at a bytes b = rw (b, scan)

pub scan_token : (at : ℕ) (a : ℕ) (bytes : List ℕ) (t : Token) (n : ℕ) → is_blank a ≡ false → lexeme (a ∷ bytes) ≡ Whole t n
    → scan 0 at (a ∷ bytes) ≡ behind_token (placed at t) (scan (n - 1) (suc at) bytes)
scan_token at a bytes t n b e = rw (b, e, scan)

-- what a token's bytes are
word_length : (k : ℕ) (bytes : List ℕ) (t : Token) (n : ℕ) → word k bytes ≡ Whole t n → k ≡ n
word_length k bytes t n e = go (nat_le k 64) e
  where
    go : (b : Bool) → (elim b as (λ y. Lexeme) [ true ↦ Whole (token.Name (take k bytes)) k | false ↦ Missing ]) ≡ Whole t n → k ≡ n
    go true e = cc
    go false e = absurd (cc)

numeral_length : (k : ℕ) (bytes : List ℕ) (t : Token) (n : ℕ) → numeral k bytes ≡ Whole t n → k ≡ n
numeral_length k bytes t n e = go (nat_lt (decimal_from 0 (take k bytes)) (2 ^ 127)) e
  where
    go : (b : Bool) → (elim b as (λ y. Lexeme) [
      | true ↦ Whole (token.Number (pos (decimal_from 0 (take k bytes)))) k
      | false ↦ TooLarge
    ]) ≡ Whole t n → k ≡ n
    go true e = cc
    go false e = absurd (cc)

closed_length : (inner bytes : List ℕ) (t : Token) (n : ℕ) → closed inner bytes ≡ Whole t n → (n ≡ length inner + 2) × (0 < length bytes)
closed_length inner [] t n e = absurd (cc)
closed_length inner (byte ∷ bytes) t n e = go (nat_eq byte 34) e
  where
    go : (b : Bool) → (elim b as (λ y. Lexeme) [
      | true ↦ Whole (token.Text inner) (length inner + 2)
      | false ↦ Missing
    ]) ≡ Whole t n → (n ≡ length inner + 2) × (0 < length (byte ∷ bytes))
    go true e = (cc, omega arith)
    go false e = absurd (cc)

quoted_length : (k : ℕ) (bytes : List ℕ) (t : Token) (n : ℕ) → quoted k bytes ≡ Whole t n → (0 < n) × (n ≤ suc (length bytes))
quoted_length k bytes t n e =
    let h = closed_length (take k bytes) (drop k bytes) t n e in
    (omega (arith, h.0), omega (arith, h.0, h.1, length-take k bytes, length-drop k bytes))

short_length : (a : ℕ) (t : Token) (n : ℕ) → short_symbol a ≡ Whole t n → n ≡ 1
short_length a t n e = go (symbol_of a) e
  where
    go : (o : Option Token) → (elim o as (λ y. Lexeme) [ Some x ↦ Whole x 1 | None ↦ Missing ]) ≡ Whole t n → n ≡ 1
    go (Some x) e = cc
    go None e = absurd (cc)

symbol_length : (a : ℕ) (bytes : List ℕ) (t : Token) (n : ℕ) → symbol a bytes ≡ Whole t n → (0 < n) × (n ≤ suc (length bytes))
symbol_length a [] t n e = let h = short_length a t n e in (omega arith, omega arith)
symbol_length a (b ∷ bytes) t n e = go (double_of a b) e
  where
    go : (o : Option Token) → (elim o as (λ y. Lexeme) [
      | Some x ↦ Whole x 2
      | None ↦ short_symbol a
    ]) ≡ Whole t n → (0 < n) × (n ≤ suc (length (b ∷ bytes)))
    go (Some x) e = let h : 2 ≡ n = cc in (omega arith, omega arith)
    go None e = let h = short_length a t n e in (omega arith, omega arith)

-- a run of bytes of which the first passes has at least one, and no more than there are
run_length : (p : ℕ → Bool) (a : ℕ) (bytes : List ℕ) (n : ℕ) → p a ≡ true → prefix_len p (a ∷ bytes) ≡ n → (0 < n)
    × (n ≤ length (a ∷ bytes))
run_length p a bytes n h e =
    let one : prefix_len p (a ∷ bytes) ≡ 1 + prefix_len p bytes = rw h refl in
    (omega arith, omega (arith, prefix_len-le-length p (a ∷ bytes)))

begins_continues : (a : ℕ) → begins_name a ≡ true → continues_name a ≡ true
begins_continues a h = rw h refl

-- a token has at least one byte, and no more than there are
pub lexeme_length : (a : ℕ) (bytes : List ℕ) (t : Token) (n : ℕ) → lexeme (a ∷ bytes) ≡ Whole t n → (0 < n) × (n ≤ length (a ∷ bytes))
lexeme_length a bytes t n e = go (begins_name a) (is_digit a) (nat_eq a 34) refl refl refl e
  where
    go : (letter digit quote : Bool) → begins_name a ≡ letter → is_digit a ≡ digit → nat_eq a 34 ≡ quote → (elim letter as (λ y. Lexeme) [
      | true ↦ word (prefix_len continues_name (a ∷ bytes)) (a ∷ bytes)
      | false ↦ elim digit as (λ y. Lexeme) [
        | true ↦ numeral (prefix_len is_digit (a ∷ bytes)) (a ∷ bytes)
        | false ↦ elim quote as (λ y. Lexeme) [ true ↦ quoted (prefix_len is_plain bytes) bytes | false ↦ symbol a bytes ]
      ]
    ]) ≡ Whole t n → (0 < n) × (n ≤ length (a ∷ bytes))
    go true _ _ l d q e = run_length continues_name a bytes n (begins_continues a l) (word_length _ (a ∷ bytes) t n e)
    go false true _ l d q e = run_length is_digit a bytes n d (numeral_length _ (a ∷ bytes) t n e)
    go false false true l d q e = quoted_length (prefix_len is_plain bytes) bytes t n e
    go false false false l d q e = symbol_length a bytes t n e

-- what stands behind a token that is found
pub record PastToken (text : List ℕ) (at : ℕ) (found : List Placed) (t : Token) (n : ℕ) : Type 0 where
  pub some_bytes : 0 < n
  pub within : at + n ≤ length text
  pub scanned : after_tokens found (scan 0 at (drop at text)) ≡ after_tokens (found ++ placed at t ∷ [])
      (scan 0 (at + n) (drop (at + n) text))

drop-drop-suc : (at n : ℕ) (text : List ℕ) → 0 < n → drop (n - 1) (drop (suc at) text) ≡ drop (at + n) text
drop-drop-suc at n text h =
    let e : suc at + (n - 1) ≡ at + n = omega arith in
    drop-drop (n - 1) (suc at) text ∙ ap (λ x. drop x text) e

pub past_token : (text : List ℕ) (at : ℕ) (found : List Placed) (t : Token) (n : ℕ) → at < length text → is_blank (get_or text at 0) ≡ false
    → lexeme (take (length text - at) (drop at text)) ≡ Whole t n → PastToken text at found t n
past_token text at found t n within b e =
    let cons = drop-cons text at 0 within in
    let all = take_all (length text - at) (drop at text) (omega (arith, length-drop at text)) in
    let w : lexeme (get_or text at 0 ∷ drop (suc at) text) ≡ Whole t n = subst (λ x. lexeme x ≡ Whole t n) (all ∙ cons) e in
    let h = lexeme_length (get_or text at 0) (drop (suc at) text) t n w in
    let room : n - 1 ≤ length (drop (suc at) text) = omega (arith, h.0, h.1) in
    let places : suc at + (n - 1) ≡ at + n = omega (arith, h.0) in
    record {
      some_bytes = h.0;
      within = omega (arith, h.0, h.1, length-drop (suc at) text);
      scanned = ap (λ x. after_tokens found (scan 0 at x)) cons
          ∙ (ap (λ x. after_tokens found x) (scan_token at (get_or text at 0) (drop (suc at) text) t n b w)
          ∙ (after_tokens-behind found (placed at t) (scan (n - 1) (suc at) (drop (suc at) text))
          ∙ (ap (λ x. after_tokens (found ++ placed at t ∷ []) x) (scan_passes (n - 1) (suc at) (drop (suc at) text) room)
          ∙ (ap (λ x. after_tokens (found ++ placed at t ∷ []) (scan 0 x (drop (n - 1) (drop (suc at) text)))) places
          ∙ ap (λ x. after_tokens (found ++ placed at t ∷ []) (scan 0 (at + n) x)) (drop-drop-suc at n text h.0)))));
    }
