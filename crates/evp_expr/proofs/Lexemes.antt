-- The text of a token, with a blank behind it, is read as that token.
use Rattle.std.proofs.Common.{◌≡◌, ℕ, suc, ◌+◌, ◌-◌, ◌*◌, ◌/◌, ◌%◌, ◌^◌, ◌<◌, ◌≤◌, List, [], ◌∷◌, ◌++◌, length, take, drop, append_assoc}
use Rattle.std.proofs.Common.{Bool, true, false, nat_le, nat_lt, pos, refl, ◌∙◌, ap, arith, length-append}
use Rattle.std.proofs.Math.Seq.{take-append_seam, drop-append_seam}
use Rattle.std.proofs.lemmas.Bool.{and_parts, and_from}
use Rattle.std.proofs.lemmas.Bool.Decides.{nat_tests}
use Rattle.std.proofs.lemmas.Fmt.{decimal_by_steps_wide}
use Rattle.std.proofs.lemmas.List.Folds.{list_all-append}
use Rattle.std.specs.Fmt.{decimal}
use Rattle.std.specs.List.{list_all, prefix_len}
use Rattle.evp_base.specs.Name.{begins_name, continues_name, is_digit, is_name}
use Rattle.evp_expr.specs.declared.token.Token.{Token}
use Rattle.evp_expr.specs.declared.token.Token.TheVariants as token
use Rattle.evp_expr.specs.declared.operator.Operator.{Operator}
use Rattle.evp_expr.specs.declared.operator.Operator.TheVariants as operator
use Rattle.evp_expr.specs.Lexing.{Whole, is_blank, is_plain, word, numeral, quoted, closed, decimal_from, lexeme}
use Rattle.evp_expr.specs.Printing.{quotes, operator_text}
use Rattle.evp_expr.proofs.Names.{prefix_more}

-- these bytes are read as that token where a blank follows them, and begin with none
pub data Reads : List ℕ → Token → Type 0 where
  reads : {a : ℕ} {others : List ℕ} {t : Token} → is_blank a ≡ false
      → ((rest : List ℕ) → lexeme (a ∷ (others ++ 32 ∷ rest)) ≡ Whole t (suc (length others))) → Reads (a ∷ others) t

-- those that pass stand up to one that doesn't
prefix_stops : (p : ℕ → Bool) (xs : List ℕ) (stop : ℕ) (rest : List ℕ) → list_all p xs ≡ true → p stop ≡ false
    → prefix_len p (xs ++ stop ∷ rest) ≡ length xs
prefix_stops p [] stop rest all none = rw none refl
prefix_stops p (x ∷ xs) stop rest all none =
    let both = and_parts (p x) (list_all p xs) all in
    prefix_more p x (xs ++ stop ∷ rest) both.0 ∙ ap suc (prefix_stops p xs stop rest both.1 none)

-- a name
name_first : (first : ℕ) → begins_name first ≡ true → (is_blank first ≡ false) × (continues_name first ≡ true)
name_first first begins = (grind (arith, nat_tests), rw begins refl)

pub name_reads : (bytes : List ℕ) → is_name bytes ≡ true → Reads bytes (token.Name bytes)
name_reads [] h = absurd (cc)
name_reads (first ∷ others) h =
    let begins = (and_parts (begins_name first) _ h).0 in
    let more = and_parts (list_all continues_name others) (nat_le (length others) 63) (and_parts (begins_name first) _ h).1 in
    let is = name_first first begins in
    let short : nat_le (suc (length others)) 64 ≡ true = grind (arith, nat_tests) in
    let all : list_all continues_name (first ∷ others) ≡ true = and_from _ _ is.1 more.0 in
    reads is.0 (λ rest.
    let run = prefix_stops continues_name (first ∷ others) 32 rest all refl in
    let whole : word (suc (length others)) (first ∷ (others ++ 32 ∷ rest)) ≡ Whole (token.Name (first ∷ others)) (suc (length others)) =
    rw (short, word) (ap (λ x. Whole (token.Name x) (suc (length others))) (take-append_seam (first ∷ others) (32 ∷ rest))) in
    rw (begins, lexeme) (ap (λ n. word n (first ∷ (others ++ 32 ∷ rest))) run ∙ whole))

-- a number's digits
record IsNumeral (n : ℕ) (digits : List ℕ) : Type 0 where
  pub some_digits : 0 < length digits
  pub all : list_all is_digit digits ≡ true
  pub value : decimal_from 0 digits ≡ n

decimal_from-append : (n : ℕ) (xs : List ℕ) (d : ℕ) → decimal_from n (xs ++ d ∷ []) ≡ 10 * decimal_from n xs + (d - 48)
decimal_from-append n [] d = refl
decimal_from-append n (x ∷ xs) d = decimal_from-append (10 * n + (x - 48)) xs d

one_digit : (n : ℕ) → n < 10 → IsNumeral n ((48 + n) ∷ [])
one_digit n h = record { some_digits = omega arith; all = grind (arith, nat_tests); value = omega arith }

more_digits : (n : ℕ) (ds : List ℕ) → 10 ≤ n → IsNumeral (n / 10) ds → IsNumeral n (ds ++ ((48 + n % 10) ∷ []))
more_digits n ds h i =
    let last : is_digit (48 + n % 10) ≡ true = grind (arith, nat_tests) in
    let one : list_all is_digit ((48 + n % 10) ∷ []) ≡ true = rw last refl in
    record {
      some_digits = omega (arith, length-append ds ((48 + n % 10) ∷ []));
      all = list_all-append is_digit ds ((48 + n % 10) ∷ []) ∙ and_from _ _ i.all one;
      value = decimal_from-append 0 ds (48 + n % 10) ∙ omega (arith, i.value);
    }

decimal_numeral : (n : ℕ) → n < 2 ^ 127 → IsNumeral n (decimal n)
decimal_numeral n h = decimal_by_steps_wide IsNumeral one_digit more_digits n (omega arith)

digit_first : (first : ℕ) → is_digit first ≡ true → (is_blank first ≡ false) × (begins_name first ≡ false)
digit_first first h = (grind (arith, nat_tests), grind (arith, nat_tests))

small_number : (m n : ℕ) → m ≡ n → n < 2 ^ 127 → nat_lt m (2 ^ 127) ≡ true
small_number m n e h = grind (arith, nat_tests)

numeral_reads : (n : ℕ) (digits : List ℕ) → n < 2 ^ 127 → IsNumeral n digits → Reads digits (token.Number (pos n))
numeral_reads n [] h i = absurd (omega (arith, i.some_digits))
numeral_reads n (first ∷ others) h i =
    let digit = (and_parts (is_digit first) _ i.all).0 in
    let is = digit_first first digit in
    reads is.0 (λ rest.
    let run = prefix_stops is_digit (first ∷ others) 32 rest i.all refl in
    let front = take-append_seam (first ∷ others) (32 ∷ rest) in
    let value : decimal_from 0 (take (suc (length others)) (first ∷ (others ++ 32 ∷ rest))) ≡ n = ap (decimal_from 0) front ∙ i.value in
    let small : nat_lt (decimal_from 0 (take (suc (length others)) (first ∷ (others ++ 32 ∷ rest)))) (2 ^ 127)
    ≡ true = small_number _ n value h in
    let whole : numeral (suc (length others)) (first ∷ (others ++ 32 ∷ rest)) ≡ Whole (token.Number (pos n)) (suc (length others)) =
    rw (small, numeral) (ap (λ x. Whole (token.Number (pos x)) (suc (length others))) value) in
    rw (is.1, digit, lexeme) (ap (λ n. numeral n (first ∷ (others ++ 32 ∷ rest))) run ∙ whole))

pub number_reads : (n : ℕ) → n < 2 ^ 127 → Reads (decimal n) (token.Number (pos n))
number_reads n h = numeral_reads n (decimal n) h (decimal_numeral n h)

-- a text in quotes
pub text_reads : (text : List ℕ) → list_all is_plain text ≡ true → Reads (quotes text) (token.Text text)
text_reads text h =
    reads refl (λ rest.
    let split = append_assoc text (34 ∷ []) (32 ∷ rest) in
    let run = prefix_stops is_plain text 34 (32 ∷ rest) h refl in
    let front = take-append_seam text (34 ∷ 32 ∷ rest) in
    let behind = drop-append_seam text (34 ∷ 32 ∷ rest) in
    let long : length text + 2 ≡ suc (length (text ++ 34 ∷ [])) = omega (arith, length-append text (34 ∷ [])) in
    let whole : closed (take (length text) (text ++ 34 ∷ 32 ∷ rest)) (drop (length text) (text ++ 34 ∷ 32 ∷ rest))
    ≡ Whole (token.Text text) (length text + 2) =
    rw (front, behind) refl in
    ap (λ x. quoted (prefix_len is_plain x) x) split
    ∙ (ap (λ n. quoted n (text ++ 34 ∷ 32 ∷ rest)) run ∙ (whole ∙ ap (Whole (token.Text text)) long)))

-- an operator
pub operator_reads : (op : Operator) → Reads (operator_text op) (token.Operator op)
operator_reads operator.Or = reads refl (λ rest. refl)
operator_reads operator.And = reads refl (λ rest. refl)
operator_reads operator.Equal = reads refl (λ rest. refl)
operator_reads operator.NotEqual = reads refl (λ rest. refl)
operator_reads operator.Less = reads refl (λ rest. refl)
operator_reads operator.LessEqual = reads refl (λ rest. refl)
operator_reads operator.Greater = reads refl (λ rest. refl)
operator_reads operator.GreaterEqual = reads refl (λ rest. refl)
operator_reads operator.Add = reads refl (λ rest. refl)
operator_reads operator.Subtract = reads refl (λ rest. refl)
operator_reads operator.Multiply = reads refl (λ rest. refl)
operator_reads operator.Divide = reads refl (λ rest. refl)
operator_reads operator.Remainder = reads refl (λ rest. refl)
