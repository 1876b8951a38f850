-- When a text is a number of elements.
use Rattle.std.proofs.Common.{◌≡◌, ◌≢◌, ℕ, ◌<◌, ◌≤◌, Bool, true, false, cond, List, get_or, Some, None, refl, ap, subst, ◌∙◌, arith}
use Rattle.std.specs.Prelude.{◌&&◌, nat_le}
use Rattle.std.specs.Fmt.{decimal}
use Rattle.std.specs.Str.Parse.{IsNumeral, AllDigits, digits_value}
use Rattle.std.proofs.lemmas.Bool.{and_parts, leb-true, le-leb}
use Rattle.std.proofs.lemmas.Fmt.{decimal_is_IsNumeral, decimal-digits_value, first_decimal}
use Rattle.std.proofs.lemmas.Str.Parse.{IsNumeralModel, numerals_by_value, tells_digits}
use Rattle.evp_format.specs.declared.draft.DraftShape.TheVariants.{Fixed}
use Rattle.evp_format.specs.Bytes.{bytes_equal}
use Rattle.evp_format.specs.TypeText.{fixed_of}
use Rattle.evp_format.proofs.Pushed.{bytes_equal-true, bytes_equal-same}

own : IsNumeralModel (AllDigits 10) (digits_value 10)
own = numerals_by_value (AllDigits 10) tells_digits

pub fixed_yes : (text : List ℕ) (n : ℕ) → IsNumeral 10 text → get_or text 0 0 ≢ 48 → n ≡ digits_value 10 text → 1 ≤ n → n ≤ 65536
    → fixed_of text ≡ Some (Fixed n)
unfolding fixed_of
fixed_yes text n numeral first is least most =
    let spelled : decimal (digits_value 10 text) ≡ text = decimal-digits_value own text numeral.1 numeral.0
    (λ leading. absurd (first leading)) (omega (arith, is, most)) in
    let whole : bytes_equal (decimal (digits_value 10 text)) text ≡ true = ap (λ (some : List ℕ). bytes_equal some text) spelled
    ∙ bytes_equal-same text in
    rw (← is, le-leb 1 n least, le-leb n 65536 most) (rw (ap (λ (m : ℕ). bytes_equal (decimal m) text) is ∙ whole) refl)

no_step : (text : List ℕ) (n : ℕ) (b : Bool) → ((nat_le 1 n && nat_le n 65536) && bytes_equal (decimal n) text) ≡ b
    → n ≡ digits_value 10 text
    → (IsNumeral 10 text → 48 < get_or text 0 0 → 1 ≤ digits_value 10 text → digits_value 10 text ≤ 65536 → ⊥)
    → cond b (Some (Fixed n)) None ≡ None
no_step text n true is value never =
    let parts = and_parts (nat_le 1 n && nat_le n 65536) (bytes_equal (decimal n) text) is in
    let bounds = and_parts (nat_le 1 n) (nat_le n 65536) parts.0 in
    let least = leb-true 1 n bounds.0 in
    let most = leb-true n 65536 bounds.1 in
    let spelled = bytes_equal-true (decimal n) text parts.1 in
    let facts = decimal_is_IsNumeral n (omega (arith, most)) in
    let first = first_decimal n (omega (arith, least)) (omega (arith, most)) in
    absurd (never (subst (IsNumeral 10) spelled facts.0) (subst (λ (some : List ℕ). 48 < get_or some 0 0) spelled first)
    (omega (arith, value, least)) (omega (arith, value, most)))
no_step text n false is value never = refl

pub fixed_no : (text : List ℕ) → (IsNumeral 10 text → 48 < get_or text 0 0 → 1 ≤ digits_value 10 text → digits_value 10 text ≤ 65536 → ⊥)
    → fixed_of text ≡ None
unfolding fixed_of
fixed_no text never =
    let n = digits_value 10 text in no_step text n ((nat_le 1 n && nat_le n 65536) && bytes_equal (decimal n) text) refl refl never
