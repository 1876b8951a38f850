use Rattle.std.proofs.Common.{◌≡◌, false, true, refl, sym, ◌∙◌, arith}
use Rattle.std.proofs.lemmas.Str.Parse.{digit_at}
use Rattle.evp_format.proofs.FixedTexts.{fixed_yes, fixed_no}
use Rattle.evp_format.proofs.type_text.fixed_of.Goals as goal

pub returns-then-not-begins_number : goal.returns-then-not-begins_number
returns-then-not-begins_number c =
    sym (fixed_no c.args.text.now (λ numeral first least most.
    let impossible : false ≡ true = c.if-not-begins_number.ensures.1 (first, (digit_at c.args.text.now 0 numeral.1 numeral.0).1) in cc))

pub returns-in_err-count : goal.returns-in_err-count
returns-in_err-count c =
    c.from_residual.ensures ∙ sym (fixed_no c.args.text.now
    (λ numeral first least most. c.in_err-count.ensures (numeral, omega (arith, most))))

pub returns-then-is_fixed_count : goal.returns-then-is_fixed_count
returns-then-is_fixed_count c =
    let read = c.in_ok-count.ensures in
    let begins = c.if-not-begins_number.ensures.0 refl in
    let bounds = c.if-is_fixed_count.ensures.0 refl in
    let digit = begins.0 in
    sym (fixed_yes c.args.text.now c.in_ok-count.count read.0.0 (λ zero. omega (arith, zero, digit)) read.1 bounds.0 bounds.1)

pub returns-else-is_fixed_count : goal.returns-else-is_fixed_count
returns-else-is_fixed_count c =
    let read = c.in_ok-count.ensures in
    let same = read.1 in
    sym (fixed_no c.args.text.now (λ numeral first least most.
    let impossible : false ≡ true = c.if-is_fixed_count.ensures.1 (omega (arith, same, least), omega (arith, same, most)) in cc))
