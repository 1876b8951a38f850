use Rattle.std.proofs.Common.{ℕ, length, take, drop, refl, sym, ap, ◌∙◌}
use Rattle.std.proofs.lemmas.List.{take_at, drop_at}
use Rattle.evp_format.specs.TypeText.{word_part, bracket_part}
use Rattle.evp_format.proofs.TypeTexts.{parts_together}
use Rattle.evp_format.proofs.type_text.parts_of.Goals as goal

pub returns-clause-word : goal.returns-clause-word
returns-clause-word c =
    let text = c.args.text.now in
    let front = length (word_part text) in
    c.split_at.ensures.front ∙ ap (λ (n : ℕ). take n text) c.word_length.ensures.value
    ∙ ap (take front) (sym (parts_together text)) ∙ take_at (word_part text) (bracket_part text) front refl

pub returns-clause-brackets : goal.returns-clause-brackets
returns-clause-brackets c =
    let text = c.args.text.now in
    let front = length (word_part text) in
    c.split_at.ensures.back ∙ ap (λ (n : ℕ). drop n text) c.word_length.ensures.value
    ∙ ap (drop front) (sym (parts_together text)) ∙ drop_at (word_part text) (bracket_part text) front refl
