use Rattle.std.proofs.Common.{◌∙◌, ℕ, pos, length, ap}
use Rattle.evp_base.specs.Numbers.{number, digits}
use Rattle.evp_wide.proofs.Residues.{digits-word}
use Rattle.evp_wide.proofs.words.rewrite_number.Goals as goal

pub returns : goal.returns
returns c =
    let size = length c.args.out.now in
    c.put_word.ensures ∙ ap (λ (n : ℕ). digits c.args.out_order size (pos n)) c.get_number_word-word.ensures
    ∙ digits-word c.args.out_order size (number c.args.from_order c.args.kind c.args.from.now) c.requires.out
