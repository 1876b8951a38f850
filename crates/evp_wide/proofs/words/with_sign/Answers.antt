use Rattle.evp_wide.proofs.Residues.{sign_turned}
use Rattle.evp_wide.proofs.words.with_sign.Goals as goal

pub returns : goal.returns
returns c =
    sign_turned c.args.size c.args.word c.half_of-half.result c.requires.width c.half_of-half.ensures.value c.half_of-half.ensures.half
    c.requires.below
