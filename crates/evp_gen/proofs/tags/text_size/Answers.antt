use Rattle.std.proofs.Common.{length, sym, ap, arith}
use Rattle.evp_gen.proofs.Decimals.{one_figure, two_figures}
use Rattle.evp_gen.proofs.tags.text_size.Goals as goal

pub returns-then-number-lt10-clause-value : goal.returns-then-number-lt10-clause-value
returns-then-number-lt10-clause-value c = sym (ap length (one_figure c.args.number c.if-number-lt10.true))

pub returns-else-number-lt10-clause-value : goal.returns-else-number-lt10-clause-value
returns-else-number-lt10-clause-value c =
    let large = c.if-number-lt10.false in
    sym (ap length (two_figures c.args.number c.requires (omega (arith, large))))
