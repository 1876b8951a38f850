use Rattle.evp_wide.proofs.ZeroBits.{zero-within, zero_behind_is}
use Rattle.evp_wide.proofs.zeros.zero_in_two.Goals as goal

pub returns-clause-count : goal.returns-clause-count
returns-clause-count c =
    zero_behind_is c.args.bytes.now c.args.from c.args.behind c.zeros_at.result c.zeros_at-2.result c.requires.near c.requires.inside
    c.zeros_at.ensures c.zeros_at-2.ensures c.if-mask-eq0.false

pub returns-clause-within : goal.returns-clause-within
returns-clause-within c =
    zero-within c.args.bytes.now c.args.from c.args.behind c.zeros_at.result c.zeros_at-2.result c.requires.near c.requires.inside
    c.zeros_at.ensures c.zeros_at-2.ensures c.if-mask-eq0.false
