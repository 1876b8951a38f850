use Rattle.std.proofs.Common.{subst}
use Rattle.evp_wide.specs.Zeros.{IsZeroBehind}
use Rattle.evp_record.specs.Record.{Record}
use Rattle.evp_record.proofs.Glances.{null_seen, text_seen}
use Rattle.evp_record.proofs.easy.Glance.text.Goals as goal

pub returns-then-from-eq0-clause-value : goal.returns-then-from-eq0-clause-value
returns-then-from-eq0-clause-value c =
    null_seen c.args.self.now c.args.at c.args.mark c.word-from.result c.requires.wide c.word-from.ensures
    c.if-from-eq0.true

pub returns-clause-value : goal.returns-clause-value
returns-clause-value c =
    text_seen c.args.self.now c.args.at c.args.mark c.word-from.result c.in_ok-count.count c.requires.wide c.word-from.ensures c.requires.some
    c.if-from-mark.false
    (subst (λ (held : Record). IsZeroBehind held.bytes c.word-from.result c.in_ok-count.count) c.self.view_is c.in_ok-count.ensures.count)
