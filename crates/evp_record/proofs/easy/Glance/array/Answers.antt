use Rattle.std.proofs.Common.{length, ap, arith}
use Rattle.evp_record.specs.Record.{Record}
use Rattle.evp_record.proofs.Glances.{empty_seen, array_seen}
use Rattle.evp_record.proofs.LeadFacts.{counted_lead}
use Rattle.evp_record.proofs.easy.Glance.array.Goals as goal

pub returns-then-number-eq0-clause-value : goal.returns-then-number-eq0-clause-value
returns-then-number-eq0-clause-value c =
    empty_seen c.args.self.now c.args.lead.now c.args.count c.word-number.result c.args.mark c.requires.lead c.requires.counted c.requires.plain
    c.requires.four c.word-number.ensures c.if-number-eq0.true

pub word-from-requires-clause-inside : goal.word-from-requires-clause-inside
word-from-requires-clause-inside c =
    let array = counted_lead c.args.self.now 0 c.args.lead.now c.args.count c.requires.lead c.requires.counted in
    let fits = array.pointer_inside in
    omega (arith, fits, c.requires.wide)

pub returns-clause-value : goal.returns-clause-value
returns-clause-value c =
    let room = ap (λ (held : Record). length held.bytes) c.self.view_is in
    let some = c.if-not-counts_some.ensures.0 in
    let few = c.if-not-counts_some.ensures.1 in
    array_seen c.args.self.now c.args.lead.now c.args.count c.word-number.result c.word-from.result c.args.mark c.requires.lead
    c.requires.counted c.requires.plain
    c.requires.four c.word-number.ensures (omega (arith, few)) c.requires.wide c.word-from.ensures
    c.requires.some c.if-from-mark.false (omega (arith, some)) (omega (arith, room, c.if-end-self.false))
