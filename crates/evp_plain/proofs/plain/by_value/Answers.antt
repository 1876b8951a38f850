use Rattle.std.proofs.Common.{◌≡◌, ℕ, ◌<◌, ap, sym, ◌∙◌, subst, arith}
use Rattle.evp_format.specs.Datum.{Datum}
use Rattle.evp_format.specs.Layout.{Layout}
use Rattle.evp_format.specs.Laws.{IsReceivers}
use Rattle.evp_format.specs.ValueView.{datum_of}
use Rattle.evp_format.proofs.Descriptions.{bytes_are}
use Rattle.evp_plain.proofs.Received.{received_plainly}
use Rattle.evp_plain.proofs.plain.by_value.Goals as goal

pub pack-requires-clause-of_format : goal.pack-requires-clause-of_format
pack-requires-clause-of_format c =
    let tells = c.in_ok-converted.ensures in
    (received_plainly c.args.item c.args.to.now c.format-from.result.now c.args.bytes.now (datum_of c.in_ok-value.value)
    (datum_of c.in_ok-converted.converted) c.args.limit tells.0
    (bytes_are c.args.bytes.now (λ k. omega (arith, c.type_inv.bytes k))) c.requires c.format-from.ensures.kept
    c.format-from.ensures.value c.types-sender.ensures.laid c.types-receiver.ensures.laid c.in_ok-value.ensures tells.1).of_format

pub pack-requires-clause-small : goal.pack-requires-clause-small
pack-requires-clause-small c =
    let tells = c.in_ok-converted.ensures in
    let known =
    received_plainly c.args.item c.args.to.now c.format-from.result.now c.args.bytes.now (datum_of c.in_ok-value.value)
    (datum_of c.in_ok-converted.converted) c.args.limit tells.0
    (bytes_are c.args.bytes.now (λ k. omega (arith, c.type_inv.bytes k))) c.requires c.format-from.ensures.kept
    c.format-from.ensures.value c.types-sender.ensures.laid c.types-receiver.ensures.laid c.in_ok-value.ensures tells.1 in
    omega (arith, known.packed, known.within, c.ranges.limit)
