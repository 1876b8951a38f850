use Rattle.std.proofs.Common.{ℕ, ◌<◌, subst, arith}
use Rattle.std.proofs.lemmas.Result.{IfOk-weaker}
use Rattle.std.specs.Prelude.{All}
use Rattle.evp_format.specs.WellLaid.{IsWellLaid}
use Rattle.evp_format.proofs.Descriptions.{bytes_are}
use Rattle.evp_action.proofs.PackedConversions.{packed_conversion}
use Rattle.evp_action.proofs.converting.packed_record.Goals as goal

pub returns-clause-packed : goal.returns-clause-packed
returns-clause-packed c =
    let laid = subst IsWellLaid c.format.ensures.value c.types-types.ensures.laid in
    let are = subst (All (λ (byte : ℕ). byte < 256)) c.requires.own
    (bytes_are c.args.bytes.now (λ k. omega (arith, c.type_inv.bytes k))) in
    IfOk-weaker c.run.result _ _ (λ packed h. λ to stands.
    packed_conversion c.args.plan.now c.args.item to c.args.limit packed.items c.format.ensures.kept laid are stands (h to stands))
    c.run.ensures.packed
