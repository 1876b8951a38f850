use Rattle.std.proofs.Common.{ℕ, ◌<◌, take, subst, arith}
use Rattle.std.specs.Prelude.{All}
use Rattle.evp_format.specs.WellLaid.{IsWellLaid}
use Rattle.evp_format.proofs.Descriptions.{bytes_are}
use Rattle.evp_action.proofs.PackedConversions.{packed_conversion, some_weaker}
use Rattle.evp_action.proofs.converting.packed_in_room.Goals as goal

pub returns-clause-made : goal.returns-clause-made
returns-clause-made c =
    let laid = subst IsWellLaid c.format.ensures.value c.types-types.ensures.laid in
    let are = subst (All (λ (byte : ℕ). byte < 256)) c.requires.own
    (bytes_are c.args.bytes.now (λ k. omega (arith, c.type_inv.bytes k))) in
    let room = c.run_in_room.new.room in
    some_weaker _ _ c.run_in_room.result (λ size h. λ to stands.
    packed_conversion c.args.plan.now c.args.item.now to c.args.limit (take size room) c.format.ensures.kept laid are stands (h to stands))
    c.run_in_room.ensures.made
