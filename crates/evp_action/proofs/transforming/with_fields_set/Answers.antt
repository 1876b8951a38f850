use Rattle.std.proofs.Common.{subst}
use Rattle.evp_action.specs.declared.packed.Packed.{Packed}
use Rattle.evp_action.specs.Converted.{IsPackedIn}
use Rattle.evp_action.specs.PackedRecord.{bytes_in}
use Rattle.evp_action.proofs.transforming.with_fields_set.Goals as goal

pub returns-in-InRoom : goal.returns-in-InRoom
returns-in-InRoom c = λ value fields has is.
    c.set_in_room.ensures value fields has
    (subst (λ (p : Packed). IsPackedIn c.args.formats.now c.args.into fields (bytes_in c.args.room.now p)) c.in-InRoom.is is)

pub returns-in-Own : goal.returns-in-Own
returns-in-Own c = λ value fields has is.
    c.set_own.ensures value fields has
    (subst (λ (p : Packed). IsPackedIn c.args.formats.now c.args.into fields (bytes_in c.args.room.now p)) c.in-Own.is is)
