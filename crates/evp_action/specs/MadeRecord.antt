-- The record in the format that an action names, whether it is the item itself or a new one.
use Rattle.std.specs.Arc.{arc_value}
use Rattle.evp_action.specs.declared.made.Made.{Made}
use Rattle.evp_action.specs.declared.made.Made.TheVariants.{Same, InRoom, Own}
use Rattle.evp_record.specs.OwnedBytes.{OwnedBytes}

abbrev pub record_in : Made → OwnedBytes
record_in (Same item) = arc_value item.now
record_in (InRoom draft) = draft
record_in (Own owned) = owned
