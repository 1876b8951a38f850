use Rattle.std.proofs.Common.{◌<◌, ◌^◌, List, length, subst, sym}
use Rattle.std.specs.List.{All}
use Rattle.evp_format.specs.declared.record_type.RecordType.{RecordType}
use Rattle.evp_format.proofs.WrittenTypes.{few_fields}
use Rattle.evp_format.proofs.description.writing.write_description.Goals as goal

pub put_types-requires : goal.put_types-requires
put_types-requires c =
    subst (λ (types : List RecordType). All (λ (type : RecordType). length type.fields < 2 ^ 16) types) (sym c.types-types.ensures.value)
    (few_fields c.args.format.now c.types-types.ensures.laid)
