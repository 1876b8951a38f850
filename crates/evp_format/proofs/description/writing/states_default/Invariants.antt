use Rattle.std.proofs.Common.{◌≡◌, drop}
use Rattle.std.specs.List.{list_all}
use Rattle.evp_format.specs.declared.record_type.RecordType.{RecordType}
use Rattle.evp_format.specs.Describing.{all_default_zero}
use Rattle.evp_format.proofs.description.writing.states_default.Given as goal

abbrev pub invariant-loop-record_type : goal.invariant-loop-record_type
invariant-loop-record_type l =
    list_all (λ (type : RecordType). all_default_zero type.fields) (drop l.record_type-index l.types)
    ≡ list_all (λ (type : RecordType). all_default_zero type.fields) l.types
