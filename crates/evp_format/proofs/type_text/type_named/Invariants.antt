use Rattle.std.proofs.Common.{◌≡◌, drop}
use Rattle.std.specs.List.{position_from}
use Rattle.evp_format.specs.declared.record_type.RecordType.{RecordType}
use Rattle.evp_format.specs.Bytes.{bytes_equal}
use Rattle.evp_format.specs.TypeText.{type_named}
use Rattle.evp_format.proofs.type_text.type_named.Given as goal

abbrev pub invariant-loop-number : goal.invariant-loop-number
invariant-loop-number l = position_from (λ (type : RecordType). bytes_equal type.name l.name) l.number (drop l.number l.types)
    ≡ type_named l.types l.name
