use Rattle.std.proofs.Common.{◌≡◌, map, take}
use Rattle.evp_format.specs.declared.record_type.RecordType.{RecordType}
use Rattle.evp_format.specs.Leads.{type_leads}
use Rattle.evp_format.proofs.leads.leads_of_types.Given as goal

abbrev pub invariant-loop-record_type : goal.invariant-loop-record_type
invariant-loop-record_type l = l.leads.items ≡ map (λ (type : RecordType). type_leads l.types type.fields)
    (take l.record_type-index l.types)
