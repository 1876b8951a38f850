use Rattle.std.proofs.Common.{List, map, ◌∙◌, ap}
use Rattle.std.proofs.lemmas.List.{take_all}
use Rattle.evp_format.specs.declared.lead.Lead.{Lead}
use Rattle.evp_format.specs.declared.record_type.RecordType.{RecordType}
use Rattle.evp_format.specs.Leads.{type_leads, leads_in, has_lead}
use Rattle.evp_format.proofs.LeadFacts.{fields_there, next_leads}
use Rattle.evp_format.proofs.leads.leads_of_types.Goals as goal

pub of_fields-requires : goal.of_fields-requires
of_fields-requires c =
    let there =
    fields_there c.args.types.now c.loop-record_type.record_type-index c.record_type-item.result c.as_slice-in-loop-record_type.result.now
    c.requires c.loop-record_type-test.true
    c.record_type-item.is c.as_slice-in-loop-record_type.ensures in
    record { few = there.0; counts = there.1 }

pub loop-record_type-preserved : goal.loop-record_type-preserved
loop-record_type-preserved c =
    let fields = c.as_slice-in-loop-record_type.result.now in
    let made = c.in_ok-own.ensures ∙ ap (λ (some : List (List Lead)). leads_in (has_lead some) fields fields 0) c.as_slice.ensures.value in
    c.in_ok-push.ensures.items
    ∙ next_leads c.args.types.now c.loop-record_type.leads.items c.loop-record_type.record_type-index c.record_type-item.result fields
    c.in_ok-own.own c.requires
    c.loop-record_type-test.true c.record_type-item.is c.loop-record_type.invariant c.as_slice-in-loop-record_type.ensures made

pub returns : goal.returns
returns c =
    c.loop-record_type.invariant
    ∙ ap (map (λ (type : RecordType). type_leads c.args.types.now type.fields))
    (take_all c.loop-record_type.record_type-index c.args.types.now c.loop-record_type-test.false)
