use Rattle.std.proofs.Common.{◌≡◌, ◌++◌, drop}
use Rattle.evp_format.specs.Leads.{leads_in, has_lead}
use Rattle.evp_format.proofs.leads.Leads.of_fields.Given as goal

-- the leads so far, followed by those of the fields that are left
abbrev pub invariant-loop-number : goal.invariant-loop-number
invariant-loop-number l = l.list.items ++ leads_in (has_lead l.earlier) l.fields (drop l.number l.fields) l.number
    ≡ leads_in (has_lead l.earlier) l.fields l.fields 0
