use Rattle.std.proofs.Common.{append_assoc, refl}
use Rattle.evp_format.proofs.Lists.{found_at}
use Rattle.evp_format.proofs.LeadFacts.{next_lead, last_lead}
use Rattle.evp_format.specs.Leads.{has_lead}
use Rattle.evp_format.proofs.leads.Leads.of_fields.Goals as goal
use Rattle.evp_format.proofs.leads.Leads.of_fields.Goals.{in-Some+in_ok-push, in_default}

pub lead_in-requires : goal.lead_in-requires
lead_in-requires c =
    c.requires.counts c.loop-number.number c.index-fields-number.result
    (found_at c.args.fields.now c.args.fields.now c.loop-number.number c.index-fields-number.result refl c.loop-number-test.true
    c.index-fields-number.is)

pub loop-number-preserved : goal.loop-number-preserved
loop-number-preserved c =
    let points = has_lead c.args.earlier.now in
    let fields = c.args.fields.now in
    let k = c.loop-number.number in
    let next =
    next_lead points fields c.loop-number.list.items k c.index-fields-number.result c.lead_in.result c.loop-number-test.true
    c.index-fields-number.is c.lead_in.ensures c.loop-number.invariant in
    elim c.match-lead_in.branch [
      | in-Some+in_ok-push w ↦ rw (w.list-is, w.in_ok-push.ensures.items, append_assoc) (rw w.in-Some.is at next)
      | in_default w ↦ rw w.list-is (rw w.in_default.is at next)
    ]

pub returns : goal.returns
returns c = last_lead (has_lead c.args.earlier.now) c.args.fields.now c.loop-number.list.items c.loop-number.number c.loop-number-test.false
    c.loop-number.invariant
