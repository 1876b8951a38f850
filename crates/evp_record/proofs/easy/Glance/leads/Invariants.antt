use Rattle.std.proofs.Common.{◌≡◌, ◌<◌, drop}
use Rattle.evp_record.specs.LeadMarks.{leads_mark}
use Rattle.evp_record.proofs.easy.Glance.leads.Given as goal

-- the walk by the leads that are left, from the mark so far, is the whole walk
abbrev pub invariant-loop-lead : goal.invariant-loop-lead
invariant-loop-lead l = (leads_mark l.self (drop l.lead-index l.leads) 0 l.mark ≡ leads_mark l.self l.leads 0 l.initial.mark) × (0 < l.mark)
