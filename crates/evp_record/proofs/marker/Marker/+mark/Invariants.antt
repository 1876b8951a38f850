use Rattle.std.proofs.Common.{◌≡◌, ◌+◌, ◌-◌, ◌*◌, ◌≤◌, length, drop}
use Rattle.evp_format.specs.declared.lead.Inside.TheVariants as Inside
use Rattle.evp_record.proofs.LeadFacts.{rank}
use Rattle.evp_record.specs.LeadMarks.{elements_mark, leads_mark}
use Rattle.evp_record.proofs.marker.Marker.+mark.Given as goal

abbrev pub decreases-record : goal.decreases-record
decreases-record l = 8 * l.type_number + 5

abbrev pub decreases-lead : goal.decreases-lead
decreases-lead l = rank l.lead.now.inside + 4

abbrev pub decreases-counted : goal.decreases-counted
decreases-counted l = rank l.lead.now.inside + 3

abbrev pub decreases-elements : goal.decreases-elements
decreases-elements l = rank l.lead.now.inside + 2

abbrev pub decreases-records : goal.decreases-records
decreases-records l = 8 * l.type_number + 6

abbrev pub decreases-inside : goal.decreases-inside
decreases-inside l = rank l.inside + 1

-- the walk of the records that are left, from the mark so far, is the whole walk
abbrev pub invariant-records-loop-index : goal.invariant-records-loop-index
invariant-records-loop-index l =
    (elements_mark l.self (Inside.Record l.type_number) l.size l.from (l.count - l.index) l.index l.mark
    ≡ elements_mark l.self (Inside.Record l.type_number) l.size l.from l.count 0 l.initial.mark)
    × (l.mark ≤ length l.self.bytes)

-- so it is with the leads that are left
abbrev pub invariant-record-loop-lead : goal.invariant-record-loop-lead
invariant-record-loop-lead l =
    (leads_mark l.self (drop l.lead-index l.lead-items) l.at l.mark ≡ leads_mark l.self l.lead-items l.at l.initial.mark)
    × (l.mark ≤ length l.self.bytes)
