use Rattle.std.proofs.Common.{◌≡◌, ◌-◌, ◌≤◌, length}
use Rattle.evp_format.specs.declared.lead.Inside.TheVariants.{Text}
use Rattle.evp_record.specs.LeadMarks.{elements_mark}
use Rattle.evp_record.proofs.marker.Marker.texts.Given as goal

-- the walk of the strings that are left, from the mark so far, is the whole walk
abbrev pub invariant-loop-index : goal.invariant-loop-index
invariant-loop-index l =
    (elements_mark l.self Text l.size l.from (l.count - l.index) l.index l.mark
    ≡ elements_mark l.self Text l.size l.from l.count 0 l.initial.mark)
    × (l.mark ≤ length l.self.bytes)
