use Rattle.std.proofs.Common.{length, List, Some, None, refl, sym, ap, ◌∙◌, arith}
use Rattle.std.proofs.lemmas.List.{at_drop_all}
use Rattle.evp_format.specs.declared.lead.Inside.{Inside}
use Rattle.evp_format.specs.declared.lead.Inside.TheVariants as inside
use Rattle.evp_format.specs.declared.lead.Lead.{Lead}
use Rattle.evp_format.specs.declared.lead.Run.TheVariants.{One, Fixed}
use Rattle.evp_record.proofs.LeadFacts.{rank, lead_at, counted_lead, extent_of_run, inside_record, within_some}
use Rattle.evp_record.proofs.LeadWalks.{plain_elements, leads_read, next_element, no_element, next_lead}
use Rattle.evp_record.specs.Record.{Record, record_of}
use Rattle.evp_record.specs.LeadMarks.{elements_mark, leads_mark}
use Rattle.evp_record.proofs.marker.Marker.+mark.Goals as goal

-- ---- a counted array

pub counted-overflow_add-place : goal.counted-overflow_add-place
counted-overflow_add-place t c =
    let lead = counted_lead c.args.self.now c.args.at c.args.lead.now c.args.count c.requires.lead c.requires.counted in
    omega (arith, lead.count_inside, c.requires.lead.short)

pub counted-elements-requires : goal.counted-elements-requires
counted-elements-requires t c =
    let room = ap (λ (held : Record). length held.bytes) c.self.view_is in
    let ends = within_some (length c.self.inside.bytes.now) c.in_ok-end.end _ c.in_ok-end.ensures in (
      omega arith,
      (c.requires.lead.is_lead.has_inside, (omega (arith, room, ends.1), (c.requires.lead.short, omega (arith, room, ends.0, ends.1)))),
    )

-- ---- elements

pub elements-returns-in-Plain-clause-value : goal.elements-returns-in-Plain-clause-value
elements-returns-in-Plain-clause-value t c =
    let held = c.args.self.now in
    sym (ap (λ (within : Inside). elements_mark held within c.args.lead.now.size c.args.from c.args.count 0 c.args.mark) c.in-Plain.is
    ∙ plain_elements held c.args.lead.now.size c.args.from c.args.count 0 c.args.mark)

pub records-returns-in_err-mark-clause-value : goal.records-returns-in_err-mark-clause-value
records-returns-in_err-mark-clause-value t c =
    c.from_residual.ensures
    ∙ no_element c.args.self.now (inside.Record c.args.type_number) c.args.size c.args.from c.args.count c.loop-index.index
    c.loop-index.mark c.loop-index-test.true c.in_err-mark.ensures.value
    ∙ c.loop-index.invariant.0

pub records-loop-index-preserved : goal.records-loop-index-preserved
records-loop-index-preserved t c = (
  next_element c.args.self.now (inside.Record c.args.type_number) c.args.size c.args.from c.args.count c.loop-index.index c.loop-index.mark
      c.in_ok-mark.mark c.loop-index-test.true
      c.in_ok-mark.ensures.value
      ∙ c.loop-index.invariant.0,
  c.in_ok-mark.ensures.mark_in,
)

pub inside-record-requires : goal.inside-record-requires
inside-record-requires t c =
    let inner = inside_record c.args.self.now.layout c.args.inside c.args.size c.in-Record.type_number c.requires.has_inside c.in-Record.is
    in
    let falls = ap rank c.in-Record.is in
    (omega (arith, falls), (inner.0, (omega (arith, inner.1, c.requires.fits), c.requires.mark_in)))

-- ---- a lead

pub lead-overflow_add-place : goal.lead-overflow_add-place
lead-overflow_add-place t c =
    let fits = extent_of_run c.args.self.now c.args.at c.args.lead.now c.args.lead.now.run c.requires.lead refl in
    omega (arith, fits, c.requires.lead.short)

pub lead-inside-requires : goal.lead-inside-requires
lead-inside-requires t c =
    let fits = extent_of_run c.args.self.now c.args.at c.args.lead.now One c.requires.lead c.in-One.is in
    (omega arith, (c.requires.lead.is_lead.has_inside, (fits, c.requires.mark_in)))

pub lead-elements-requires : goal.lead-elements-requires
lead-elements-requires t c =
    let fits = extent_of_run c.args.self.now c.args.at c.args.lead.now (Fixed c.in-Fixed.count) c.requires.lead c.in-Fixed.is in
    (omega arith, (c.requires.lead.is_lead.has_inside, (fits, (c.requires.lead.short, c.requires.mark_in))))

pub lead-counted-requires : goal.lead-counted-requires
lead-counted-requires t c = (omega arith, (c.requires.lead, (c.in-Counted.is, c.requires.mark_in)))

-- ---- a record

pub record-lead-requires : goal.record-lead-requires
record-lead-requires t c =
    let lead =
    lead_at (record_of c.self.inside.format.now c.self.inside.bytes.now) c.args.self.now c.args.type_number c.args.at c.loop-lead.lead-index
    c.leads-lead-items.result.now
    (record { number = 0; offset = 0; size = 0; run = One; inside = inside.Plain }) c.self.view_is c.self.invariant.0 c.self.invariant.1
    c.requires.there c.leads-lead-items.ensures c.requires.inside
    c.loop-lead-test.true in
    (omega (arith, lead.0), (lead.1, c.loop-lead.invariant.1))

pub record-returns-in_err-mark-clause-value : goal.record-returns-in_err-mark-clause-value
record-returns-in_err-mark-clause-value t c =
    let items = c.leads-lead-items.result.now in
    let next = next_lead c.args.self.now items _ c.args.at c.loop-lead.lead-index c.loop-lead.mark None c.loop-lead-test.true
    c.in_err-mark.ensures.value in
    c.from_residual.ensures ∙ next ∙ c.loop-lead.invariant.0
    ∙ leads_read (record_of c.self.inside.format.now c.self.inside.bytes.now) c.args.self.now c.args.type_number c.args.at c.args.mark items
    c.self.view_is c.self.invariant.0 c.requires.there
    c.leads-lead-items.ensures

pub record-loop-lead-preserved : goal.record-loop-lead-preserved
record-loop-lead-preserved t c =
    let items = c.leads-lead-items.result.now in (
      next_lead c.args.self.now items _ c.args.at c.loop-lead.lead-index c.loop-lead.mark (Some c.in_ok-mark.mark) c.loop-lead-test.true
          c.in_ok-mark.ensures.value
          ∙ c.loop-lead.invariant.0,
      c.in_ok-mark.ensures.mark_in,
    )

pub record-returns-clause-value : goal.record-returns-clause-value
record-returns-clause-value t c =
    let items = c.leads-lead-items.result.now in
    sym (at_drop_all (λ (leads : List Lead). leads_mark c.args.self.now leads c.args.at c.loop-lead.mark) items c.loop-lead.lead-index
    c.loop-lead-test.false)
    ∙ c.loop-lead.invariant.0
    ∙ leads_read (record_of c.self.inside.format.now c.self.inside.bytes.now) c.args.self.now c.args.type_number c.args.at c.args.mark items
    c.self.view_is c.self.invariant.0 c.requires.there
    c.leads-lead-items.ensures
