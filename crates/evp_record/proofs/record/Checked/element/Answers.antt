use Rattle.std.proofs.Common.{◌≡◌, ℕ, ◌+◌, ◌*◌, ◌<◌, ◌≤◌, ◌∙◌, sym, ap, refl, length, Ok, Some, arith}
use Rattle.evp_record.specs.Record.{value_or_null}
use Rattle.evp_format.specs.Datum.{Datum}
use Rattle.std.specs.Prelude.{Option, Result}
use Rattle.evp_record.specs.Parts.{element_value}
use Rattle.evp_format.specs.declared.broken.Broken.{Broken}
use Rattle.evp_record.specs.Spots.{elements_start, part_value}
use Rattle.evp_format.proofs.LaidBases.{sized_among_all}
use Rattle.evp_record.proofs.ReadLists.{ElementAt, element_at_index}
use Rattle.evp_record.proofs.Reading.{PartRead, ArrayRead, part_read, array_read, index_below, element_inside}
use Rattle.evp_record.proofs.record.Checked.element.Goals as goal
use Rattle.evp_record.proofs.record.Checked.element.Goals.{After-start-from}

part : (c : After-start-from) → PartRead c.args.self.now c.args.spot c.args.index c.field-field.result.now
part c = part_read c.args.self.now c.args.spot c.args.index c.field-field.result.now c.field-field.ensures.laid c.requires.reached
    c.field-field.ensures.value

listed : (c : After-start-from) → ArrayRead c.args.self.now c.field-field.result.now (part c).value
    (elements_start c.args.self.now c.args.spot c.field-field.result.now)
listed c = array_read c.args.self.now c.args.spot c.args.index c.field-field.result.now (part c) c.requires.reached
    c.field-field.ensures.value c.requires.class

below : (c : After-start-from) → c.args.k < (listed c).n
below c = index_below c.args.self.now c.args.spot c.args.index c.args.k c.field-field.result.now (part c)
    (elements_start c.args.self.now c.args.spot c.field-field.result.now) (listed c) c.requires.within

within : (c : After-start-from) → c.start-from.result + c.args.k * c.field-field.result.now.size + c.field-field.result.now.size ≤ length
    c.args.self.now.bytes
within c =
    let a = listed c in
    let index = below c in
    rw c.start-from.ensures (element_inside (elements_start c.args.self.now c.args.spot c.field-field.result.now) a.n
    c.field-field.result.now.size c.args.k (length c.args.self.now.bytes) index (a.inside (omega (arith, index))))

found : (c : After-start-from) → ElementAt c.args.self.now c.field-field.result.now (part c).value
    (elements_start c.args.self.now c.args.spot c.field-field.result.now) c.args.k
found c =
    element_at_index c.args.self.now c.field-field.result.now (part c).value
    (elements_start c.args.self.now c.args.spot c.field-field.result.now) (listed c).n c.args.k (listed c).listed (below c)

viewed_here : (c : After-start-from) → part_value c.args.self.now c.field-field.result.now
    (c.start-from.result + c.args.k * c.field-field.result.now.size) ≡ Ok (found c).one
viewed_here c =
    ap (λ (from : ℕ). part_value c.args.self.now c.field-field.result.now (from + c.args.k * c.field-field.result.now.size))
    c.start-from.ensures ∙ (found c).viewed_there

pub overflow_add-result : goal.overflow_add-result
overflow_add-result c =
    let fits = within (goal.at.overflow_add-result c).After-start-from in
    let short = c.field-field.ensures.kept.short in
    omega (arith, fits, short)

pub returns-clause-stands : goal.returns-clause-stands
returns-clause-stands c =
    let at = (goal.at.returns-clause-stands c).After-start-from in
    record {
      sized = sized_among_all c.args.self.now.layout.pointer c.args.self.now.layout.types c.args.spot.type_number
          c.field-field.result.now.base c.field-field.result.now.size (part at).laid.laid.size_allowed;
      inside = within at;
      walked = rw (viewed_here at) refl;
    }

pub returns-clause-value : goal.returns-clause-value
returns-clause-value c =
    let at = (goal.at.returns-clause-value c).After-start-from in
    ap (λ (o : Option Datum). element_value o c.args.k) (part at).part ∙ (found at).found
    ∙ ap (λ (r : Result Datum Broken). Some (value_or_null r)) (sym (viewed_here at))
