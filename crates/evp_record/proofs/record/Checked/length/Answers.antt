use Rattle.std.proofs.Common.{◌≡◌, ◌+◌, ◌≤◌, ◌∙◌, sym, ap, length, Some, rules, arith}
use Rattle.std.proofs.Common.{ℤ, pos, nat_abs, to_z, of_z}
use Rattle.std.proofs.lemmas.Int.{to_z-of_z}
use mir.Val.{SFits}
use mir.Syntax.{w128}
use Rattle.evp_format.specs.Viewing.{pointer_at, image_of}
use Rattle.evp_record.specs.Parts.{list_length}
use Rattle.evp_format.proofs.LaidBases.{size_above, sized_among_all}
use Rattle.evp_record.proofs.Laid.{count_there}
use Rattle.evp_record.proofs.ReadLists.{list_length-read}
use Rattle.evp_record.proofs.Reading.{PartRead, CountedRead, part_read, fixed_read, counted_read, list_short}
use Rattle.evp_record.proofs.record.Checked.length.Goals as goal
use Rattle.evp_record.proofs.record.Checked.length.Goals.{After-field-field, After-count}

part : (c : After-field-field) → PartRead c.args.self.now c.args.spot c.args.index c.field-field.result.now
part c = part_read c.args.self.now c.args.spot c.args.index c.field-field.result.now c.field-field.ensures.laid c.requires.reached
    c.field-field.ensures.value

counted_part : (c : After-count) → PartRead c.args.self.now c.args.spot c.args.index c.field-field.result.now
counted_part c = part_read c.args.self.now c.args.spot c.args.index c.field-field.result.now c.field-field.ensures.laid c.requires.reached
    c.field-field.ensures.value

counted : (c : After-count) → CountedRead c.args.self.now c.args.spot c.field-field.result.now (counted_part c).value c.in-Counted.count
counted c = counted_read c.args.self.now c.args.spot c.args.index c.field-field.result.now (counted_part c) c.in-Counted.count
    c.in-Counted.is

number : (c : After-count) → to_z w128 (of_z w128 c.count.result) ≡ pos (counted c).n
number c =
    let fits : SFits w128 c.count.result = search rules in
    to_z-of_z w128 c.count.result fits ∙ c.count.ensures.value ∙ (counted c).counts

few : (c : After-count) → (counted c).n ≤ length c.args.self.now.bytes
few c =
    let held = c.args.self.now in
    let field = c.field-field.result.now in
    let sized = sized_among_all held.layout.pointer held.layout.types c.args.spot.type_number field.base field.size
    (counted_part c).laid.laid.size_allowed in
    list_short (counted c).n field.size (pointer_at (image_of held.layout held.bytes) (c.args.spot.at + field.offset)) (length held.bytes)
    (size_above held.layout field.base field.size c.field-field.ensures.laid sized) (counted c).inside

pub count-requires-clause-count_there : goal.count-requires-clause-count_there
count-requires-clause-count_there c =
    count_there c.args.self.now.layout c.args.spot.type_number c.in-Counted.count c.field-field.result.now c.field-field.ensures.laid
    (record { number = c.args.index; there = c.field-field.ensures.value; counted = c.in-Counted.is })

pub overflow_cast-result : goal.overflow_cast-result
overflow_cast-result c =
    let short = c.field-field.ensures.kept.short in
    let most = few c in
    rw (number c) (tt, omega (arith, short, most))

pub returns-in-Fixed : goal.returns-in-Fixed
returns-in-Fixed c =
    let r = part (goal.at.returns-in-Fixed c).After-field-field in
    let field = c.field-field.result.now in
    ap list_length r.part
    ∙ list_length-read c.args.self.now field r.value (c.args.spot.at + field.offset) c.in-Fixed.count
    (fixed_read c.args.self.now c.args.spot c.args.index field r c.in-Fixed.count c.in-Fixed.is)

pub returns-in-Counted : goal.returns-in-Counted
returns-in-Counted c =
    let r = counted_part c in
    let field = c.field-field.result.now in
    let held = c.args.self.now in
    ap list_length r.part
    ∙ list_length-read held field r.value (pointer_at (image_of held.layout held.bytes) (c.args.spot.at + field.offset)) (counted c).n
    (counted c).listed
    ∙ ap (λ (z : ℤ). Some (nat_abs z)) (sym (number c))
