use Rattle.std.proofs.Common.{◌≡◌, ℕ, pos, nat_abs, [], ◌∷◌, ◌++◌, ◌<◌, ◌∙◌, sym, ap, refl, length, true, Result, Some, rules, arith}
use Rattle.std.proofs.lemmas.Int.{ints, to_z-of_z}
use Rattle.std.proofs.lemmas.List.{length-append}
use Rattle.std.proofs.lemmas.Result.{err_from_is_err_and}
use Rattle.std.specs.Prelude.{IsSome, slice_get}
use mir.Val.{SFits}
use mir.Syntax.{w128}
use Rattle.evp_format.specs.declared.field.Field.{Field}
use Rattle.evp_format.specs.declared.record_type.RecordType.{RecordType}
use Rattle.evp_format.specs.declared.place.PlaceStep.TheVariants.{At, Nth}
use Rattle.evp_format.specs.declared.broken.Broken.{Broken}
use Rattle.evp_format.specs.Datum.{Datum}
use Rattle.evp_format.specs.Viewing.{Walked, view_counted, image_of}
use Rattle.evp_format.proofs.Trees.{tree_of-resolved}
use Rattle.evp_record.specs.Class.{type_fields, field_at}
use Rattle.evp_record.specs.Marks.{marked}
use Rattle.evp_record.specs.Walks.{is_plain, walk_field, walk_part, count_number, IsCountedAt}
use Rattle.evp_format.proofs.LaidBases.{rank, rank-le, size_above, sized_among_all}
use Rattle.evp_record.proofs.Laid.{laid_at, inside, count_there, extent_of_one, extent_of_fixed, extent_of_counted, nested_at}
use Rattle.evp_record.proofs.Laid.{depth_of_nested, depth_of_part, field_below, type_fields-found, type_read, pos-nat_abs, count_below}
use Rattle.evp_record.proofs.LeadWalks.{plain_part_marked, plain_elements_marked}
use Rattle.evp_record.proofs.Marked.{marked-record, marked-no_fields, marked-counted, marked-fixed, marked-counted_field, field-read}
use Rattle.evp_record.proofs.Marked.{field-broken, element-read, element-broken}
use Rattle.evp_record.proofs.walk.Walk.+walk.Goals as goal
use Rattle.evp_record.proofs.walk.Walk.+walk.Goals.{record-After-as_slice-fields}

-- ---- a counted array

pub counted-count_at-number-requires-clause-count_there : goal.counted-count_at-number-requires-clause-count_there
counted-count_at-number-requires-clause-count_there t c = count_there _ _ _ _ c.requires.laid c.requires.counted

pub counted-pointer_at-from-requires-clause-inside : goal.counted-pointer_at-from-requires-clause-inside
counted-pointer_at-from-requires-clause-inside t c =
    let counted = c.requires.counted in
    let at = laid_at _ _ counted.number c.args.field.now c.requires.laid counted.there in
    let fits = inside _ _ _ _ at in
    let takes = extent_of_counted c.args.self.now.format.now.pointer c.args.field.now c.args.count counted.counted in
    omega (arith, fits, takes)

pub counted-overflow_cast-length-2 : goal.counted-overflow_cast-length-2
counted-overflow_cast-length-2 t c =
    let counted = c.requires.counted in
    let at = laid_at c.args.self.now.format.now c.args.spot.type_number counted.number c.args.field.now c.requires.laid counted.there in
    let some = size_above c.args.self.now.format.now c.args.field.now.base c.args.field.now.size c.requires.laid
    (sized_among_all _ _ _ c.args.field.now.base _ at.laid.size_allowed) in
    let ends = rw c.from-2.ensures at c.if-end-self.false in
    let few = count_below c.from.result c.args.field.now.size (length c.args.self.now.bytes.now) some (omega (arith, ends)) in
    rw (← c.from.ensures) (omega (arith, few))

pub counted-elements-requires : goal.counted-elements-requires
counted-elements-requires t c =
    let counted = c.requires.counted in
    let at = laid_at c.args.self.now.format.now c.args.spot.type_number counted.number c.args.field.now c.requires.laid counted.there in
    let falls = rank-le _ _ _ c.args.field.now.base _ at.laid.size_allowed in
    let ends = rw (c.from.ensures, c.from-2.ensures) at c.if-end-self.false in (
      omega (arith, falls),
      (
        c.requires.laid,
        (
          c.requires.short,
          (
            sized_among_all _ _ _ c.args.field.now.base _ at.laid.size_allowed,
            (ends, (c.requires.room, c.if-end-self.false)),
          ),
        ),
      ),
    )

pub counted-returns-clause-value : goal.counted-returns-clause-value
counted-returns-clause-value t c =
    let image = image_of c.args.self.now.format.now c.args.self.now.bytes.now in
    let field = c.args.field.now in
    let fits : SFits w128 c.count_at-number.result = search rules in
    let same = to_z-of_z w128 c.count_at-number.result fits in
    let read : c.from.result ≡ nat_abs c.count_at-number.result = c.from.ensures ∙ ap nat_abs same in
    let tested = rw same at c.if-number-lt0.false in
    let number : count_number c.args.self.now.format.now c.args.self.now.bytes.now c.args.spot c.args.count ≡ pos c.from.result =
    sym c.count_at-number.ensures.value ∙ pos-nat_abs c.count_at-number.result (omega (arith, ints, tested))
    ∙ ap (λ (n : ℕ). pos n) (sym read) in
    let one : ℕ → ℕ → ℕ → Walked Datum = λ offset k after. walk_part c.args.self.now.format.now c.args.self.now.bytes.now field offset
    (c.args.place ++ Nth k ∷ []) after in
    let array : ℕ
    → Result ℕ Broken = λ q. marked
    (view_counted image c.args.place (count_number c.args.self.now.format.now c.args.self.now.bytes.now c.args.spot c.args.count) q
    field.size one c.args.mark) in
    let ends = rw c.from-2.ensures at c.if-end-self.false in
    let some : 0 < c.from.result = rw c.from.ensures (omega arith) in
    let walked =
    marked-counted image c.args.place (count_number c.args.self.now.format.now c.args.self.now.bytes.now c.args.spot c.args.count)
    c.from.result c.pointer_at-from.result field.size c.args.mark one
    number some (omega arith) c.if-from-mark.false ends in
    let elements = rw (← c.from.ensures, c.from-2.ensures) at c.elements.ensures.value in
    elements ∙ sym walked ∙ ap array c.pointer_at-from.ensures

-- ---- a number, text or record

pub part-returns-then-is_plain-clause-value : goal.part-returns-then-is_plain-clause-value
part-returns-then-is_plain-clause-value t c =
    plain_part_marked c.args.self.now.format.now c.args.self.now.bytes.now c.args.field.now c.args.at (c.args.place.now ++ c.args.step ∷ [])
    c.args.mark c.requires.laid
    c.requires.sized (sym c.if-is_plain.true ∙ c.is_plain.ensures)

pub part-unreachable-requires : goal.part-unreachable-requires
part-unreachable-requires t c =
    let plain : is_plain c.args.self.now.format.now c.args.field.now.base
    ≡ true = ap (is_plain c.args.self.now.format.now) c.in-Number.is in
    cc (plain, c.if-is_plain.false, c.is_plain.ensures)

pub part-record-requires : goal.part-record-requires
part-record-requires t c =
    let nested = nested_at c.args.self.now.format.now c.args.field.now.base c.args.field.now.size c.in-Nested.type_number c.requires.laid
    c.requires.sized c.in-Nested.is in
    let falls = ap rank c.in-Nested.is in
    let deep = depth_of_nested c.args.self.now.format.now c.args.field.now c.in-Nested.type_number c.in-Nested.is in
    let longer = ap length c.with.ensures ∙ length-append c.args.place.now _ in (
      omega (arith, falls),
      (
        c.requires.laid,
        (c.requires.short, (nested.there, (omega (arith, nested.long), (omega (arith, deep, longer), c.requires.mark_in)))),
      ),
    )

-- ---- elements

pub elements-returns-then-is_plain-clause-value : goal.elements-returns-then-is_plain-clause-value
elements-returns-then-is_plain-clause-value t c =
    plain_elements_marked c.args.self.now.format.now c.args.self.now.bytes.now c.args.field.now c.args.from c.args.place.now c.args.count 0
    c.args.mark c.requires.laid
    c.requires.sized (sym c.if-is_plain.true ∙ c.is_plain.ensures)

pub elements-returns-in_err-mark : goal.elements-returns-in_err-mark
elements-returns-in_err-mark t c =
    let p = err_from_is_err_and c.from_residual.result c.from_residual.ensures.1 in
    let whole =
    element-broken c.args.self.now.format.now c.args.self.now.bytes.now c.args.field.now c.args.from c.args.place.now c.args.count
    c.loop-index.index c.loop-index.mark c.in_err-mark.field-0.0 c.loop-index-test.true c.in_err-mark.ensures.value
    ∙ c.loop-index.invariant.0 in
    rw (p.1, p.2) (record { value = whole; mark_in = tt })

pub elements-loop-index-preserved : goal.elements-loop-index-preserved
elements-loop-index-preserved t c = (
  element-read c.args.self.now.format.now c.args.self.now.bytes.now c.args.field.now c.args.from c.args.place.now c.args.count
      c.loop-index.index c.loop-index.mark c.in_ok-mark.mark c.loop-index-test.true c.in_ok-mark.ensures.value
      ∙ c.loop-index.invariant.0,
  c.in_ok-mark.ensures.mark_in,
)

-- ---- a field

pub field-part-requires : goal.field-part-requires
field-part-requires t c =
    let field = c.field_at-field.result.now in
    let at = laid_at c.args.self.now.format.now c.args.spot.type_number c.args.index field c.requires.laid c.field_at-field.ensures.value in
    let falls = rank-le _ _ _ field.base _ at.laid.size_allowed in
    let fits = inside _ _ _ _ at in
    let takes = extent_of_one c.args.self.now.format.now.pointer field c.in-One.is in
    let deep = depth_of_part _ _ _ _ c.requires.laid at in (
      omega (arith, falls),
      (
        c.requires.laid,
        (
          c.requires.short,
          (
            sized_among_all _ _ _ field.base _ at.laid.size_allowed,
            (omega (arith, fits, takes), (omega (arith, deep), c.requires.mark_in)),
          ),
        ),
      ),
    )

pub field-elements-requires : goal.field-elements-requires
field-elements-requires t c =
    let field = c.field_at-field.result.now in
    let at = laid_at c.args.self.now.format.now c.args.spot.type_number c.args.index field c.requires.laid c.field_at-field.ensures.value in
    let falls = rank-le _ _ _ field.base _ at.laid.size_allowed in
    let fits = inside _ _ _ _ at in
    let takes = extent_of_fixed c.args.self.now.format.now.pointer field c.in-Fixed.count c.in-Fixed.is in
    let deep = depth_of_part _ _ _ _ c.requires.laid at in
    let longer = ap length c.with.ensures ∙ length-append c.args.place.now _ in (
      omega (arith, falls),
      (
        c.requires.laid,
        (
          c.requires.short,
          (
            sized_among_all _ _ _ field.base _ at.laid.size_allowed,
            (omega (arith, fits, takes), (omega (arith, deep, longer), c.requires.mark_in)),
          ),
        ),
      ),
    )

pub field-counted-requires : goal.field-counted-requires
field-counted-requires t c =
    let field = c.field_at-field.result.now in
    let at = laid_at c.args.self.now.format.now c.args.spot.type_number c.args.index field c.requires.laid c.field_at-field.ensures.value in
    let deep = depth_of_part _ _ _ _ c.requires.laid at in
    let longer = ap length c.with-in-Counted.ensures ∙ length-append c.args.place.now _ in
    let counted : IsCountedAt c.args.self.now.format.now c.args.spot.type_number field c.in-Counted.count =
    record { number = c.args.index; there = c.field_at-field.ensures.value; counted = c.in-Counted.is } in
    (omega arith, (c.requires.laid, (c.requires.short, (counted, (c.requires.inside, (omega (arith, deep, longer), c.requires.mark_in))))))

pub field-returns-in-Fixed-clause-value : goal.field-returns-in-Fixed-clause-value
field-returns-in-Fixed-clause-value t c = λ field there.
    let own = c.field_at-field.result.now in
    let same : own ≡ field = cc (c.field_at-field.ensures.value, there) in
    let place = c.args.place.now ++ At c.args.index ∷ [] in
    let walked = marked-fixed c.args.self.now.format.now c.args.self.now.bytes.now c.args.spot own place c.in-Fixed.count c.args.mark
    c.in-Fixed.is in
    let elements = rw c.with.ensures at c.elements.ensures.value in
    elements ∙ sym walked
    ∙ ap (λ (f : Field). marked (walk_field c.args.self.now.format.now c.args.self.now.bytes.now c.args.spot f place c.args.mark)) same

pub field-returns-in-Counted-clause-value : goal.field-returns-in-Counted-clause-value
field-returns-in-Counted-clause-value t c = λ field there.
    let own = c.field_at-field.result.now in
    let same : own ≡ field = cc (c.field_at-field.ensures.value, there) in
    let place = c.args.place.now ++ At c.args.index ∷ [] in
    let walked = marked-counted_field c.args.self.now.format.now c.args.self.now.bytes.now c.args.spot own place c.in-Counted.count
    c.args.mark c.in-Counted.is in
    let array = rw c.with-in-Counted.ensures at c.counted.ensures.value in
    array ∙ sym walked
    ∙ ap (λ (f : Field). marked (walk_field c.args.self.now.format.now c.args.self.now.bytes.now c.args.spot f place c.args.mark)) same

-- ---- a record

type_there : (t : ℕ) (c : record-After-as_slice-fields t) → slice_get c.args.self.now.format.now.types c.args.spot.type_number
    ≡ Some c.index-types-from.result
type_there t c =
    type_read c.args.self.now.format.now c.types.result.now c.args.spot.type_number c.from.result c.index-types-from.result
    c.types.ensures.value c.from.ensures c.requires.type_there c.index-types-from.is

-- the fields that the loop goes over are those of the type
length_of_fields : (t : ℕ) (c : record-After-as_slice-fields t)
    → length c.as_slice-fields.result.now ≡ length (type_fields c.args.self.now.format.now c.args.spot.type_number)
length_of_fields t c =
    ap length c.as_slice-fields.ensures ∙ ap (λ (type : RecordType). length type.fields) (sym c.index-types-from.is)
    ∙ ap length (sym (type_fields-found c.args.self.now.format.now c.args.spot.type_number c.index-types-from.result (type_there t c)))

pub record-loop-index-init : goal.record-loop-index-init
record-loop-index-init t c =
    let layout = c.args.self.now.format.now in
    let type = c.index-types-from.result in (
      marked-record layout c.args.self.now.bytes.now c.args.spot type c.args.place.now c.args.mark (type_there t c)
          (tree_of-resolved layout c.args.spot.type_number type c.requires.laid (type_there t c)),
      c.requires.mark_in,
    )

pub record-overflow_cast-index : goal.record-overflow_cast-index
record-overflow_cast-index t c =
    let read = (goal.at.record-overflow_cast-index t c).After-as_slice-fields in
    let few = (c.requires.laid.each_type c.args.spot.type_number c.index-types-from.result (type_there t read)).fields_allowed.1 in
    let own = length_of_fields t read in
    let fields = ap length (type_fields-found c.args.self.now.format.now c.args.spot.type_number c.index-types-from.result
    (type_there t read)) in
    omega (arith, few, own, fields)

pub record-field-requires : goal.record-field-requires
record-field-requires t c =
    let layout = c.args.self.now.format.now in
    let read = (goal.at.record-field-requires t c).After-as_slice-fields in
    let own = length_of_fields t read in
    let field = field_below layout c.args.spot.type_number c.loop-index.index (omega (arith, own)) in
    let present : IsSome (field_at layout c.args.spot.type_number c.loop-index.index) = rw field.1 refl in
    (omega arith, (c.requires.laid, (c.requires.short, (present, (c.requires.inside, (c.requires.room, c.loop-index.invariant.1))))))

pub record-returns-in_err-mark-clause-value : goal.record-returns-in_err-mark-clause-value
record-returns-in_err-mark-clause-value t c =
    let p = err_from_is_err_and c.from_residual.result c.from_residual.ensures.1 in
    let layout = c.args.self.now.format.now in
    let read = (goal.at.record-returns-in_err-mark-clause-value t c).After-as_slice-fields in
    let own = length_of_fields t read in
    let field = field_below layout c.args.spot.type_number c.loop-index.index (omega (arith, own)) in
    let whole =
    field-broken layout c.args.self.now.bytes.now c.args.spot c.args.place.now c.loop-index.index c.loop-index.mark c.in_err-mark.field-0.0
    field.0 field.1 (c.in_err-mark.ensures.value field.0 field.1)
    ∙ c.loop-index.invariant.0 in
    rw (p.1, p.2) whole

pub record-loop-index-preserved : goal.record-loop-index-preserved
record-loop-index-preserved t c =
    let layout = c.args.self.now.format.now in
    let read = (goal.at.record-loop-index-preserved t c).After-as_slice-fields in
    let own = length_of_fields t read in
    let field = field_below layout c.args.spot.type_number c.loop-index.index (omega (arith, own)) in (
      field-read layout c.args.self.now.bytes.now c.args.spot c.args.place.now c.loop-index.index c.loop-index.mark c.in_ok-mark.mark
          field.0 field.1 (c.in_ok-mark.ensures.value field.0 field.1)
          ∙ c.loop-index.invariant.0,
      c.in_ok-mark.ensures.mark_in,
    )

pub record-returns-clause-value : goal.record-returns-clause-value
record-returns-clause-value t c =
    let layout = c.args.self.now.format.now in
    let read = (goal.at.record-returns-clause-value t c).After-as_slice-fields in
    let own = length_of_fields t read in
    sym (marked-no_fields layout c.args.self.now.bytes.now c.args.spot c.args.place.now c.loop-index.index c.loop-index.mark
    (omega (arith, own))) ∙ c.loop-index.invariant.0
