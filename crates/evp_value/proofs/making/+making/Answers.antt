use Rattle.std.proofs.Common.{rules, ◌≡◌, ℕ, ◌+◌, ◌<◌, ◌≤◌, List, [], ◌∷◌, ◌++◌, length, take, drop, map, ℤ, Some, refl, sym, ap, ◌∙◌}
use Rattle.std.proofs.Common.{subst, arith}
use Rattle.std.proofs.lemmas.Int.{to_z-of_z}
use Rattle.std.proofs.lemmas.List.{at_drop_all, map-append, length-append}
use mir.Val.{SFits}
use mir.Syntax.{w128}
use Rattle.std.proofs.lemmas.Result.{err_from_is_err_and}
use Rattle.std.specs.Prelude.{slice_get}
use Rattle.evp_base.specs.Numbers.{is_in_range}
use Rattle.evp_format.specs.declared.field.Base.{Base}
use Rattle.evp_format.specs.declared.field.Field.{Field}
use Rattle.evp_format.specs.declared.record_type.RecordType.{RecordType}
use Rattle.evp_format.specs.declared.value.Value.{Value}
use Rattle.evp_format.specs.Converting.{made, make_number, make_part}
use Rattle.evp_format.specs.Datum.{Datum, rec, Elements, Entries, as_number}
use Rattle.evp_format.specs.Tree.{part_of, trees}
use Rattle.evp_format.specs.ValueView.{datum_of, entries_of_pairs}
use Rattle.evp_format.proofs.Lists.{found_at}
use Rattle.evp_format.proofs.Loops.{next_left}
use Rattle.evp_format.proofs.ValueViews.{datum_of-pairs}
use Rattle.evp_format.specs.WellLaid.{HasBaseSize}
use Rattle.evp_value.specs.Making.{Gives, IsRefusal, make_at}
use Rattle.evp_value.proofs.Lengths.{length_wanted}
use Rattle.evp_format.proofs.LaidBases.{field_depth, rank-le, size_above, sized_among_all}
use Rattle.evp_value.proofs.MadeSoFar.{Making, refused_then, refused_as, elements_left, element_made, behind-none, fields_left, field_made}
use Rattle.evp_value.proofs.MadeSoFar.{field_refused, field_of, entries_behind-none, record_as, record_behind, depth_some, whole_record}
use Rattle.evp_value.proofs.making.+making.Goals as goal
use Rattle.evp_value.proofs.making.+making.Goals.{make_record-After-as_slice-fields}

-- a field's name, and what its value is
abbrev seen : List ℕ × Value → List ℕ × Datum
seen pair = (pair.0, datum_of pair.1)

-- ---- an element

pub make_element-returns-in-Number : goal.make_element-returns-in-Number
make_element-returns-in-Number t c =
    let layout = c.args.to.now.format.now in
    let field = c.args.field.now in
    let datum = datum_of c.args.partner.now in
    let size = c.args.size.now in
    let fits : SFits w128 c.number.result = search rules in
    let given = rw (to_z-of_z w128 c.number.result fits) at (c.make_number.ensures size) in
    let Made_of : ℤ → Type 0 = λ n. Gives datum_of c.make_number.result size
    (make_number (is_in_range c.in-Number.kind field.size n) c.args.place n size) in
    let here : Made_of (as_number datum) = subst Made_of c.number.ensures given in
    subst (λ (b : Base). Gives datum_of c.make_number.result size
    (make_part c.args.to.now.limit (part_of (trees layout.types) b) field.size c.args.place datum size)) (sym c.in-Number.is) here

-- ---- elements

pub make_elements-loop-k-preserved : goal.make_elements-loop-k-preserved
make_elements-loop-k-preserved t c =
    let one = make_at c.args.to.now.limit c.args.to.now.format.now c.args.field.now c.args.place.now in
    let partners = c.args.partners.now in
    let k = c.loop-k.k in
    let value = c.index-partners-k.result in
    let done = map datum_of c.loop-k.values.items in
    let new = c.in_ok-make_element.field-0 in
    let after = c.make_element.new.size in
    let left = drop (k + 1) partners in
    let is : one k (datum_of value) c.loop-k.size ≡ made (datum_of new) after = rw c.with-inside.ensures at c.in_ok-make_element.ensures in
    let pushed : map datum_of c.push.new.self.items ≡ done ++ datum_of new ∷ [] = ap (map datum_of) c.in_ok-push.ensures.items
    ∙ map-append datum_of c.loop-k.values.items (new ∷ []) in
    ap (λ (some : List Datum). elements_left one some (k + 1) after left) pushed
    ∙ sym (element_made one done k c.loop-k.size value left (datum_of new) after is)
    ∙ sym (next_left (elements_left one done k c.loop-k.size) partners k value c.loop-k-test.true c.index-partners-k.is)
    ∙ c.loop-k.invariant

pub make_elements-returns : goal.make_elements-returns
make_elements-returns t c =
    let one = make_at c.args.to.now.limit c.args.to.now.format.now c.args.field.now c.args.place.now in
    let done = map datum_of c.loop-k.values.items in
    sym c.loop-k.invariant ∙ at_drop_all (elements_left one done c.loop-k.k c.loop-k.size) c.args.partners.now c.loop-k.k
    c.loop-k-test.false
    ∙ ap (λ (es : Elements). made es c.loop-k.size) (behind-none done)

pub make_inside-make_elements-requires : goal.make_inside-make_elements-requires
make_inside-make_elements-requires t c =
    let counted = length_wanted c.args.count _ c.in-Some.partners.now c.requires.counted c.in-Some.ensures in
    (omega arith, (omega (arith, counted), (c.requires.sized, c.requires.room)))

-- ---- a record

type_there : (t : ℕ) (c : make_record-After-as_slice-fields t) → slice_get c.args.to.now.format.now.types c.args.type_number
    ≡ Some c.index-types-type_number.result
type_there t c = found_at c.types.result.now c.args.to.now.format.now.types c.args.type_number c.index-types-type_number.result
    c.types.ensures.value (rw c.types.ensures.value c.requires.type_there) c.index-types-type_number.is

fields_are : (t : ℕ) (c : make_record-After-as_slice-fields t) → c.as_slice-fields.result.now ≡ c.index-types-type_number.result.fields
fields_are t c = c.as_slice-fields.ensures ∙ ap (λ (type : RecordType). type.fields) (sym c.index-types-type_number.is)

few_fields : (t : ℕ) (c : make_record-After-as_slice-fields t) → length c.as_slice-fields.result.now ≤ 1024
few_fields t c =
    let few = (c.types.ensures.laid.each_type c.args.type_number c.index-types-type_number.result (type_there t c)).fields_allowed.1 in
    let own = ap length (fields_are t c) in
    omega (arith, few, own)

pub make_record-receiver_numbers-requires-clause-few : goal.make_record-receiver_numbers-requires-clause-few
make_record-receiver_numbers-requires-clause-few t c = few_fields t
    (goal.at.make_record-receiver_numbers-requires-clause-few t c).After-as_slice-fields

-- each field of the type
sized_fields : (t : ℕ) (c : make_record-After-as_slice-fields t) (k : ℕ) (field : Field)
    → slice_get c.as_slice-fields.result.now k ≡ Some field
    → HasBaseSize c.args.to.now.format.now.pointer (take c.args.type_number c.args.to.now.format.now.types) field.base field.size
sized_fields t c k field found =
    let here : slice_get c.index-types-type_number.result.fields k
    ≡ Some field = ap (λ (fields : List Field). slice_get fields k) (sym (fields_are t c)) ∙ found in
    ((c.types.ensures.laid.each_type c.args.type_number c.index-types-type_number.result (type_there t c)).each_field k field
    here).size_allowed

pub make_record-receiver_numbers-requires-clause-sized : goal.make_record-receiver_numbers-requires-clause-sized
make_record-receiver_numbers-requires-clause-sized t c = λ k field found.
    let layout = c.args.to.now.format.now in
    sized_among_all layout.pointer layout.types c.args.type_number field.base field.size
    (sized_fields t (goal.at.make_record-receiver_numbers-requires-clause-sized t c).After-as_slice-fields k field found)

some_room : (t : ℕ) (c : make_record-After-as_slice-fields t) → length c.args.place.now < 32
some_room t c =
    let deep = depth_some c.args.to.now.format.now c.args.type_number c.index-types-type_number.result c.types.ensures.laid (type_there t c)
    in
    omega (arith, deep)

pub make_record-receiver_numbers-requires-clause-room : goal.make_record-receiver_numbers-requires-clause-room
make_record-receiver_numbers-requires-clause-room t c = some_room t
    (goal.at.make_record-receiver_numbers-requires-clause-room t c).After-as_slice-fields

pub make_record-returns-in_err-numbers : goal.make_record-returns-in_err-numbers
make_record-returns-in_err-numbers t c =
    let read = (goal.at.make_record-returns-in_err-numbers t c).After-as_slice-fields in
    let p = err_from_is_err_and c.from_residual.result c.from_residual.ensures.1 in
    let whole =
    record_as c.args.to.now.limit c.args.to.now.format.now c.args.type_number c.index-types-type_number.result c.as_slice-fields.result.now
    c.args.place.now (entries_of_pairs c.args.partner.now) c.args.size.now
    c.types.ensures.laid (type_there t read) (fields_are t read) in
    rw (p.1, p.2)
    (refused_as c.in_err-numbers.field-0.0 _ _ (sym whole) (refused_then c.in_err-numbers.field-0.0 _ _ c.in_err-numbers.ensures))

pub make_record-overflow_cast-k : goal.make_record-overflow_cast-k
make_record-overflow_cast-k t c =
    let few = few_fields t (goal.at.make_record-overflow_cast-k t c).After-as_slice-fields in
    omega (arith, few)

pub make_record-with-inside-requires : goal.make_record-with-inside-requires
make_record-with-inside-requires t c = some_room t (goal.at.make_record-with-inside-requires t c).After-as_slice-fields

pub make_record-make_field-requires : goal.make_record-make_field-requires
make_record-make_field-requires t c =
    let read = (goal.at.make_record-make_field-requires t c).After-as_slice-fields in
    let layout = c.args.to.now.format.now in
    let n = c.args.type_number in
    let field = c.index-fields-k.result in
    let there = found_at c.as_slice-fields.result.now c.as_slice-fields.result.now c.loop-k.k field refl c.loop-k-test.true
    c.index-fields-k.is in
    let own : slice_get c.index-types-type_number.result.fields c.loop-k.k
    ≡ Some field = ap (λ (fields : List Field). slice_get fields c.loop-k.k) (sym (fields_are t read)) ∙ there in
    let sized = sized_fields t read c.loop-k.k field there in
    let among = sized_among_all layout.pointer layout.types n field.base field.size sized in
    let falls = rank-le layout.pointer layout.types n field.base field.size sized in
    let deep = field_depth layout n c.loop-k.k c.index-types-type_number.result field c.types.ensures.laid (type_there t read) own in
    let longer = ap length c.with-inside.ensures ∙ length-append c.args.place.now _ in
    (omega (arith, falls), (among, (size_above layout field.base field.size c.types.ensures.laid among, omega (arith, deep, longer))))

pub make_record-returns-in_err-value : goal.make_record-returns-in_err-value
make_record-returns-in_err-value t c =
    let read = (goal.at.make_record-returns-in_err-value t c).After-as_slice-fields in
    let p = err_from_is_err_and c.from_residual-in_err-value.result c.from_residual-in_err-value.ensures.1 in
    let fields = c.as_slice-fields.result.now in
    let partner = entries_of_pairs c.args.partner.now in
    let making : Making = record {
      limit = c.args.to.now.limit;
      layout = c.args.to.now.format.now;
      numbers = c.in_ok-numbers.numbers.items;
      place = c.args.place.now;
      partner = partner;
    } in
    let done = map seen c.loop-k.pairs.items in
    let k = c.loop-k.k in
    let field = c.index-fields-k.result in
    let refused = c.in_err-value.field-0.0 in
    let is : IsRefusal refused (field_of making k c.loop-k.size field) = rw
    (c.with-inside.ensures, c.value_named-named.ensures, c.deref.ensures.value) at c.in_err-value.ensures in
    let split = next_left (fields_left making done k c.loop-k.size) fields k field c.loop-k-test.true c.index-fields-k.is in
    let all = refused_as refused _ _ (sym split ∙ c.loop-k.invariant)
    (field_refused making done k c.loop-k.size field (drop (k + 1) fields) refused is) in
    let whole =
    record_behind c.args.to.now.limit c.args.to.now.format.now c.args.type_number c.index-types-type_number.result fields c.args.place.now
    partner c.args.size.now c.in_ok-numbers.numbers.items 0
    c.types.ensures.laid (type_there t read) (fields_are t read) c.in_ok-numbers.ensures in
    rw (p.1, p.2) (refused_as refused _ _ (sym whole) (refused_then refused _ _ all))

pub make_record-loop-k-preserved : goal.make_record-loop-k-preserved
make_record-loop-k-preserved t c =
    let fields = c.as_slice-fields.result.now in
    let making : Making =
    record {
      limit = c.args.to.now.limit;
      layout = c.args.to.now.format.now;
      numbers = c.in_ok-numbers.numbers.items;
      place = c.args.place.now;
      partner = entries_of_pairs c.args.partner.now;
    } in
    let done = map seen c.loop-k.pairs.items in
    let k = c.loop-k.k in
    let field = c.index-fields-k.result in
    let value = c.in_ok-value.value in
    let after = c.make_field.new.size in
    let is : field_of making k c.loop-k.size field ≡ made (datum_of value) after = rw
    (c.with-inside.ensures, c.value_named-named.ensures, c.deref.ensures.value) at c.in_ok-value.ensures in
    let pushed : map seen c.push.new.self.items ≡ done ++ (field.name, datum_of value) ∷ [] = ap (map seen) c.in_ok-push.ensures.items
    ∙ map-append seen c.loop-k.pairs.items ((field.name, value) ∷ []) in
    ap (λ (some : List (List ℕ × Datum)). fields_left making some (k + 1) after (drop (k + 1) fields)) pushed
    ∙ sym (field_made making done k c.loop-k.size field (drop (k + 1) fields) (datum_of value) after is)
    ∙ sym (next_left (fields_left making done k c.loop-k.size) fields k field c.loop-k-test.true c.index-fields-k.is)
    ∙ c.loop-k.invariant

pub make_record-returns : goal.make_record-returns
make_record-returns t c =
    let read = (goal.at.make_record-returns t c).After-as_slice-fields in
    let fields = c.as_slice-fields.result.now in
    let partner = entries_of_pairs c.args.partner.now in
    let making : Making = record {
      limit = c.args.to.now.limit;
      layout = c.args.to.now.format.now;
      numbers = c.in_ok-numbers.numbers.items;
      place = c.args.place.now;
      partner = partner;
    } in
    let done = map seen c.loop-k.pairs.items in
    record_behind c.args.to.now.limit c.args.to.now.format.now c.args.type_number c.index-types-type_number.result fields c.args.place.now
    partner c.args.size.now c.in_ok-numbers.numbers.items 0
    c.types.ensures.laid (type_there t read) (fields_are t read) c.in_ok-numbers.ensures
    ∙ ap whole_record (sym c.loop-k.invariant ∙ at_drop_all (fields_left making done c.loop-k.k c.loop-k.size) fields c.loop-k.k
    c.loop-k-test.false)
    ∙ ap (λ (es : Entries). made (rec es) c.loop-k.size) (entries_behind-none done)
    ∙ sym (ap (λ (d : Datum). made d c.loop-k.size) (datum_of-pairs c.loop-k.pairs))
