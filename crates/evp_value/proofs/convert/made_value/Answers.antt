use Rattle.std.proofs.Common.{◌≡◌, ◌-◌, ◌<◌, length, get_or, List, [], Some, sym, ap, ◌∙◌, subst, arith}
use Rattle.std.specs.Prelude.{slice_get}
use Rattle.evp_format.specs.declared.place.PlaceStep.{PlaceStep}
use Rattle.evp_format.specs.declared.record_type.RecordType.{RecordType}
use Rattle.evp_format.specs.Converting.{large, make_tree}
use Rattle.evp_format.specs.Datum.{entries_of}
use Rattle.evp_format.specs.Tree.{root_of, length_of}
use Rattle.evp_format.specs.ValueView.{datum_of}
use Rattle.evp_format.proofs.Lists.{found_at}
use Rattle.evp_value.specs.Making.{Gives}
use Rattle.evp_format.proofs.LaidBases.{root_length}
use Rattle.evp_value.proofs.MadeSoFar.{convert_large, convert_within, made_somehow}
use Rattle.evp_value.proofs.convert.made_value.Goals as goal
use Rattle.evp_value.proofs.convert.made_value.Goals.{After-index-types-last}

-- the record's type
root_there : (c : After-index-types-last) → slice_get c.args.format.now.types (length c.args.format.now.types - 1)
    ≡ Some c.index-types-last.result
root_there c =
    let types = c.args.format.now.types in
    let some = c.types.ensures.laid.types_allowed.0 in
    let below : length types - 1 < length types = omega (arith, some) in
    found_at c.types-2.result.now types (length types - 1) c.index-types-last.result c.types-2.ensures.value
    (rw c.types-2.ensures.value below) (rw c.types.ensures.value at c.index-types-last.is)

-- its length, as it was read
root_is : (c : After-index-types-last) → length_of (root_of c.args.format.now)
    ≡ (get_or c.types-2.result.now (length c.types.result.now - 1) c.index-types-last.result).length
root_is c = root_length c.args.format.now c.index-types-last.result c.types.ensures.laid (root_there c)
    ∙ ap (λ (type : RecordType). type.length) c.index-types-last.is

pub returns-then-length-limit : goal.returns-then-length-limit
returns-then-length-limit c =
    let same = root_is (goal.at.returns-then-length-limit c).After-index-types-last in
    convert_large c.args.format.now (datum_of c.args.value.now) c.args.limit (omega (arith, same))
    ∙ ap (λ (place : List PlaceStep). large place) (sym c.root.ensures)

pub returns : goal.returns
returns c =
    let layout = c.args.format.now in
    let value = datum_of c.args.value.now in
    let same = root_is (goal.at.returns c).After-index-types-last in
    let whole = convert_within layout value c.args.limit (omega (arith, same)) in
    let given : Gives datum_of c.make_record.result c.make_record.new.size
    (make_tree c.args.limit (root_of layout) [] (entries_of (Some value)) (length_of (root_of layout))) =
    rw (rw c.types.ensures.value at same) (rw (c.types.ensures.value, c.root-2.ensures, c.entries.ensures) at c.make_record.ensures) in
    made_somehow c.make_record.result c.make_record.new.size _ (subst (Gives datum_of c.make_record.result c.make_record.new.size)
    (sym whole) given)
