use Rattle.std.proofs.Common.{◌≡◌, ◌∙◌, sym, subst, rules, arith, IsTrue}
use Rattle.std.proofs.lemmas.Int.{ints, to_z-of_z}
use mir.Val.{SFits}
use mir.Syntax.{w128}
use Rattle.evp_base.specs.Numbers.{is_size_of}
use Rattle.evp_format.specs.declared.field.Field.{Field}
use Rattle.evp_format.specs.declared.field.Shape.TheVariants.{One}
use Rattle.evp_record.proofs.Laid.{LaidAt, laid_at, inside, extent_of_one, size_of_number, greatest-le, count_number-number}
use Rattle.evp_record.proofs.fields.count_at.Goals as goal
use Rattle.evp_record.proofs.fields.count_at.Goals.{In-Number}

place : (c : In-Number) → LaidAt c.args.format.now c.args.spot.type_number c.args.count c.field_at-field.result.now
place c = laid_at c.args.format.now c.args.spot.type_number c.args.count c.field_at-field.result.now c.requires.laid
    c.field_at-field.ensures.value

allowed : (c : In-Number) → IsTrue (is_size_of c.in-Number.kind c.field_at-field.result.now.size)
allowed c = size_of_number _ _ c.field_at-field.result.now.base c.field_at-field.result.now.size c.in-Number.kind
    (place c).laid.size_allowed c.in-Number.is

single : (c : In-Number) → c.field_at-field.result.now.shape ≡ One
single c =
    let same : c.requires.count_there.field ≡ c.field_at-field.result.now = cc
    (c.requires.count_there.there, c.field_at-field.ensures.value) in
    let P : Field → Type 0 = λ f. f.shape ≡ One in
    subst P same c.requires.count_there.single

pub number_at-requires-clause-allowed : goal.number_at-requires-clause-allowed
number_at-requires-clause-allowed c = allowed c

pub number_at-requires-clause-inside : goal.number_at-requires-clause-inside
number_at-requires-clause-inside c =
    let fits = inside _ _ _ _ (place c) in
    let takes = extent_of_one c.args.format.now.pointer c.field_at-field.result.now (single c) in
    omega (arith, fits, takes)

pub returns-clause-value : goal.returns-clause-value
returns-clause-value c =
    let fits : SFits w128 c.number_at.result = search rules in
    let read = count_number-number c.args.format.now c.args.bytes.now c.args.spot c.args.count c.field_at-field.result.now c.in-Number.kind
    (place (goal.at.returns-clause-value c).In-Number) c.in-Number.is in
    to_z-of_z w128 c.number_at.result fits ∙ c.number_at.ensures.value ∙ sym read

pub returns-clause-bound : goal.returns-clause-bound
returns-clause-bound c =
    let fits : SFits w128 c.number_at.result = search rules in
    let most = greatest-le c.in-Number.kind c.field_at-field.result.now.size (allowed (goal.at.returns-clause-bound c).In-Number) in
    rw (to_z-of_z w128 c.number_at.result fits) (omega (arith, ints, most, c.number_at.ensures.in_range.1))
