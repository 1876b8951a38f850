use Rattle.std.proofs.Common.{◌≡◌, ◌∙◌, sym, ap, subst, length, Some, arith}
use Rattle.std.specs.Prelude.{slice_get}
use Rattle.evp_format.specs.Layout.{Layout}
use Rattle.evp_format.specs.WellLaid.{IsWellLaid}
use Rattle.evp_record.proofs.Laid.{type_read, type_fields-found}
use Rattle.evp_record.proofs.record.Checked.fields_len.Goals as goal
use Rattle.evp_record.proofs.record.Checked.fields_len.Goals.{After-as_slice}

-- the format is well laid, and the type is the one of that number
laid : (c : After-as_slice) → IsWellLaid c.args.self.now.layout
laid c = let Laid : Layout → Type 0 = λ l. IsWellLaid l in subst Laid c.format.ensures.value c.types.ensures.laid

there : (c : After-as_slice) → slice_get c.args.self.now.layout.types c.args.spot.type_number ≡ Some c.index-types-from.result
there c =
    type_read c.args.self.now.layout c.types.result.now c.args.spot.type_number c.from.result c.index-types-from.result
    (c.types.ensures.value ∙ ap (λ (l : Layout). l.types) c.format.ensures.value) c.from.ensures c.requires.type_there c.index-types-from.is

long : (c : After-as_slice) → length c.as_slice.result.now ≡ length c.index-types-from.result.fields
long c = ap length c.as_slice.ensures

pub overflow_cast-result : goal.overflow_cast-result
overflow_cast-result c =
    let few = ((laid c).each_type c.args.spot.type_number c.index-types-from.result (there c)).fields_allowed.1 in
    let own = long c in
    omega (arith, few, own)

pub returns-clause-count : goal.returns-clause-count
returns-clause-count c = long c
    ∙ ap length (sym (type_fields-found c.args.self.now.layout c.args.spot.type_number c.index-types-from.result (there c)))

pub returns-clause-laid : goal.returns-clause-laid
returns-clause-laid c = laid c
