use Rattle.std.proofs.Common.{◌≡◌, ◌-◌, ℤ, List, length, Some, sym, ap, ◌∙◌, subst, rules}
use Rattle.std.proofs.lemmas.Int.{to_z-of_z}
use Rattle.std.proofs.lemmas.Bool.{false≢true}
use mir.Val.{SFits}
use mir.Syntax.{w128}
use Rattle.evp_action.specs.Acting.{with_number}
use Rattle.evp_action.specs.Storing.{IsPacked}
use Rattle.evp_action.proofs.SettingsStored.{IsAt, sized_at, is_set, is_unfit, fits_at}
use Rattle.evp_eval.specs.Value.{value as value_over}
use Rattle.evp_format.specs.Class.{field_at}
use Rattle.evp_format.specs.declared.record_type.RecordType.{RecordType}
use Rattle.evp_format.specs.WellLaid.{IsNumberIn}
use Rattle.evp_record.specs.Record.{Record, value_of}
use Rattle.evp_action.proofs.setting.set_field.Goals as goal

pub holds-requires : goal.holds-requires
holds-requires c = sized_at c.args.receiver.now _ c.args.setting.now.field c.field-field.result.now c.types.ensures.laid
    c.field-field.ensures.value

pub returns-then-not-holds-clause-cause : goal.returns-then-not-holds-clause-cause
returns-then-not-holds-clause-cause c = λ fields packed.
    let into = c.args.receiver.now in
    let setting = c.args.setting.now in
    let field = c.field-field.result.now in
    let n = c.in-Ok.number in
    let fits : SFits w128 n = search rules in
    let at : IsAt into setting (value_of c.args.item.now) n field = record {
      read = c.in-Ok.ensures ∙ ap (λ (held : Record). value_over setting.value.tree (value_of held)) c.copy.ensures;
      there = subst (λ (types : List RecordType). field_at into (length types - 1) setting.field ≡ Some field) c.types.ensures.value
          c.field-field.ensures.value;
    } in
    is_unfit into c.args.k setting (value_of c.args.item.now) n field fields c.from_steps-path.result at c.requires.can.settable
    (λ within. false≢true (sym c.if-not-holds.true
    ∙ c.holds.ensures.1 (subst (λ (z : ℤ). IsNumberIn field.base field.size z) (sym (to_z-of_z w128 n fits)) within)))
    (c.from_steps-path.ensures ∙ c.in_ok-vec.ensures.items)

pub store-requires-clause-fits : goal.store-requires-clause-fits
store-requires-clause-fits c =
    let into = c.args.receiver.now in
    let field = c.field-field.result.now in
    let there = subst (λ (types : List RecordType). field_at into (length types - 1) c.args.setting.now.field ≡ Some field)
    c.types.ensures.value
    c.field-field.ensures.value in
    fits_at into c.args.setting.now.field _ field there (c.holds.ensures.0 c.if-not-holds.false)

pub returns-clause-set : goal.returns-clause-set
returns-clause-set c = λ fields packed.
    let into = c.args.receiver.now in
    let setting = c.args.setting.now in
    let field = c.field-field.result.now in
    let n = c.in-Ok.number in
    let fits : SFits w128 n = search rules in
    let same = to_z-of_z w128 n fits in
    let at : IsAt into setting (value_of c.args.item.now) n field = record {
      read = c.in-Ok.ensures ∙ ap (λ (held : Record). value_over setting.value.tree (value_of held)) c.copy.ensures;
      there = subst (λ (types : List RecordType). field_at into (length types - 1) setting.field ≡ Some field) c.types.ensures.value
          c.field-field.ensures.value;
    } in
    is_set into c.args.k setting (value_of c.args.item.now) n field fields c.store.new.bytes at c.requires.can.settable
    (subst (λ (z : ℤ). IsNumberIn field.base field.size z) same (c.holds.ensures.0 c.if-not-holds.false))
    (subst (λ (z : ℤ). IsPacked into (with_number setting.field z fields) c.store.new.bytes) same (c.store.ensures.stored fields packed))
