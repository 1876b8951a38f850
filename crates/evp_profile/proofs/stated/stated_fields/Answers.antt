use Rattle.std.proofs.Common.{◌≡◌, [], List, ap, ◌∙◌, Ok, Err, arith}
use Rattle.std.proofs.lemmas.Result.{err_from_is_err_and}
use Rattle.evp_format.specs.declared.draft.DraftField.{DraftField}
use Rattle.evp_profile.specs.Declarations.{field_declared, fields_declared}
use Rattle.evp_profile.specs.LayingOut.{stated_field, stated_fields}
use Rattle.evp_profile.proofs.Steps.{field_goes_on, field_stops, fields_end}
use Rattle.evp_profile.proofs.stated.stated_fields.Goals as goal

pub returns-in_err-draft-clause-value : goal.returns-in_err-draft-clause-value
returns-in_err-draft-clause-value c =
    let earlier = c.args.types.now.types in
    let declared = c.args.declared.now in
    let fault = c.in_err-draft.field-0.0 in
    let refused : Err fault ≡ stated_field c.args.types.now.pointer earlier c.loop-field.drafts.items (field_declared c.field-item.result) =
    c.in_err-draft.ensures ∙ ap (λ (before : List DraftField). stated_field c.args.types.now.pointer earlier before
    (field_declared c.field-item.result)) c.deref.ensures.value in
    let stops = field_stops c.args.types.now.pointer earlier declared c.loop-field.field-index c.field-item.result fault
    c.loop-field.drafts.items (stated_fields c.args.types.now.pointer earlier [] (fields_declared declared)) c.loop-field-test.true
    c.field-item.is refused c.loop-field.invariant.stated in
    let p = err_from_is_err_and c.from_residual-in_err-draft.result c.from_residual-in_err-draft.ensures.1 in rw (p.1, p.2) (λ _. stops)

pub loop-field-preserved : goal.loop-field-preserved
loop-field-preserved c =
    let earlier = c.args.types.now.types in
    let declared = c.args.declared.now in
    let total = stated_fields c.args.types.now.pointer earlier [] (fields_declared declared) in
    let stated : Ok c.in_ok-draft.draft ≡ stated_field c.args.types.now.pointer earlier c.loop-field.drafts.items
    (field_declared c.field-item.result) = c.in_ok-draft.ensures ∙ ap
    (λ (before : List DraftField). stated_field c.args.types.now.pointer earlier before (field_declared c.field-item.result))
    c.deref.ensures.value in
    record {
      stated = rw c.in_ok-push.ensures.items (field_goes_on c.args.types.now.pointer earlier declared c.loop-field.field-index
          c.field-item.result c.in_ok-draft.draft c.loop-field.drafts.items total c.loop-field-test.true c.field-item.is stated
          c.loop-field.invariant.stated);
      number = grind arith;
    }

pub returns-clause-value : goal.returns-clause-value
returns-clause-value c =
    let earlier = c.args.types.now.types in
    let declared = c.args.declared.now in
    fields_end c.args.types.now.pointer earlier declared c.loop-field.field-index c.loop-field.drafts.items
    (stated_fields c.args.types.now.pointer earlier [] (fields_declared declared)) c.loop-field-test.false c.loop-field.invariant.stated
