use Rattle.std.proofs.Common.{◌≡◌, [], ◌∷◌, Ok, Err, refl, ap, sym, ◌∙◌, arith}
use Rattle.std.proofs.lemmas.List.{length-append}
use Rattle.std.proofs.lemmas.Result.{err_from_is_err_and}
use Rattle.evp_format.specs.SoFar.{MayFollow}
use Rattle.evp_format.proofs.WellLaidFormats.{no_types, types_push}
use Rattle.evp_profile.specs.declared.profile.Profile.{Profile}
use Rattle.evp_profile.specs.Declarations.{type_declared, types_declared}
use Rattle.evp_profile.specs.LayingOut.{laid_type, laid_types}
use Rattle.evp_profile.specs.Profile.{pointer_size}
use Rattle.evp_profile.proofs.LaidOut.{made_follows}
use Rattle.evp_profile.proofs.Steps.{type_goes_on, type_stops, types_end}
use Rattle.evp_profile.proofs.TypesPushed.{laid_type_facts}
use Rattle.evp_profile.proofs.laying_out.laid_types.Goals as goal

pub loop-declaration-init : goal.loop-declaration-init
loop-declaration-init c = rw c.new-laid.ensures (record
    { rest = refl; profile = refl; number = refl; laid = no_types (pointer_size c.args.profile) })

pub returns-in_err-record_type-clause-value : goal.returns-in_err-record_type-clause-value
returns-in_err-record_type-clause-value c =
    let declared = c.args.declared.now in
    let types = c.loop-declaration.laid.types in
    let item = type_declared c.declaration-item.result in
    let fault = c.in_err-record_type.field-0.0 in
    let p = err_from_is_err_and c.from_residual.result c.from_residual.ensures.1 in
    rw (p.1, p.2) (λ other.
    let refused : laid_type c.args.profile types item ≡ Err fault = ap (λ (profile : Profile). laid_type profile types item)
    (sym c.loop-declaration.invariant.profile) ∙ c.in_err-record_type.ensures other in
    type_stops c.args.profile declared c.loop-declaration.declaration-index c.declaration-item.result fault types
    (laid_types c.args.profile [] (types_declared declared))
    c.loop-declaration-test.true c.declaration-item.is refused c.loop-declaration.invariant.rest)

pub push-requires-clause-follows : goal.push-requires-clause-follows
push-requires-clause-follows c =
    let inv = c.loop-declaration.invariant in
    let profile = c.loop-declaration.laid.profile in
    let types = c.loop-declaration.laid.types in
    let item = type_declared c.declaration-item.result in
    let type = c.in_ok-record_type.record_type in
    (made_follows profile types item type (rw inv.profile inv.laid) (laid_type_facts profile types item type c.in_ok-record_type.ensures)).0

pub loop-declaration-preserved : goal.loop-declaration-preserved
loop-declaration-preserved c =
    let declared = c.args.declared.now in
    let profile = c.args.profile in
    let inv = c.loop-declaration.invariant in
    let types = c.loop-declaration.laid.types in
    let item = type_declared c.declaration-item.result in
    let type = c.in_ok-record_type.record_type in
    let laid : laid_type profile types item ≡ Ok type = ap (λ (p : Profile). laid_type p types item) (sym inv.profile)
    ∙ c.in_ok-record_type.ensures in
    let follows : MayFollow (pointer_size profile) types type =
    (made_follows profile types item type inv.laid (laid_type_facts profile types item type laid)).0 in
    let grown = length-append types (type ∷ []) in
    let number = inv.number in
    rw c.in_ok-push.ensures.pushed (record {
      rest = type_goes_on profile declared c.loop-declaration.declaration-index c.declaration-item.result type types
          (laid_types profile [] (types_declared declared))
          c.loop-declaration-test.true c.declaration-item.is laid inv.rest;
      profile = inv.profile;
      number = omega (arith, grown, number);
      laid = types_push (pointer_size profile) types type inv.laid follows;
    })

pub returns-clause-value : goal.returns-clause-value
returns-clause-value c =
    let declared = c.args.declared.now in
    types_end c.args.profile declared c.loop-declaration.declaration-index c.loop-declaration.laid.types
    (laid_types c.args.profile [] (types_declared declared))
    c.loop-declaration-test.false c.loop-declaration.invariant.rest
