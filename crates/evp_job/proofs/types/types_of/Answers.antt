use Rattle.std.proofs.Common.{◌≡◌, ℕ, ◌+◌, ◌<◌, ◌^◌, List, All, [], ◌∷◌, ◌++◌, length, map, drop}
use Rattle.std.proofs.Common.{sym, ap, subst, ◌∙◌}
use Rattle.std.proofs.lemmas.List.{map-append, length-append}
use Rattle.std.proofs.lemmas.Result.{err_from_is_err_and}
use Rattle.std.proofs.lemmas.List.Elements.{All-push}
use Rattle.evp_profile.specs.declared.declaration.TypeDecl.{TypeDecl}
use Rattle.evp_profile.specs.Declarations.{type_declared, types_declared, DeclaredType}
use Rattle.serde_json.specs.View.{view}
use Rattle.evp_job.specs.Steps.{one_more, each_in}
use Rattle.evp_job.specs.Types.{type_in}
use Rattle.evp_job.proofs.EachFrom.{all_left, all_goes_on, all_stops, all_end, more_is, more_fails}
use Rattle.evp_job.proofs.types.types_of.Goals as goal

pub loop-k-preserved : goal.loop-k-preserved
loop-k-preserved c =
    let values = c.args.values.now in
    let k = c.loop-k.k in
    let value = c.index-values-k.result in
    let done = types_declared c.loop-k.types.items in
    let total = each_in type_in (map view values) in
    let IsShort = λ (type : TypeDecl). length type.fields.items < 2 ^ 32 in
    let pushed = ap types_declared c.in_ok-push.ensures.items
    ∙ map-append type_declared c.loop-k.types.items (c.in_ok-declared.declared ∷ []) in
    let read = all_goes_on view (one_more type_in) values k value done
    (done ++ type_declared c.in_ok-declared.declared ∷ []) total c.loop-k-test.true
    c.index-values-k.is
    (more_is type_in k done (view value) (type_declared c.in_ok-declared.declared)
    c.in_ok-declared.ensures.value)
    c.loop-k.invariant.read in
    record {
      read = subst (λ (all : List DeclaredType). all_left view (one_more type_in) (k + 1) all
          (drop (k + 1) values) ≡ total) (sym pushed) read;
      number = ap length c.in_ok-push.ensures.items
          ∙ length-append c.loop-k.types.items (c.in_ok-declared.declared ∷ [])
          ∙ ap (λ (n : ℕ). n + 1) c.loop-k.invariant.number;
      short = subst (All IsShort) (sym c.in_ok-push.ensures.items)
          (All-push IsShort c.loop-k.types.items c.in_ok-declared.declared
          c.loop-k.invariant.short c.in_ok-declared.ensures.few);
    }

pub returns-in_err-declared-clause-value : goal.returns-in_err-declared-clause-value
returns-in_err-declared-clause-value c =
    let values = c.args.values.now in
    let k = c.loop-k.k in
    let value = c.index-values-k.result in
    let done = types_declared c.loop-k.types.items in
    let total = each_in type_in (map view values) in
    let fault = c.in_err-declared.field-0.0 in
    let p = err_from_is_err_and c.from_residual-in_err-declared.result
    c.from_residual-in_err-declared.ensures.1 in
    rw (p.1, p.2) (λ other.
    all_stops view (one_more type_in) values k value done fault total c.loop-k-test.true
    c.index-values-k.is
    (more_fails type_in k done (view value) fault (c.in_err-declared.ensures.value other))
    c.loop-k.invariant.read)

pub returns-clause-value : goal.returns-clause-value
returns-clause-value c =
    let values = c.args.values.now in
    all_end view (one_more type_in) values c.loop-k.k (types_declared c.loop-k.types.items)
    (each_in type_in (map view values)) c.loop-k-test.false
    c.loop-k.invariant.read
