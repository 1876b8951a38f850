use Rattle.std.proofs.Common.{◌≡◌, ℕ, ◌+◌, List, [], ◌∷◌, ◌++◌, length, map, drop, sym, ap}
use Rattle.std.proofs.Common.{subst, ◌∙◌}
use Rattle.std.proofs.lemmas.List.{map-append, length-append}
use Rattle.std.proofs.lemmas.Result.{err_from_is_err_and}
use Rattle.evp_profile.specs.Declarations.{field_declared, fields_declared, DeclaredField}
use Rattle.serde_json.specs.View.{view}
use Rattle.evp_job.specs.Steps.{one_more, each_in}
use Rattle.evp_job.specs.Types.{field_in}
use Rattle.evp_job.proofs.EachFrom.{all_left, all_goes_on, all_stops, all_end, more_is, more_fails}
use Rattle.evp_job.proofs.types.fields_of.Goals as goal

pub loop-k-preserved : goal.loop-k-preserved
loop-k-preserved c =
    let values = c.args.values.now in
    let k = c.loop-k.k in
    let value = c.index-values-k.result in
    let done = fields_declared c.loop-k.fields.items in
    let total = each_in field_in (map view values) in
    let pushed = ap fields_declared c.in_ok-push.ensures.items
    ∙ map-append field_declared c.loop-k.fields.items (c.in_ok-field.field ∷ []) in
    let read = all_goes_on view (one_more field_in) values k value done
    (done ++ field_declared c.in_ok-field.field ∷ []) total c.loop-k-test.true
    c.index-values-k.is (more_is field_in k done (view value) (field_declared c.in_ok-field.field)
    c.in_ok-field.ensures)
    c.loop-k.invariant.read in
    record {
      read = subst (λ (all : List DeclaredField). all_left view (one_more field_in) (k + 1) all
          (drop (k + 1) values) ≡ total) (sym pushed) read;
      number = ap length c.in_ok-push.ensures.items
          ∙ length-append c.loop-k.fields.items (c.in_ok-field.field ∷ [])
          ∙ ap (λ (n : ℕ). n + 1) c.loop-k.invariant.number;
    }

pub returns-in_err-field-clause-value : goal.returns-in_err-field-clause-value
returns-in_err-field-clause-value c =
    let values = c.args.values.now in
    let k = c.loop-k.k in
    let value = c.index-values-k.result in
    let done = fields_declared c.loop-k.fields.items in
    let total = each_in field_in (map view values) in
    let fault = c.in_err-field.field-0.0 in
    let p = err_from_is_err_and c.from_residual-in_err-field.result
    c.from_residual-in_err-field.ensures.1 in
    rw (p.1, p.2) (λ other.
    all_stops view (one_more field_in) values k value done fault total c.loop-k-test.true
    c.index-values-k.is
    (more_fails field_in k done (view value) fault (c.in_err-field.ensures other))
    c.loop-k.invariant.read)

pub returns-clause-value : goal.returns-clause-value
returns-clause-value c =
    let values = c.args.values.now in
    all_end view (one_more field_in) values c.loop-k.k (fields_declared c.loop-k.fields.items)
    (each_in field_in (map view values)) c.loop-k-test.false
    c.loop-k.invariant.read
