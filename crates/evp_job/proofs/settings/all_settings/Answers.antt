use Rattle.std.proofs.Common.{◌≡◌, ℕ, ◌+◌, List, [], ◌∷◌, ◌++◌, length, map, drop, sym, ap}
use Rattle.std.proofs.Common.{subst, ◌∙◌}
use Rattle.std.proofs.lemmas.List.{map-append, length-append}
use Rattle.std.proofs.lemmas.Result.{err_from_is_err_and}
use Rattle.evp_job.specs.Settings.{SettingShape, setting_in}
use Rattle.evp_job.specs.SettingView.{setting_of, settings_of}
use Rattle.serde_json.specs.View.{view}
use Rattle.evp_job.specs.Steps.{one_more, each_in}
use Rattle.evp_job.proofs.EachFrom.{all_left, all_goes_on, all_stops, all_end, more_is, more_fails}
use Rattle.evp_job.proofs.settings.all_settings.Goals as goal

pub loop-k-preserved : goal.loop-k-preserved
loop-k-preserved c =
    let values = c.args.values.now in
    let k = c.loop-k.k in
    let value = c.index-values-k.result in
    let done = settings_of c.loop-k.settings.items in
    let total = each_in setting_in (map view values) in
    let pushed = ap settings_of c.in_ok-push.ensures.items
    ∙ map-append setting_of c.loop-k.settings.items (c.in_ok-setting.setting ∷ []) in
    let read = all_goes_on view (one_more setting_in) values k value done
    (done ++ setting_of c.in_ok-setting.setting ∷ []) total c.loop-k-test.true
    c.index-values-k.is (more_is setting_in k done (view value) (setting_of c.in_ok-setting.setting)
    c.in_ok-setting.ensures)
    c.loop-k.invariant.read in
    record {
      read = subst (λ (all : List SettingShape). all_left view (one_more setting_in) (k + 1) all
          (drop (k + 1) values) ≡ total) (sym pushed) read;
      number = ap length c.in_ok-push.ensures.items
          ∙ length-append c.loop-k.settings.items (c.in_ok-setting.setting ∷ [])
          ∙ ap (λ (n : ℕ). n + 1) c.loop-k.invariant.number;
    }

pub returns-in_err-setting-clause-value : goal.returns-in_err-setting-clause-value
returns-in_err-setting-clause-value c =
    let values = c.args.values.now in
    let k = c.loop-k.k in
    let value = c.index-values-k.result in
    let done = settings_of c.loop-k.settings.items in
    let total = each_in setting_in (map view values) in
    let fault = c.in_err-setting.field-0.0 in
    let p = err_from_is_err_and c.from_residual-in_err-setting.result
    c.from_residual-in_err-setting.ensures.1 in
    rw (p.1, p.2) (λ other.
    all_stops view (one_more setting_in) values k value done fault total c.loop-k-test.true
    c.index-values-k.is
    (more_fails setting_in k done (view value) fault (c.in_err-setting.ensures other))
    c.loop-k.invariant.read)

pub returns-clause-value : goal.returns-clause-value
returns-clause-value c =
    let values = c.args.values.now in
    all_end view (one_more setting_in) values c.loop-k.k (settings_of c.loop-k.settings.items)
    (each_in setting_in (map view values)) c.loop-k-test.false
    c.loop-k.invariant.read
