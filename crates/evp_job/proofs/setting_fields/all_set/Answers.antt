use Rattle.std.proofs.Common.{[], get_or}
use Rattle.std.proofs.lemmas.Result.{err_from_is_err_and}
use Rattle.evp_job.specs.declared.settings.SettingText.{SettingText}
use Rattle.evp_job.specs.Settings.{next_set, all_set}
use Rattle.evp_job.specs.SettingView.{setting_of, settings_of}
use Rattle.evp_job.proofs.EachFrom.{at_default, all_goes_on, all_stops, all_end}
use Rattle.evp_job.proofs.setting_fields.all_set.Goals as goal

-- what stands past the end
abbrev past : SettingText
past = record { field = record { ref_ptr = (0, 0); now = [] }; text = record { ref_ptr = (0, 0); now = [] } }

pub loop-j-preserved : goal.loop-j-preserved
loop-j-preserved c reading =
    let settings = c.args.settings.now in
    let step = next_set reading c.args.k c.args.from.now c.args.into.now in
    all_goes_on setting_of step settings c.loop-j.j (get_or settings c.loop-j.j past)
    c.loop-j.set.items c.next_set.new.set.items
    (all_set reading c.args.k c.args.from.now c.args.into.now (settings_of settings))
    c.loop-j-test.true (at_default settings c.loop-j.j past c.loop-j-test.true) (c.in_ok-next_set.ensures reading)
    (c.loop-j.invariant reading)

pub returns-in_err-next_set : goal.returns-in_err-next_set
returns-in_err-next_set c reading =
    let settings = c.args.settings.now in
    let step = next_set reading c.args.k c.args.from.now c.args.into.now in
    let fault = c.in_err-next_set.field-0.0 in
    let p = err_from_is_err_and c.from_residual.result c.from_residual.ensures.1 in
    rw (p.1, p.2) (λ other.
    all_stops setting_of step settings c.loop-j.j (get_or settings c.loop-j.j past)
    c.loop-j.set.items fault
    (all_set reading c.args.k c.args.from.now c.args.into.now (settings_of settings))
    c.loop-j-test.true (at_default settings c.loop-j.j past c.loop-j-test.true) (c.in_err-next_set.ensures reading other)
    (c.loop-j.invariant reading))

pub returns : goal.returns
returns c reading =
    let settings = c.args.settings.now in
    let step = next_set reading c.args.k c.args.from.now c.args.into.now in
    all_end setting_of step settings c.loop-j.j c.loop-j.set.items
    (all_set reading c.args.k c.args.from.now c.args.into.now (settings_of settings))
    c.loop-j-test.false (c.loop-j.invariant reading)
