use Rattle.std.proofs.Common.{◌≡◌, map, drop}
use Rattle.evp_job.specs.Expressions.{Reading}
use Rattle.evp_job.specs.Settings.{next_set, all_set}
use Rattle.evp_job.specs.SettingView.{setting_of, settings_of}
use Rattle.evp_job.proofs.EachFrom.{all_left}
use Rattle.evp_job.proofs.setting_fields.all_set.Given as goal

abbrev pub invariant-loop-j : goal.invariant-loop-j
invariant-loop-j l = (reading : Reading)
    → all_left setting_of (next_set reading l.k l.from l.into) l.j l.set.items (drop l.j l.settings)
    ≡ all_set reading l.k l.from l.into (settings_of l.settings)
