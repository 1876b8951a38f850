use Rattle.std.proofs.Common.{◌≡◌, length, map, drop}
use Rattle.serde_json.specs.View.{view}
use Rattle.evp_job.specs.Settings.{setting_in}
use Rattle.evp_job.specs.SettingView.{settings_of}
use Rattle.evp_job.specs.Steps.{one_more, each_in}
use Rattle.evp_job.proofs.EachFrom.{all_left}
use Rattle.evp_job.proofs.settings.all_settings.Given as goal

abbrev pub invariant-loop-k : goal.invariant-loop-k
invariant-loop-k l = record {
  read : all_left view (one_more setting_in) l.k (settings_of l.settings.items) (drop l.k l.values)
      ≡ each_in setting_in (map view l.values);
  number : length l.settings.items ≡ l.k;
}
