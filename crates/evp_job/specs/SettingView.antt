-- Settings as they are read.
use Rattle.std.specs.Prelude.{List, map}
use Rattle.evp_job.specs.declared.settings.SettingText.{SettingText}
use Rattle.evp_job.specs.Settings.{SettingShape, setting_text}

abbrev pub setting_of : SettingText → SettingShape
setting_of setting = setting_text setting.field.now setting.text.now

abbrev pub settings_of : List SettingText → List SettingShape
settings_of settings = map setting_of settings
