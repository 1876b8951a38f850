use Rattle.std.proofs.Common.{◌≡◌, drop}
use Rattle.evp_eval.specs.Meaning.{field_named}
use Rattle.evp_job.proofs.setting_fields.settable.Given as goal

abbrev pub invariant-loop-number : goal.invariant-loop-number
invariant-loop-number l =
    field_named l.name l.number (drop l.number l.fields) ≡ field_named l.name 0 l.fields
