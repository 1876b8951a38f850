use Rattle.std.proofs.Common.{◌-◌, ◌≤◌, length, subst, sym, ℕ, List}
use Rattle.evp_format.specs.declared.field.Field.{Field}
use Rattle.evp_job.proofs.setting_fields.root_fields.Goals as goal

pub returns-clause-few : goal.returns-clause-few
returns-clause-few c =
    subst (λ (fields : List Field). length fields ≤ 1024) (sym c.as_slice.ensures)
    (c.root.ensures.laid.each_type (length c.args.format.now.types - 1) c.root.result.now c.root.ensures.value).fields_allowed.1
