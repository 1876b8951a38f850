use Rattle.std.proofs.Common.{◌≡◌, ◌≤◌, drop}
use Rattle.evp_format.specs.Tree.{trees}
use Rattle.evp_profile.specs.Placing.{end_of_fields}
use Rattle.evp_profile.proofs.placing.end_of_fields.Given as goal

abbrev pub invariant-loop-field : goal.invariant-loop-field
invariant-loop-field l = record {
  end : end_of_fields l.earlier.profile (trees l.earlier.types) l.end (drop l.field-index l.fields)
      ≡ end_of_fields l.earlier.profile (trees l.earlier.types) 0 l.fields;
  bound : l.end ≤ 4294967295;
}
