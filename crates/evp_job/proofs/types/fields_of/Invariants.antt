use Rattle.std.proofs.Common.{◌≡◌, length, map, drop}
use Rattle.serde_json.specs.View.{view}
use Rattle.evp_profile.specs.Declarations.{fields_declared}
use Rattle.evp_job.specs.Steps.{one_more, each_in}
use Rattle.evp_job.specs.Types.{field_in}
use Rattle.evp_job.proofs.EachFrom.{all_left}
use Rattle.evp_job.proofs.types.fields_of.Given as goal

abbrev pub invariant-loop-k : goal.invariant-loop-k
invariant-loop-k l = record {
  read : all_left view (one_more field_in) l.k (fields_declared l.fields.items) (drop l.k l.values)
      ≡ each_in field_in (map view l.values);
  number : length l.fields.items ≡ l.k;
}
