use Rattle.std.proofs.Common.{◌≡◌, ◌<◌, ◌^◌, length, map, drop, All}
use Rattle.serde_json.specs.View.{view}
use Rattle.evp_profile.specs.declared.declaration.TypeDecl.{TypeDecl}
use Rattle.evp_profile.specs.Declarations.{types_declared}
use Rattle.evp_job.specs.Steps.{one_more, each_in}
use Rattle.evp_job.specs.Types.{type_in}
use Rattle.evp_job.proofs.EachFrom.{all_left}
use Rattle.evp_job.proofs.types.types_of.Given as goal

abbrev pub invariant-loop-k : goal.invariant-loop-k
invariant-loop-k l = record {
  read : all_left view (one_more type_in) l.k (types_declared l.types.items) (drop l.k l.values)
      ≡ each_in type_in (map view l.values);
  number : length l.types.items ≡ l.k;
  short : All (λ (type : TypeDecl). length type.fields.items < 2 ^ 32) l.types.items;
}
