use Rattle.std.proofs.Common.{◌≡◌, ◌<◌, ◌^◌, length}
use Rattle.std.specs.List.{All}
use Rattle.evp_profile.specs.declared.declaration.TypeDecl.{TypeDecl}
use Rattle.evp_profile_tests.proofs.tests.declared.Given as goal

abbrev pub invariant-loop-number : goal.invariant-loop-number
invariant-loop-number l = record {
  number : length l.types.items ≡ l.number;
  fields : All (λ (declared : TypeDecl). length declared.fields.items < 2 ^ 32) l.types.items;
}
