use Rattle.std.proofs.Common.{◌≡◌, [], length, drop}
use Rattle.evp_format.specs.SoFar.{AreLaid}
use Rattle.evp_profile.specs.Declarations.{types_declared}
use Rattle.evp_profile.specs.LayingOut.{laid_types}
use Rattle.evp_profile.specs.Profile.{pointer_size}
use Rattle.evp_profile.proofs.laying_out.laid_types.Given as goal

abbrev pub invariant-loop-declaration : goal.invariant-loop-declaration
invariant-loop-declaration l = record {
  rest : laid_types l.fn.profile l.laid.types (types_declared (drop l.declaration-index l.declared))
      ≡ laid_types l.fn.profile [] (types_declared l.declared);
  profile : l.laid.profile ≡ l.fn.profile;
  number : length l.laid.types ≡ l.declaration-index;
  laid : AreLaid (pointer_size l.fn.profile) l.laid.types;
}
