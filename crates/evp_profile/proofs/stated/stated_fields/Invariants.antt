use Rattle.std.proofs.Common.{◌≡◌, [], length, drop}
use Rattle.evp_profile.specs.Declarations.{fields_declared}
use Rattle.evp_profile.specs.LayingOut.{stated_fields}
use Rattle.evp_profile.proofs.stated.stated_fields.Given as goal

abbrev pub invariant-loop-field : goal.invariant-loop-field
invariant-loop-field l = record {
  stated : stated_fields l.types.pointer l.types.types l.drafts.items (fields_declared (drop l.field-index l.declared))
      ≡ stated_fields l.types.pointer l.types.types [] (fields_declared l.declared);
  number : length l.drafts.items ≡ l.field-index;
}
