use Rattle.std.proofs.Common.{◌≡◌, take}
use Rattle.evp_format.specs.Tree.{trees}
use Rattle.evp_profile.specs.Alignment.{fields_alignment}
use Rattle.evp_profile.proofs.alignment.fields_alignment.Given as goal

abbrev pub invariant-loop-field : goal.invariant-loop-field
invariant-loop-field l = l.greatest ≡ fields_alignment l.earlier.profile (trees l.earlier.types) (take l.field-index l.fields)
