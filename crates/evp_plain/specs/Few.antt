-- Declared types of which there are few enough fields for a layout.
use Rattle.std.specs.Prelude.{Bool, nat_lt, length}
use Rattle.evp_profile.specs.declared.declaration.TypeDecl.{TypeDecl}

abbrev pub has_few_fields : TypeDecl → Bool
has_few_fields declared = nat_lt (length declared.fields.items) 65536
