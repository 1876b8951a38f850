-- Declared types as they are kept.
use Rattle.std.specs.Prelude.{◌^◌, ◌<◌, List, length, All}
use Rattle.evp_profile.specs.declared.declaration.TypeDecl.{TypeDecl}

-- fewer than 2^32 types, each of fewer than 2^32 fields
pub record AreShort (types : List TypeDecl) : Type 0 where
  pub few : length types < 2 ^ 32
  pub each : All (λ (type : TypeDecl). length type.fields.items < 2 ^ 32) types
