-- What a record that owns its bytes is: the number of its format, and the bytes.
use Rattle.std.specs.Prelude.{ℕ, List}

pub record OwnedBytes : Type 0 where
  pub format : ℕ
  pub bytes : List ℕ
