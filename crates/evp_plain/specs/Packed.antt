-- What a conversion answers, as bytes.
use Rattle.std.specs.Prelude.{◌≡◌, ℕ, List}
use Rattle.evp_format.specs.Conversion.{Answer, converted}
use Rattle.evp_format.specs.Datum.{Datum}
use Rattle.evp_format.specs.Layout.{Layout}
use Rattle.evp_format.specs.Packing.{pack}

-- the answer is a value, and the bytes are its packed record
pub record IsPackedAnswer (to : Layout) (bytes : List ℕ) (answer : Answer) : Type 0 where
  pub value : Datum
  pub size : ℕ
  pub is : answer ≡ converted value size
  pub packed : bytes ≡ pack to value
