-- The number that a decimal text stands for.
use Rattle.std.specs.Prelude.{ℕ, ◌&&◌, nat_lt, if◌then◌else◌, List, Option, Some, None, decimal}
use Rattle.std.specs.Str.{bytes_eq}
use Rattle.std.specs.Str.Parse.{digits_value}

-- this number, where the bytes are its decimal text and it is less than the bound
abbrev pub number_if : ℕ → List ℕ → ℕ → Option ℕ
number_if bound bytes n = if nat_lt n bound && bytes_eq (decimal n) bytes then Some n else None

-- the number of which the bytes are the decimal text, where it is less than the bound
abbrev pub number_in : ℕ → List ℕ → Option ℕ
number_in bound bytes = number_if bound bytes (digits_value 10 bytes)
