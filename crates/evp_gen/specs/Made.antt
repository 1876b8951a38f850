-- What is made of a number.
use Rattle.std.specs.Prelude.{ℕ, List}

-- the bytes of the job document, and those of the senders' files in their order
pub record Input : Type 0 where
  pub job : List ℕ
  pub files : List (List ℕ)
