-- Pieces put on the bytes of an output.
use Rattle.std.specs.Prelude.{◌≡◌, ℕ, [], ◌∷◌, ◌++◌, List, length, replicate, Option, Some, None}
use Rattle.evp_format.specs.Datum.{Datum, num, null, text, list, rec}
use Rattle.evp_format.specs.Packing.{Pieces, put_pieces}

-- the block of a text: its bytes and a zero
abbrev pub block_of : Datum → Option (List ℕ)
block_of (text bytes) = Some (bytes ++ 0 ∷ [])
block_of null = None
block_of (num n) = None
block_of (list elements) = None
block_of (rec entries) = None

-- the pieces were put on the bytes, and the size behind their blocks is this
pub record IsPut (pieces : Pieces) (size : ℕ) (old new : List ℕ) : Type 0 where
  pub sized : size ≡ pieces.size
  pub put : new ≡ put_pieces pieces.all old

-- the pieces from any size on were put on zeros, and add no block
abbrev pub IsFilled : (ℕ → Pieces) → List ℕ → Type 0
IsFilled pieces new = (size : ℕ) → IsPut (pieces size) size (replicate (length new) 0) new
