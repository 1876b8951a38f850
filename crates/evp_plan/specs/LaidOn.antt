-- Pieces that are put on a front of a record, with zeros behind it.
use Rattle.std.specs.Prelude.{◌≡◌, ℕ, ◌-◌, ◌≤◌, pos, List, ◌++◌, length, replicate}
use Rattle.evp_base.specs.Numbers.{digits}
use Rattle.evp_format.specs.Bytes.{next_block, put_at}
use Rattle.evp_format.specs.Packing.{Pieces, Machine, put_pieces}

-- the front with a pointer of 8 bytes to a block behind it, and the block
abbrev pub laid_block : Machine → ℕ → List ℕ → List ℕ → List ℕ
laid_block machine to front block =
    let q = next_block (length front) in
    put_at to (digits machine.order 8 (pos q)) front ++ replicate (q - length front) 0 ++ block

-- the pieces on a front and zeros make a longer front and zeros
pub record IsLaidOn (pieces : Pieces) (front new : List ℕ) : Type 0 where
  pub sized : pieces.size ≡ length new
  pub grows : length front ≤ length new
  pub put : (n : ℕ) → length new ≤ n
      → put_pieces pieces.all (front ++ replicate (n - length front) 0)
      ≡ new ++ replicate (n - length new) 0
