-- Records within a limit are within a greater one.
use Rattle.std.proofs.Common.{ℕ, ◌≤◌, List, All, arith}
use Rattle.evp_file.specs.declared.file.FileItem.{FileItem}
use Rattle.evp_file.specs.Whole.{IsWithin}

pub within_more : (limit most : ℕ) (items : List FileItem) → limit ≤ most → All (IsWithin limit) items → All (IsWithin most) items
within_more limit most items below all = λ k d h. let within = all k d h in omega (arith, below, within)
