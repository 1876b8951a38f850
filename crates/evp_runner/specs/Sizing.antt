-- Where blocks end that are made without a look at a step. The record stands at the first byte.
use Rattle.std.specs.Prelude.{◌≡◌, ℕ, zero, suc, ◌+◌, ◌*◌, ◌^◌, ◌<◌, ◌≤◌, List, [], ◌∷◌, length}
use Rattle.evp_base.specs.declared.order.Order.{Order}
use Rattle.evp_base.specs.Numbers.{magnitude}
use Rattle.evp_format.specs.Bytes.{bytes_at, next_block}
use Rattle.evp_format.specs.Datum.{Datum, num, null, text, list, rec}
use Rattle.evp_format.specs.Viewing.{Image}
use Rattle.evp_plan.specs.declared.block.Array.{Array}
use Rattle.evp_plan.specs.declared.block.Block.{Block}
use Rattle.evp_plan.specs.declared.block.Block.TheVariants as block
use Rattle.evp_plan.specs.Laid.{size_of}
use Rattle.evp_plan.specs.Standing.{text_by}

-- a record with pointers of 8 bytes
abbrev pub image_by_eight : Order → List ℕ → Image
image_by_eight order bytes = record { order = order; pointer = 8; bytes = bytes }

-- a text's pointer, and an array's count, stand inside the bytes
abbrev pub IsBlockInside : List ℕ → Block → Type 0
IsBlockInside bytes (block.Text string) = string.from + 8 ≤ length bytes
IsBlockInside bytes (block.Array array) = array.count + 4 ≤ length bytes

-- the size behind the block of a text; null takes none
abbrev pub text_end : Datum → ℕ → ℕ
text_end null size = size
text_end (text bytes) size = next_block size + (length bytes + 1)
text_end (num n) size = size
text_end (list elements) size = size
text_end (rec entries) size = size

-- the size behind the block of n numbers of this size; none take no block
abbrev pub numbers_end : ℕ → ℕ → ℕ → ℕ
numbers_end zero number_size size = size
numbers_end (suc n) number_size size = next_block size + suc n * number_size

-- how many numbers the sender's array has, where that isn't below 0
abbrev pub count_of : Image → Array → ℕ
count_of image array = magnitude image.order (bytes_at array.count 4 image.bytes)

-- the size behind a block; a count is too small to be one below 0
abbrev pub EndsAt : Image → Block → ℕ → ℕ → Type 0
EndsAt image (block.Text string) size end = end ≡ text_end (text_by image string.from) size
EndsAt image (block.Array array) size end = (count_of image array < 2 ^ 31)
    × (end ≡ numbers_end (count_of image array) (size_of array.form) size)

-- the size behind these blocks
abbrev pub AllEndAt : Image → List Block → ℕ → ℕ → Type 0
AllEndAt image [] size end = end ≡ size
AllEndAt image (first ∷ blocks) size end =
    (middle : ℕ) × (EndsAt image first size middle × AllEndAt image blocks middle end)
