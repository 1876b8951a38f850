-- Where the blocks of texts and arrays end, by the words in the sender's record.
use Rattle.std.proofs.Common.{◌≡◌, ℕ, zero, suc, ◌+◌, ◌^◌, ◌<◌, List, length, drop, Option, Some, None, refl, sym, ap, ◌∙◌, arith}
use Rattle.std.specs.Prelude.{option_map, slice_index, IfSome}
use Rattle.std.proofs.lemmas.List.{length-drop, get_or-drop}
use Rattle.memchr.specs.Find.{IsFirstByte, is_byte}
use Rattle.evp_format.specs.Bytes.{next_block}
use Rattle.evp_format.specs.Viewing.{Image, until_zero}
use Rattle.evp_plan.specs.declared.block.Array.{Array}
use Rattle.evp_plan.specs.declared.block.Block.TheVariants as block
use Rattle.evp_plan.specs.Laid.{size_of}
use Rattle.evp_plan.specs.Standing.{ended, text_from}
use Rattle.evp_wide.specs.Zeros.{IsZeroBehind}
use Rattle.evp_runner.specs.Sizing.{text_end, numbers_end, count_of, EndsAt}
use Rattle.evp_runner.proofs.Zeros.{zero_found}

-- the byte k behind a place
byte_behind : (bytes : List ℕ) (from k : ℕ) → slice_index (drop from bytes) k ≡ slice_index bytes (from + k)
byte_behind bytes from k = get_or-drop from bytes k 0

first_behind : (bytes : List ℕ) (from count : ℕ) → IsZeroBehind bytes from count → IsFirstByte (is_byte 0) (drop from bytes) (Some count)
first_behind bytes from count is =
    let long = length-drop from bytes in
    let within = is.within in (
      record {
        low = omega arith;
        high = omega (arith, long, within);
        before = λ k low high here. is.before (from + k) (omega arith) (omega (arith, high))
            (ap (is_byte 0) (sym (byte_behind bytes from k)) ∙ here);
      },
      ap (is_byte 0) (byte_behind bytes from count) ∙ is.here,
    )

-- so many bytes before the zero byte
by_length : (found : Option (List ℕ)) (count size : ℕ) → Some count ≡ option_map length found
    → next_block size + (count + 1) ≡ text_end (ended found) size
by_length None count size is = cc
by_length (Some bytes) count size is =
    let same : count ≡ length bytes = cc in
    ap (λ (n : ℕ). next_block size + (n + 1)) same

-- a text that a pointer leads to
pub text_ends : (image : Image) (from count size end : ℕ) → ¬ (from ≡ 0) → IsZeroBehind image.bytes from count
    → end ≡ next_block size + count + 1 → end ≡ text_end (text_from image from) size
text_ends image zero count size end some is end_is = absurd (some refl)
text_ends image (suc p) count size end some is end_is =
    let whole : end ≡ next_block size + (count + 1) = omega (arith, end_is) in
    let bytes = drop (suc p) image.bytes in
    whole ∙ by_length (until_zero bytes) count size (zero_found bytes (Some count) (first_behind image.bytes (suc p) count is))

-- an array's end, where there is one
pub some_array : (image : Image) (array : Array) (size : ℕ) (found : Option ℕ) → IfSome found (λ _. count_of image array < 2 ^ 31)
    → IfSome found (λ end. end ≡ numbers_end (count_of image array) (size_of array.form) size)
    → IfSome found (λ end. EndsAt image (block.Array array) size end)
some_array image array size None few ends = tt
some_array image array size (Some end) few ends = (few, ends)
