-- A sender's records are of its layout, and are packed into at most 64 bytes.
use Rattle.std.proofs.Common.{◌≡◌, ℕ, suc, ◌+◌, ◌*◌, ◌%◌, ◌<◌, ◌≤◌, ℤ, pos, ◌-ℤ◌}
use Rattle.std.proofs.Common.{Bool, true, false, List, [], ◌∷◌, length}
use Rattle.std.proofs.Common.{map, refl, sym, ap, subst, ◌∙◌, Some, arith}
use Rattle.std.specs.Prelude.{nat_eq, if◌then◌else◌, codes}
use Rattle.std.specs.Fmt.{decimal}
use Rattle.std.specs.List.{range_with_len}
use Rattle.std.proofs.lemmas.Int.{ints}
use Rattle.std.proofs.lemmas.List.FromFn.{length-range_with_len}
use Rattle.evp_base.specs.declared.kind.Kind.TheVariants.{Int, Unsigned}
use Rattle.evp_base.specs.Numbers.{InRange}
use Rattle.evp_format.specs.Datum.{Datum, num, null, text, list, rec, Elements, empty_list, element}
use Rattle.evp_format.specs.Datum.{empty_record, entry, count_of}
use Rattle.evp_format.specs.Bytes.{next_block}
use Rattle.evp_format.specs.Packing.{Machine, pack_part, pack_elements, packed_size}
use Rattle.evp_format.specs.Packing.{machine_of}
use Rattle.evp_format.specs.Tree.{number_part}
use Rattle.evp_format.specs.Typed.{EachElement, IsNumberOf, IsText, IsOf}
use Rattle.evp_format.specs.ValueView.{elements_from}
use Rattle.evp_profile.specs.declared.profile.Profile.{Profile}
use Rattle.evp_profile.specs.Profile.{pointer_size}
use Rattle.evp_gen.specs.Senders.{sent_layout, tag_of, element_of}
use Rattle.evp_gen.specs.Senders.{sent_record}
use Rattle.evp_gen.proofs.Decimals.{short_decimal}
use Rattle.evp_gen.proofs.Pointers.{pointer_le}

-- ---- the parts of a record

abbrev pub tag_if : Bool → ℕ → Datum
tag_if b i = if b then null else text (decimal (i % 100))

tag_typed : (b : Bool) (i : ℕ) → IsText (tag_if b i)
tag_typed true i = tt
tag_typed false i = let short = short_decimal (i % 100) (omega arith) in
    (short.no_zero, short.are_bytes)

pub count-elements : (f : ℕ → Datum) (xs : List ℕ) → count_of (elements_from (map f xs)) ≡ length xs
count-elements f [] = refl
count-elements f (x ∷ xs) = ap (λ (n : ℕ). suc n) (count-elements f xs)

each_element : (P : Datum → Type 0) (f : ℕ → Datum) (xs : List ℕ) → ((k : ℕ) → P (f k))
    → EachElement P (elements_from (map f xs))
each_element P f [] is = tt
each_element P f (x ∷ xs) is = (is x, each_element P f xs is)

between : (m : ℕ) → m < 1009 → InRange Int 4 (pos m -ℤ pos 500)
between m below = (omega (arith, ints, below), omega (arith, ints, below))

within : (m : ℕ) → m < 100 → InRange Int 2 (pos m -ℤ pos 50)
within m below = (omega (arith, ints, below), omega (arith, ints, below))

from_zero : (m : ℕ) → m < 20000 → InRange Unsigned 4 (pos m)
from_zero m below = (omega (arith, ints, below), omega (arith, ints, below))

few_elements : (m : ℕ) → m < 4 → InRange Int 4 (pos m)
few_elements m below = (omega (arith, ints, below), omega (arith, ints, below))

pub sent_typed : (profile : Profile) (s i : ℕ) → s < 4 → i < 20000
    → IsOf (sent_layout profile) (sent_record s i)
sent_typed profile s i few below =
    let elements = range_with_len 0 (i % 4) in
    let count = count-elements (element_of i) elements ∙ length-range_with_len 0 (i % 4) in (
      refl,
      from_zero i below,
      (
        refl,
        between ((37 * i + 11 * s) % 1009) (omega arith),
        (
          refl,
          tag_typed (nat_eq (i % 5) 4) i,
          (
            refl,
            few_elements (i % 4) (omega arith),
            (
              refl,
              (
                ap (λ (n : ℕ). Some (pos n)) (sym count),
                each_element (IsNumberOf (InRange Int 2)) (element_of i) elements
                    (λ k. within ((i + k) % 100) (omega arith)),
              ),
              tt,
            ),
          ),
        ),
      ),
    )

-- ---- the size

-- the elements of a list of numbers have no blocks
no_blocks : (machine : Machine) (at : ℕ → ℕ) (elements : Elements) (k size : ℕ)
    → (pack_elements (λ j value after. pack_part machine (number_part Int) 2 (at j) value after)
    elements k size).size ≡ size
no_blocks machine at empty_list k size = refl
no_blocks machine at (element value rest) k size = no_blocks machine at rest (suc k) size

-- a record of these parts
abbrev record_with : ℤ → ℤ → ℤ → Datum → Elements → Datum
record_with a b c tag elements =
    rec (entry (codes "id") (num a)
    (entry (codes "x") (num b)
    (entry (codes "tag") tag
    (entry (codes "n") (num c)
    (entry (codes "v") (list elements) empty_record)))))

-- null, or at most two bytes
abbrev IsShortTag : Datum → Type 0
IsShortTag null = Unit {0}
IsShortTag (text bytes) = length bytes ≤ 2
IsShortTag (num z) = ⊥
IsShortTag (list elements) = ⊥
IsShortTag (rec entries) = ⊥

small_with : (profile : Profile) (a b c : ℤ) (tag : Datum) (elements : Elements) → IsShortTag tag
    → count_of elements ≤ 3
    → packed_size (sent_layout profile) (record_with a b c tag elements) ≤ 64
small_with profile a b c null empty_list short few = let pointer = pointer_le profile in omega
    (arith, pointer)
small_with profile a b c (text bytes) empty_list short few = let pointer = pointer_le profile in
    omega (arith, pointer, short)
small_with profile a b c null (element value rest) short few =
    let pointer = pointer_le profile in
    let at = next_block (8 + 3 * pointer_size profile) in
    subst (λ (size : ℕ). size ≤ 64)
    (sym (no_blocks (machine_of (sent_layout profile)) (λ k. at + k * 2) rest 1
    (at + suc (count_of rest) * 2)))
    (omega (arith, pointer, few))
small_with profile a b c (text bytes) (element value rest) short few =
    let pointer = pointer_le profile in
    let at = next_block (next_block (8 + 3 * pointer_size profile) + length bytes + 1) in
    subst (λ (size : ℕ). size ≤ 64)
    (sym (no_blocks (machine_of (sent_layout profile)) (λ k. at + k * 2) rest 1
    (at + suc (count_of rest) * 2)))
    (omega (arith, pointer, short, few))
small_with profile a b c (num z) elements short few = absurd short
small_with profile a b c (list some) elements short few = absurd short
small_with profile a b c (rec entries) elements short few = absurd short

short_tag : (b : Bool) (i : ℕ) → IsShortTag (tag_if b i)
short_tag true i = tt
short_tag false i = (short_decimal (i % 100) (omega arith)).few

pub sent_small : (profile : Profile) (s i : ℕ)
    → packed_size (sent_layout profile) (sent_record s i) ≤ 64
sent_small profile s i =
    let elements = range_with_len 0 (i % 4) in
    let count = count-elements (element_of i) elements ∙ length-range_with_len 0 (i % 4) in
    small_with profile (pos i) (pos ((37 * i + 11 * s) % 1009) -ℤ pos 500) (pos (i % 4)) (tag_of i)
    (elements_from (map (element_of i) elements)) (short_tag (nat_eq (i % 5) 4) i)
    (omega (arith, count))
