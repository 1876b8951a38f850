-- Words that fit, by numbers at the edges of each size, worked out by hand.
use Rattle.std.proofs.Common.{◌≡◌, ℕ, suc, ◌+◌, ◌*◌, ◌^◌, ℤ, pos, negsuc, ◌-ℤ◌, IsTrue, Bool, true, false, List, [], ◌∷◌, length, map}
use Rattle.std.proofs.Common.{Option, Some, None, refl, sym, ◌∙◌, arith}
use Rattle.std.specs.Prelude.{nat_le, nat_lt, ⊤}
use Rattle.std.proofs.lemmas.Bool.{false≢true, leb-true, ltb-true}
use Rattle.evp_base.specs.declared.kind.Kind.{Kind}
use Rattle.evp_base.specs.declared.kind.Kind.TheVariants.{Int, Unsigned}
use Rattle.evp_base.specs.declared.order.Order.{Order}
use Rattle.evp_base.specs.declared.order.Order.TheVariants.{Little, Big}
use Rattle.evp_base.specs.Numbers.{magnitude, number, digits, greatest, least, is_in_range, is_width, is_size_of}
use Rattle.evp_plan.specs.declared.quick.Quick.{Quick}
use Rattle.evp_plan.specs.declared.step.Op.{Op}
use Rattle.evp_plan.specs.declared.step.Op.TheVariants.{Number, Text, Nest, Each, Many}
use Rattle.evp_plan.specs.declared.step.Origin.TheVariants.{Standing, Stated}
use Rattle.evp_plan.specs.declared.step.Part.TheVariants as part
use Rattle.evp_plan.specs.declared.words.Words.{Words}
use Rattle.evp_plan.specs.Among.{is_among}
use Rattle.evp_plan.specs.Quicks.{IsFit}
use Rattle.evp_plan.specs.Words.{AreWordsFor}
use Rattle.evp_plan.proofs.Defaults.{range_test}
use Rattle.evp_plan.proofs.FittingWords.{fitting}

-- ---- words up to `top`, or above `under`

-- each word: whether it is one of them, and the number that it stands for
abbrev told : Kind → ℕ → ℕ → ℕ → List ℕ → List (Bool × ℤ)
told from width top under words =
    map (λ (word : ℕ). (is_among top under word, number Little from (digits Little width (pos word)))) words

-- 0, the greatest that fits, the next and the last
unsigned_one_in_signed : told Unsigned 1 127 255 (0 ∷ 127 ∷ 128 ∷ 255 ∷ [])
    ≡ (true, pos 0) ∷ (true, pos 127) ∷ (false, pos 128) ∷ (false, pos 255) ∷ []
unsigned_one_in_signed = refl

unsigned_two_in_signed : told Unsigned 2 32767 65535 (0 ∷ 32767 ∷ 32768 ∷ 65535 ∷ [])
    ≡ (true, pos 0) ∷ (true, pos 32767) ∷ (false, pos 32768) ∷ (false, pos 65535) ∷ []
unsigned_two_in_signed = refl

unsigned_four_in_signed : told Unsigned 4 2147483647 4294967295 (0 ∷ 2147483647 ∷ 2147483648 ∷ 4294967295 ∷ [])
    ≡ (true, pos 0) ∷ (true, pos 2147483647) ∷ (false, pos 2147483648) ∷ (false, pos 4294967295) ∷ []
unsigned_four_in_signed = refl

unsigned_eight_in_signed : told Unsigned 8 9223372036854775807 18446744073709551615
    (0 ∷ 9223372036854775807 ∷ 9223372036854775808 ∷ 18446744073709551615 ∷ [])
    ≡ (true, pos 0) ∷ (true, pos 9223372036854775807) ∷ (false, pos 9223372036854775808) ∷ (false, pos 18446744073709551615) ∷ []
unsigned_eight_in_signed = refl

-- 0, the greatest, the least and -1: none below 0 fits
signed_one_in_unsigned : told Int 1 127 255 (0 ∷ 127 ∷ 128 ∷ 255 ∷ [])
    ≡ (true, pos 0) ∷ (true, pos 127) ∷ (false, negsuc 127) ∷ (false, negsuc 0) ∷ []
signed_one_in_unsigned = refl

signed_two_in_unsigned : told Int 2 32767 65535 (0 ∷ 32767 ∷ 32768 ∷ 65535 ∷ [])
    ≡ (true, pos 0) ∷ (true, pos 32767) ∷ (false, negsuc 32767) ∷ (false, negsuc 0) ∷ []
signed_two_in_unsigned = refl

signed_four_in_unsigned : told Int 4 2147483647 4294967295 (0 ∷ 2147483647 ∷ 2147483648 ∷ 4294967295 ∷ [])
    ≡ (true, pos 0) ∷ (true, pos 2147483647) ∷ (false, negsuc 2147483647) ∷ (false, negsuc 0) ∷ []
signed_four_in_unsigned = refl

signed_eight_in_unsigned : told Int 8 9223372036854775807 18446744073709551615
    (0 ∷ 9223372036854775807 ∷ 9223372036854775808 ∷ 18446744073709551615 ∷ [])
    ≡ (true, pos 0) ∷ (true, pos 9223372036854775807) ∷ (false, negsuc 9223372036854775807) ∷ (false, negsuc 0) ∷ []
signed_eight_in_unsigned = refl

-- each number of one size
signed_one_in_signed : told Int 1 127 127 (0 ∷ 127 ∷ 128 ∷ 255 ∷ [])
    ≡ (true, pos 0) ∷ (true, pos 127) ∷ (true, negsuc 127) ∷ (true, negsuc 0) ∷ []
signed_one_in_signed = refl

-- half the size: the greatest that fits, the next, the one before the least that fits, that, and -1
signed_two_in_one : told Int 2 127 65407 (127 ∷ 128 ∷ 65407 ∷ 65408 ∷ 65535 ∷ [])
    ≡ (true, pos 127) ∷ (false, pos 128) ∷ (false, negsuc 128) ∷ (true, negsuc 127) ∷ (true, negsuc 0) ∷ []
signed_two_in_one = refl

signed_four_in_two : told Int 4 32767 4294934527 (32767 ∷ 32768 ∷ 4294934527 ∷ 4294934528 ∷ 4294967295 ∷ [])
    ≡ (true, pos 32767) ∷ (false, pos 32768) ∷ (false, negsuc 32768) ∷ (true, negsuc 32767) ∷ (true, negsuc 0) ∷ []
signed_four_in_two = refl

signed_eight_in_four : told Int 8 2147483647 18446744071562067967
    (2147483647 ∷ 2147483648 ∷ 18446744071562067967 ∷ 18446744071562067968 ∷ 18446744073709551615 ∷ [])
    ≡ (true, pos 2147483647) ∷ (false, pos 2147483648) ∷ (false, negsuc 2147483648) ∷ (true, negsuc 2147483647)
    ∷ (true, negsuc 0) ∷ []
signed_eight_in_four = refl

-- ---- words for a step

abbrev words_at : (width top under : ℕ) → IsTrue (is_width width) → nat_le top under ≡ true → Words
words_at width top under allowed apart = record {
  offset = 4;
  size = width;
  top = top;
  under = under;
  allowed = allowed;
  apart = leb-true top under apart;
}

-- a number of a kind and size, made from one of another at offset 4
abbrev number_op : Kind → Kind → ℕ → Op
number_op kind from width = Number kind (Standing (record { offset = 4; size = width; kind = from }))

-- words are none where a number of one of them is out of range: below by signed numbers in little
-- endian, and by unsigned ones in big endian
refused : (kind : Kind) (size : ℕ) (from : Kind) (width : ℕ) (words : Words) (order : Order) (bytes : List ℕ)
    → length bytes ≡ width → nat_lt (magnitude order bytes) (2 ^ (8 * width)) ≡ true
    → is_among words.top words.under (magnitude order bytes) ≡ true
    → is_in_range kind size (number order from bytes) ≡ false
    → AreWordsFor size (number_op kind from width) words → ⊥
refused kind size from width words order bytes long inside among outside are =
    let within = are.fit order bytes long (ltb-true (magnitude order bytes) (2 ^ (8 * width)) inside) among in
    false≢true (sym outside ∙ range_test kind size (number order from bytes) within)

-- the greatest number of a kind and size, and the least, are `high` and -`below`
abbrev AreEnds : Kind → ℕ → ℕ → ℕ → Type 0
AreEnds kind size high below = (pos high ≡ greatest kind size) × ((pos 0 -ℤ pos below) ≡ least kind size)

-- words are some where they stay between the ends of both
are_words : (kind : Kind) (size : ℕ) (from : Kind) (width top under high below from_high from_below : ℕ)
    (wide : IsTrue (is_width width)) (apart : nat_le top under ≡ true) → IsTrue (is_size_of from width)
    → AreEnds kind size high below → AreEnds from width from_high from_below
    → nat_le top high ≡ true → nat_le top from_high ≡ true
    → nat_le (2 ^ (8 * width)) (suc under + below) ≡ true → nat_le (2 ^ (8 * width)) (suc under + from_below) ≡ true
    → AreWordsFor size (number_op kind from width) (words_at width top under wide apart)
are_words kind size from width top under high below from_high from_below wide apart allowed ends from_ends less from_less reach
    from_reach = record {
      offset = refl;
      size_is = refl;
      fit = fitting kind size from width top under (record {
        allowed = allowed;
        high = high;
        below = below;
        from_high = from_high;
        from_below = from_below;
        high_is = ends.0;
        below_is = ends.1;
        from_high_is = from_ends.0;
        from_below_is = from_ends.1;
        less = leb-true top high less;
        from_less = leb-true top from_high from_less;
        reach = leb-true (2 ^ (8 * width)) (suc under + below) reach;
        from_reach = leb-true (2 ^ (8 * width)) (suc under + from_below) from_reach;
      });
    }

-- a signed number of 1 byte for an unsigned one of 1
abbrev signed_one : Words
signed_one = words_at 1 127 255 refl refl

signed_one_fit : AreWordsFor 1 (number_op Unsigned Int 1) signed_one
signed_one_fit =
    are_words Unsigned 1 Int 1 127 255 255 0 127 128
    refl refl refl (refl, refl) (refl, refl) refl refl refl refl

signed_one_one_more : AreWordsFor 1 (number_op Unsigned Int 1) (words_at 1 128 255 refl refl) → ⊥
signed_one_one_more =
    refused Unsigned 1 Int 1 (words_at 1 128 255 refl refl) Little (128 ∷ [])
    refl refl refl refl

signed_one_one_under : AreWordsFor 1 (number_op Unsigned Int 1) (words_at 1 127 254 refl refl) → ⊥
signed_one_one_under =
    refused Unsigned 1 Int 1 (words_at 1 127 254 refl refl) Little (255 ∷ [])
    refl refl refl refl

-- a signed number of 2 bytes for a signed one of 1
abbrev signed_two : Words
signed_two = words_at 2 127 65407 refl refl

signed_two_fit : AreWordsFor 1 (number_op Int Int 2) signed_two
signed_two_fit =
    are_words Int 1 Int 2 127 65407 127 128 32767 32768
    refl refl refl (refl, refl) (refl, refl) refl refl refl refl

signed_two_one_more : AreWordsFor 1 (number_op Int Int 2) (words_at 2 128 65407 refl refl) → ⊥
signed_two_one_more =
    refused Int 1 Int 2 (words_at 2 128 65407 refl refl) Little (128 ∷ 0 ∷ [])
    refl refl refl refl

signed_two_one_under : AreWordsFor 1 (number_op Int Int 2) (words_at 2 127 65406 refl refl) → ⊥
signed_two_one_under =
    refused Int 1 Int 2 (words_at 2 127 65406 refl refl) Little (127 ∷ 255 ∷ [])
    refl refl refl refl

-- a signed number of 4 bytes for a signed one of 2
abbrev signed_four : Words
signed_four = words_at 4 32767 4294934527 refl refl

signed_four_fit : AreWordsFor 2 (number_op Int Int 4) signed_four
signed_four_fit =
    are_words Int 2 Int 4 32767 4294934527 32767 32768 2147483647 2147483648
    refl refl refl (refl, refl) (refl, refl) refl refl refl refl

signed_four_one_more : AreWordsFor 2 (number_op Int Int 4) (words_at 4 32768 4294934527 refl refl) → ⊥
signed_four_one_more =
    refused Int 2 Int 4 (words_at 4 32768 4294934527 refl refl) Little (0 ∷ 128 ∷ 0 ∷ 0 ∷ [])
    refl refl refl refl

signed_four_one_under : AreWordsFor 2 (number_op Int Int 4) (words_at 4 32767 4294934526 refl refl) → ⊥
signed_four_one_under =
    refused Int 2 Int 4 (words_at 4 32767 4294934526 refl refl) Little (255 ∷ 127 ∷ 255 ∷ 255 ∷ [])
    refl refl refl refl

-- a signed number of 8 bytes for a signed one of 4
abbrev signed_eight : Words
signed_eight = words_at 8 2147483647 18446744071562067967 refl refl

signed_eight_fit : AreWordsFor 4 (number_op Int Int 8) signed_eight
signed_eight_fit =
    are_words Int 4 Int 8 2147483647 18446744071562067967 2147483647 2147483648 9223372036854775807 9223372036854775808
    refl refl refl (refl, refl) (refl, refl) refl refl refl refl

signed_eight_one_more : AreWordsFor 4 (number_op Int Int 8) (words_at 8 2147483648 18446744071562067967 refl refl) → ⊥
signed_eight_one_more =
    refused Int 4 Int 8 (words_at 8 2147483648 18446744071562067967 refl refl) Little (0 ∷ 0 ∷ 0 ∷ 128 ∷ 0 ∷ 0 ∷ 0 ∷ 0 ∷ [])
    refl refl refl refl

signed_eight_one_under : AreWordsFor 4 (number_op Int Int 8) (words_at 8 2147483647 18446744071562067966 refl refl) → ⊥
signed_eight_one_under =
    refused Int 4 Int 8 (words_at 8 2147483647 18446744071562067966 refl refl) Little (255 ∷ 255 ∷ 255 ∷ 127 ∷ 255 ∷ 255 ∷ 255 ∷ 255 ∷ [])
    refl refl refl refl

-- an unsigned number of 1 byte for a signed one of 1
abbrev unsigned_one : Words
unsigned_one = words_at 1 127 255 refl refl

unsigned_one_fit : AreWordsFor 1 (number_op Int Unsigned 1) unsigned_one
unsigned_one_fit =
    are_words Int 1 Unsigned 1 127 255 127 128 255 0
    refl refl refl (refl, refl) (refl, refl) refl refl refl refl

unsigned_one_one_more : AreWordsFor 1 (number_op Int Unsigned 1) (words_at 1 128 255 refl refl) → ⊥
unsigned_one_one_more =
    refused Int 1 Unsigned 1 (words_at 1 128 255 refl refl) Big (128 ∷ [])
    refl refl refl refl

unsigned_one_one_under : AreWordsFor 1 (number_op Int Unsigned 1) (words_at 1 127 254 refl refl) → ⊥
unsigned_one_one_under =
    refused Int 1 Unsigned 1 (words_at 1 127 254 refl refl) Big (255 ∷ [])
    refl refl refl refl

-- an unsigned number of 2 bytes for a signed one of 2
abbrev unsigned_two : Words
unsigned_two = words_at 2 32767 65535 refl refl

unsigned_two_fit : AreWordsFor 2 (number_op Int Unsigned 2) unsigned_two
unsigned_two_fit =
    are_words Int 2 Unsigned 2 32767 65535 32767 32768 65535 0
    refl refl refl (refl, refl) (refl, refl) refl refl refl refl

unsigned_two_one_more : AreWordsFor 2 (number_op Int Unsigned 2) (words_at 2 32768 65535 refl refl) → ⊥
unsigned_two_one_more =
    refused Int 2 Unsigned 2 (words_at 2 32768 65535 refl refl) Big (128 ∷ 0 ∷ [])
    refl refl refl refl

unsigned_two_one_under : AreWordsFor 2 (number_op Int Unsigned 2) (words_at 2 32767 65534 refl refl) → ⊥
unsigned_two_one_under =
    refused Int 2 Unsigned 2 (words_at 2 32767 65534 refl refl) Big (255 ∷ 255 ∷ [])
    refl refl refl refl

-- an unsigned number of 4 bytes for a signed one of 4
abbrev unsigned_four : Words
unsigned_four = words_at 4 2147483647 4294967295 refl refl

unsigned_four_fit : AreWordsFor 4 (number_op Int Unsigned 4) unsigned_four
unsigned_four_fit =
    are_words Int 4 Unsigned 4 2147483647 4294967295 2147483647 2147483648 4294967295 0
    refl refl refl (refl, refl) (refl, refl) refl refl refl refl

unsigned_four_one_more : AreWordsFor 4 (number_op Int Unsigned 4) (words_at 4 2147483648 4294967295 refl refl) → ⊥
unsigned_four_one_more =
    refused Int 4 Unsigned 4 (words_at 4 2147483648 4294967295 refl refl) Big (128 ∷ 0 ∷ 0 ∷ 0 ∷ [])
    refl refl refl refl

unsigned_four_one_under : AreWordsFor 4 (number_op Int Unsigned 4) (words_at 4 2147483647 4294967294 refl refl) → ⊥
unsigned_four_one_under =
    refused Int 4 Unsigned 4 (words_at 4 2147483647 4294967294 refl refl) Big (255 ∷ 255 ∷ 255 ∷ 255 ∷ [])
    refl refl refl refl

-- an unsigned number of 8 bytes for a signed one of 8
abbrev unsigned_eight : Words
unsigned_eight = words_at 8 9223372036854775807 18446744073709551615 refl refl

unsigned_eight_fit : AreWordsFor 8 (number_op Int Unsigned 8) unsigned_eight
unsigned_eight_fit =
    are_words Int 8 Unsigned 8 9223372036854775807 18446744073709551615 9223372036854775807 9223372036854775808 18446744073709551615 0
    refl refl refl (refl, refl) (refl, refl) refl refl refl refl

unsigned_eight_one_more : AreWordsFor 8 (number_op Int Unsigned 8) (words_at 8 9223372036854775808 18446744073709551615 refl refl) → ⊥
unsigned_eight_one_more =
    refused Int 8 Unsigned 8 (words_at 8 9223372036854775808 18446744073709551615 refl refl) Big (128 ∷ 0 ∷ 0 ∷ 0 ∷ 0 ∷ 0 ∷ 0 ∷ 0 ∷ [])
    refl refl refl refl

unsigned_eight_one_under : AreWordsFor 8 (number_op Int Unsigned 8) (words_at 8 9223372036854775807 18446744073709551614 refl refl) → ⊥
unsigned_eight_one_under =
    refused Int 8 Unsigned 8 (words_at 8 9223372036854775807 18446744073709551614 refl refl) Big
    (255 ∷ 255 ∷ 255 ∷ 255 ∷ 255 ∷ 255 ∷ 255 ∷ 255 ∷ []) refl refl refl refl

-- no words are for another step

none_for_a_stated_number : AreWordsFor 1 (Number Int (Stated (pos 5))) signed_two ≡ ⊥
none_for_a_stated_number = refl

none_for_a_text : AreWordsFor 8 (Text (Some 4)) signed_two ≡ ⊥
none_for_a_text = refl

none_for_a_record : AreWordsFor 2 (Nest 4) signed_two ≡ ⊥
none_for_a_record = refl

none_for_an_array : AreWordsFor 1 (Each 1 (record { part = part.Number Int Int 2; run = None })) signed_two ≡ ⊥
none_for_an_array = refl

none_for_a_list : AreWordsFor 1 (Many (Stated (pos 1)) (record { part = part.Number Int Int 2; run = None })) signed_two ≡ ⊥
none_for_a_list = refl

-- words at another offset than the number's, or of another size
elsewhere : AreWordsFor 1 (Number Int (Standing (record { offset = 5; size = 2; kind = Int }))) signed_two → ⊥
elsewhere are = let other : 4 ≡ 5 = are.offset in absurd (omega (arith, other))

of_another_size : AreWordsFor 1 (number_op Int Int 4) signed_two → ⊥
of_another_size are = let other : 2 ≡ 4 = are.size_is in absurd (omega (arith, other))

-- ---- quick tests

-- a test of a step that makes a field of this size
abbrev quick_of : ℕ → Op → Option Words → Quick
quick_of size op words = record {
  step = record { task = record { field = 0; offset = 8; size = size; op = op }; inner = None };
  words = words;
}

-- a test without words fits each step
text_without_words : IsFit (quick_of 8 (Text (Some 4)) None) ≡ ⊤
text_without_words = refl

number_without_words : IsFit (quick_of 1 (number_op Int Int 2) None) ≡ ⊤
number_without_words = refl

text_with_words : IsFit (quick_of 8 (Text (Some 4)) (Some signed_two)) ≡ ⊥
text_with_words = refl

number_with_words : IsFit (quick_of 1 (number_op Int Int 2) (Some signed_two))
number_with_words = signed_two_fit

number_with_one_more : IsFit (quick_of 1 (number_op Int Int 2) (Some (words_at 2 128 65407 refl refl))) → ⊥
number_with_one_more = signed_two_one_more

number_with_one_under : IsFit (quick_of 1 (number_op Int Int 2) (Some (words_at 2 127 65406 refl refl))) → ⊥
number_with_one_under = signed_two_one_under
