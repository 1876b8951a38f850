-- The pieces of a sender's record, as they are put one behind another.
use Rattle.std.proofs.Common.{◌≡◌, ◌≢◌, ℕ, zero, suc, ◌+◌, ◌-◌, ◌*◌, ◌%◌, ℤ, pos, Bool, true, false, length, take}
use Rattle.std.proofs.Common.{List, [], ◌∷◌, ◌++◌, map, refl, ap, subst, ◌∙◌}
use Rattle.std.proofs.Common.{add-one, arith}
use Rattle.std.specs.Prelude.{nat_eq, replicate}
use Rattle.std.specs.Fmt.{decimal}
use Rattle.std.specs.List.{range_with_len}
use Rattle.std.proofs.lemmas.List.{append-nil}
use Rattle.std.proofs.lemmas.List.FromFn.{length-range_with_len, map-range_with_len_more}
use Rattle.evp_base.specs.declared.kind.Kind.TheVariants.{Int}
use Rattle.evp_base.specs.Numbers.{digits}
use Rattle.evp_format.specs.Bytes.{next_block, put_at}
use Rattle.evp_format.specs.Converting.{as_number}
use Rattle.evp_format.specs.Datum.{Datum, count_of}
use Rattle.evp_format.specs.Packing.{Piece, Pieces, machine_of, pack_counted, pack_elements, pack_part, pack_text, packed_size, pieces_of}
use Rattle.evp_format.specs.Packing.{pointer_piece, put_pieces}
use Rattle.evp_format.specs.Tree.{number_part}
use Rattle.evp_format.specs.ValueView.{elements_from}
use Rattle.evp_profile.specs.declared.profile.Profile.{Profile}
use Rattle.evp_profile.specs.declared.profile.Profile.TheVariants.{Le64, Le32, Be64, Be32}
use Rattle.evp_profile.specs.Profile.{byte_order, pointer_size}
use Rattle.evp_gen.specs.Packed.{element_piece, fixed_size, listed_pieces, tag_pieces}
use Rattle.evp_gen.specs.Senders.{element_of, number_x, sent_layout, sent_record}
use Rattle.evp_gen.proofs.SentRecords.{count-elements, tag_if}

put_pieces-append : (first rest : List Piece) (bytes : List ℕ)
    → put_pieces (first ++ rest) bytes ≡ put_pieces rest (put_pieces first bytes)
put_pieces-append [] rest bytes = refl
put_pieces-append (piece ∷ first) rest bytes = put_pieces-append first rest (put_at piece.at piece.bytes bytes)

-- ---- the string

-- null, or the digits
abbrev tagged : Profile → ℕ → Bool → Pieces
tagged profile i b = pack_text (machine_of (sent_layout profile)) 8 (tag_if b i) (fixed_size profile)

pub tag_none : (profile : Profile) (i : ℕ) → nat_eq (i % 5) 4 ≡ true
    → tag_pieces profile i ≡ pointer_piece (machine_of (sent_layout profile)) 8 0 (fixed_size profile)
tag_none profile i null = ap (tagged profile i) null

pub tag_some : (profile : Profile) (i : ℕ) → nat_eq (i % 5) 4 ≡ false → tag_pieces profile i
    ≡ record {
      all = record { at = 8; bytes = digits (byte_order profile) (pointer_size profile) (pos (next_block (fixed_size profile))) }
          ∷ record { at = next_block (fixed_size profile); bytes = decimal (i % 100) ++ 0 ∷ [] } ∷ [];
      size = next_block (fixed_size profile) + length (decimal (i % 100)) + 1;
    }
tag_some profile i some = ap (tagged profile i) some

-- ---- the list

-- how an element is packed
abbrev packed_at : Profile → ℕ → Datum → ℕ → Pieces
packed_at profile at value after = pack_part (machine_of (sent_layout profile)) (number_part Int) 2 at value after

-- the elements from a on, of which the first of all is at q
elements_side : (profile : Profile) (q i a n size : ℕ)
    → pack_elements (λ k. packed_at profile (q + k * 2)) (elements_from (map (element_of i) (range_with_len a n))) a size
    ≡ record { all = map (element_piece profile q i) (range_with_len a n); size = size }
elements_side profile q i a zero size = refl
elements_side profile q i a (suc n) size =
    let rest = elements_from (map (element_of i) (range_with_len (a + 1) n)) in
    let behind = map (element_piece profile q i) (range_with_len (a + 1) n) in
    let next = subst (λ (k : ℕ). pack_elements (λ j. packed_at profile (q + j * 2)) rest k size
    ≡ record { all = behind; size = size }) (add-one a) (elements_side profile q i (a + 1) n size) in
    ap (λ (p : Pieces). record { all = element_piece profile q i a ∷ p.all; size = p.size }) next

-- one element more
pub one_more : (profile : Profile) (q i k : ℕ) (bytes : List ℕ)
    → put_pieces (map (element_piece profile q i) (range_with_len 0 (k + 1))) bytes
    ≡ put_at (q + k * 2) (element_piece profile q i k).bytes (put_pieces (map (element_piece profile q i) (range_with_len 0 k)) bytes)
one_more profile q i k bytes =
    let f = element_piece profile q i in
    ap (λ (pieces : List Piece). put_pieces pieces bytes)
    (map-range_with_len_more f 0 k k (let same : 0 + k ≡ k = omega arith in same))
    ∙ put_pieces-append (map f (range_with_len 0 k)) (f k ∷ []) bytes

-- a list of n elements
abbrev counted : Profile → ℕ → ℕ → ℕ → Pieces
counted profile i n size = pack_counted (machine_of (sent_layout profile)) (8 + 2 * pointer_size profile) 2
    (elements_from (map (element_of i) (range_with_len 0 n))) (packed_at profile) size

pub listed_none : (profile : Profile) (i size : ℕ) → i % 4 ≡ 0
    → listed_pieces profile i size ≡ pointer_piece (machine_of (sent_layout profile)) (8 + 2 * pointer_size profile) 0 size
listed_none profile i size none = ap (λ (n : ℕ). counted profile i n size) none

counted_some : (profile : Profile) (i n size : ℕ) → n ≢ 0 → counted profile i n size
    ≡ record {
      all = record {
        at = 8 + 2 * pointer_size profile;
        bytes = digits (byte_order profile) (pointer_size profile) (pos (next_block size));
      }
          ∷ map (element_piece profile (next_block size) i) (range_with_len 0 n);
      size = next_block size + n * 2;
    }
counted_some profile i zero size some = absurd (some refl)
counted_some profile i (suc n) size some =
    let q = next_block size in
    let elements = elements_from (map (element_of i) (range_with_len 0 (suc n))) in
    let count : count_of elements ≡ suc n = count-elements (element_of i) (range_with_len 0 (suc n))
    ∙ length-range_with_len 0 (suc n) in
    let place = 8 + 2 * pointer_size profile in
    let pointer : Piece = record { at = place; bytes = digits (byte_order profile) (pointer_size profile) (pos q) } in
    ap (λ (p : Pieces). record { all = pointer ∷ p.all; size = p.size })
    (elements_side profile q i 0 (suc n) (q + count_of elements * 2)
    ∙ ap (λ (m : ℕ). record { all = map (element_piece profile q i) (range_with_len 0 (suc n)); size = q + m * 2 }) count)

pub listed_some : (profile : Profile) (i size : ℕ) → i % 4 ≢ 0 → listed_pieces profile i size
    ≡ record {
      all = record {
        at = 8 + 2 * pointer_size profile;
        bytes = digits (byte_order profile) (pointer_size profile) (pos (next_block size));
      }
          ∷ map (element_piece profile (next_block size) i) (range_with_len 0 (i % 4));
      size = next_block size + i % 4 * 2;
    }
listed_some profile i size some = counted_some profile i (i % 4) size some

-- ---- the record

-- the pieces of a record, of these of its string and list
abbrev joined : Profile → ℕ → ℕ → Pieces → Pieces → Pieces
joined profile s i tag list = record {
  all = record { at = 0; bytes = digits (byte_order profile) 4 (pos i) }
      ∷ record { at = 4; bytes = digits (byte_order profile) 4 (as_number (number_x s i)) }
      ∷ (tag.all ++ record { at = 8 + pointer_size profile; bytes = digits (byte_order profile) 4 (pos (i % 4)) } ∷ (list.all ++ []));
  size = list.size;
}

pub pieces_joined : (profile : Profile) (s i : ℕ) → pieces_of (sent_layout profile) (sent_record s i)
    ≡ joined profile s i (tag_pieces profile i) (listed_pieces profile i (tag_pieces profile i).size)
pieces_joined Le64 s i = refl
pieces_joined Le32 s i = refl
pieces_joined Be64 s i = refl
pieces_joined Be32 s i = refl

-- all of them put one behind another, where the string's block ends in the middle
abbrev pub put_all : Profile → ℕ → ℕ → ℕ → ℤ → List ℕ → List ℕ
put_all profile i middle behind x bytes =
    let order = byte_order profile in
    put_pieces (listed_pieces profile i middle).all
    (put_at behind (digits order 4 (pos (i % 4)))
    (put_pieces (tag_pieces profile i).all
    (put_at 4 (digits order 4 x) (put_at 0 (digits order 4 (pos i)) bytes))))

pub put_joined : (profile : Profile) (s i : ℕ) (bytes : List ℕ)
    → put_pieces (pieces_of (sent_layout profile) (sent_record s i)).all bytes
    ≡ put_all profile i (tag_pieces profile i).size (8 + pointer_size profile) (as_number (number_x s i)) bytes
put_joined profile s i bytes =
    let tag = tag_pieces profile i in
    let list = listed_pieces profile i tag.size in
    let count : Piece = record { at = 8 + pointer_size profile; bytes = digits (byte_order profile) 4 (pos (i % 4)) } in
    let order = byte_order profile in
    let first = put_at 4 (digits order 4 (as_number (number_x s i))) (put_at 0 (digits order 4 (pos i)) bytes) in
    ap (λ (p : Pieces). put_pieces p.all bytes) (pieces_joined profile s i)
    ∙ put_pieces-append tag.all (count ∷ (list.all ++ [])) first
    ∙ ap (λ (all : List Piece). put_pieces (count ∷ all) (put_pieces tag.all first)) (append-nil list.all)

-- the size of them all
pub size_joined : (profile : Profile) (s i : ℕ) → packed_size (sent_layout profile) (sent_record s i)
    ≡ (listed_pieces profile i (tag_pieces profile i).size).size
size_joined profile s i = ap (λ (p : Pieces). p.size) (pieces_joined profile s i)

-- so many zeros
abbrev zeros : ℕ → List ℕ
zeros n = replicate n 0

nothing_left : (n : ℕ) → take n (zeros 0) ++ zeros (n - 0) ≡ zeros n
nothing_left zero = refl
nothing_left (suc n) = ap zeros (let same : suc n - 0 ≡ suc n = omega arith in same)

-- room that was cleared and filled with zeros
pub cleared_zeros : (n m : ℕ) (items : List ℕ) → items ≡ [] → m ≡ 0 → take n items ++ replicate (n - m) 0 ≡ replicate n 0
cleared_zeros n m items none empty = rw (none, empty) (nothing_left n)
