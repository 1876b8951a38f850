-- Fields that are described are read again.
use Rattle.std.proofs.Common.{◌≡◌, ℕ, ◌+◌, ◌-◌, ◌*◌, ◌^◌, ◌≤◌, ℤ, pos, ◌-ℤ◌, ◌≤ℤ◌, Bool, true, false, cond, inl, inr, List, [], ◌∷◌, ◌++◌}
use Rattle.std.proofs.Common.{length, Result, Ok, Err, refl, sym, ap, subst, ◌∙◌, append_assoc, arith}
use Rattle.std.specs.Prelude.{nat_le}
use Rattle.std.specs.Ordering.{int_eq}
use Rattle.std.proofs.lemmas.Bool.{eqb-true, leb-true, or_cases}
use Rattle.std.proofs.lemmas.Bool.Decides.{nat_tests, Decides-int_eq}
use Rattle.std.proofs.lemmas.Int.{ints}
use Rattle.std.proofs.lemmas.List.{append-nil}
use Rattle.evp_base.specs.declared.kind.Kind.{Kind}
use Rattle.evp_base.specs.declared.kind.Kind.TheVariants.{Int, Unsigned, Char, Boolean, Enumeration}
use Rattle.evp_base.specs.Name.{is_name}
use Rattle.evp_base.specs.Numbers.{is_width, is_size_of, InRange}
use Rattle.evp_base.proofs.Complement.{width}
use Rattle.evp_base.proofs.NameLemmas.{length-name}
use Rattle.evp_format.specs.declared.draft.DraftField.{DraftField}
use Rattle.evp_format.specs.declared.draft.DraftShape.{DraftShape}
use Rattle.evp_format.specs.declared.field.Base.{Base}
use Rattle.evp_format.specs.declared.field.Base.TheVariants.{Number, Text, Nested}
use Rattle.evp_format.specs.declared.layout_fault.LayoutFault.{LayoutFault}
use Rattle.evp_format.specs.declared.layout_fault.LayoutFault.TheVariants.{Outside}
use Rattle.evp_format.specs.declared.record_type.RecordType.{RecordType}
use Rattle.evp_format.specs.Describing.{described_number, described_text, stated_number, base_word}
use Rattle.evp_format.specs.Drafts.{has_field, nested_length, is_base_size, draft_extent, draft_of, is_single_number, may_default}
use Rattle.evp_format.specs.Parts.{new_field_name, allowed_size, allowed_default}
use Rattle.evp_format.specs.Reading.{number_at, signed_at, text_at, field_name_at, field_type_at, field_size_at, field_offset_at}
use Rattle.evp_format.specs.Reading.{default_at, field_at, fields_at}
use Rattle.evp_format.specs.Steps.{◌>>=◌}
use Rattle.evp_format.specs.TypeText.{type_text_of}
use Rattle.evp_format.specs.WellLaid.{IsNumberIn}
use Rattle.evp_format.proofs.Again.{AreNamed, type_text_again, type_text_short}
use Rattle.evp_format.proofs.DescribedFields.{draft_described, drafts_described, ArePlain}
use Rattle.evp_format.proofs.Parts.{tested_again, field_name_again, size_again, default_again}
use Rattle.evp_format.proofs.Places.{Stands, stands_front, stands_back, number_again, signed_again, text_again}
use Rattle.evp_format.proofs.TypeTexts.{stated_shape_text}
use Rattle.evp_format.proofs.WellLaidFormats.{Follows}
use Rattle.evp_format.proofs.WellLaidTypes.{single_number}

-- what the types before a type are like
pub record AreEarlier (pointer : ℕ) (types : List RecordType) : Type 0 where
  pub names : AreNamed types
  pub lengths : (k : ℕ) → nested_length types k ≤ 65536
  pub pointer_small : pointer ≤ 8

-- ---- the parts of a field

name_again : (type : ℕ) (before : List DraftField) (bytes : List ℕ) (at : ℕ) (name : List ℕ) (next : ℕ) → text_at bytes at ≡ Ok (name, next)
    → is_name name ≡ true → has_field before name ≡ false
    → field_name_at type before bytes at ≡ Ok (name, next)
unfolding field_name_at
name_again type before bytes at name next read named fresh = tested_again (text_at bytes at) (new_field_name type before) name next name
    read (field_name_again type before name named fresh)

type_again : (earlier : List RecordType) (field : ℕ) (bytes : List ℕ) (at : ℕ) (base : Base) (shape : DraftShape) (text : List ℕ) (next : ℕ)
    → text_at bytes at ≡ Ok (text, next)
    → type_text_of earlier (length earlier) field text ≡ Ok (base, shape) → field_type_at earlier field bytes at ≡ Ok ((base, shape), next)
unfolding field_type_at
type_again earlier field bytes at base shape text next read said =
    let meant : Base × DraftShape = (base, shape) in
    tested_again (text_at bytes at) (type_text_of earlier (length earlier) field) text next meant read said

field_size_again : (pointer : ℕ) (earlier : List RecordType) (field : ℕ) (base : Base) (bytes : List ℕ) (at size next : ℕ)
    → number_at 4 bytes at ≡ Ok (size, next) → is_base_size pointer earlier base size ≡ true
    → field_size_at pointer earlier field base bytes at ≡ Ok (size, next)
unfolding field_size_at
field_size_again pointer earlier field base bytes at size next read sized =
    tested_again (number_at 4 bytes at) (allowed_size pointer earlier field base) size next size read
    (size_again pointer earlier field base size sized)

offset_again : (type field taken room : ℕ) (bytes : List ℕ) (at offset next : ℕ) → number_at 4 bytes at ≡ Ok (offset, next)
    → nat_le (offset + taken) room ≡ true
    → field_offset_at type field taken room bytes at ≡ Ok (offset, next)
unfolding field_offset_at
offset_again type field taken room bytes at offset next read inside =
    let tested : ℕ × ℕ → Result (ℕ × ℕ) LayoutFault = λ n. cond (nat_le (n.0 + taken) room) (Ok n) (Err (Outside type field)) in
    ap (λ (r : Result (ℕ × ℕ) LayoutFault). r >>= tested) read ∙ ap (λ (b : Bool). cond b (Ok (offset, next)) (Err (Outside type field)))
    inside

-- ---- bounds

width_small : (size : ℕ) → is_width size ≡ true → size ≤ 8
width_small size wide = grind (arith, nat_tests)

kind_size_small : (kind : Kind) (size : ℕ) → is_size_of kind size ≡ true → size ≤ 8
kind_size_small Int size wide = width_small size wide
kind_size_small Unsigned size wide = width_small size wide
kind_size_small Char size one = let same = eqb-true size 1 one in omega (arith, same)
kind_size_small Boolean size wide = width_small size wide
kind_size_small Enumeration size wide = width_small size wide

base_size_small : (pointer : ℕ) (earlier : List RecordType) (base : Base) (size : ℕ) → AreEarlier pointer earlier
    → is_base_size pointer earlier base size ≡ true → size ≤ 65536
base_size_small pointer earlier (Number kind) size are sized = let small = kind_size_small kind size sized in omega (arith, small)
base_size_small pointer earlier Text size are sized = let same = eqb-true size pointer sized in let small = are.pointer_small in
    omega (arith, same, small)
base_size_small pointer earlier (Nested k) size are sized = let same = eqb-true size (nested_length earlier k) sized in
    let small = are.lengths k in omega (arith, same, small)

-- a number that fits in 16 bytes
abbrev IsSmall : ℤ → Type 0
IsSmall n = ((pos 0 -ℤ pos (2 ^ 127)) ≤ℤ n) × (n ≤ℤ pos (2 ^ 127 - 1))

signed_small : (size : ℕ) (n : ℤ) → is_width size ≡ true → (pos 0 -ℤ pos (2 ^ (8 * size - 1))) ≤ℤ n → n ≤ℤ pos (2 ^ (8 * size - 1) - 1)
    → IsSmall n
signed_small size n wide low high =
    let is = width size wide in
    let half = is.half in
    let most = is.greatest in
    let some = is.least in
    (omega (arith, ints, low, high, most, some), omega (arith, ints, low, high, most, some))

range_small : (kind : Kind) (size : ℕ) (n : ℤ) → is_size_of kind size ≡ true → InRange kind size n → IsSmall n
range_small Int size n wide inside = signed_small size n wide inside.0 inside.1
range_small Enumeration size n wide inside = signed_small size n wide inside.0 inside.1
range_small Unsigned size n wide inside =
    let is = width size wide in
    let half = is.half in
    let most = is.greatest in
    let low = inside.0 in
    let high = inside.1 in
    (omega (arith, ints, low, high, half, most), omega (arith, ints, low, high, half, most))
range_small Char size n wide inside = let low = inside.0 in let high = inside.1 in
    (omega (arith, ints, low, high), omega (arith, ints, low, high))
range_small Boolean size n wide inside = let low = inside.0 in let high = inside.1 in
    (omega (arith, ints, low, high), omega (arith, ints, low, high))

zero_small : (n : ℤ) → n ≡ pos 0 → IsSmall n
zero_small n is = subst IsSmall (sym is) (omega (arith, ints), omega (arith, ints))

number_small : (base : Base) (size : ℕ) (n : ℤ) (pointer : ℕ) (earlier : List RecordType) → is_base_size pointer earlier base size ≡ true
    → IsNumberIn base size n → IsSmall n
number_small (Number kind) size n pointer earlier sized inside = range_small kind size n sized inside
number_small Text size n pointer earlier sized inside = absurd inside
number_small (Nested k) size n pointer earlier sized inside = absurd inside

default_small : (pointer : ℕ) (earlier : List RecordType) (base : Base) (shape : DraftShape) (size : ℕ) (n : ℤ)
    → is_base_size pointer earlier base size ≡ true → may_default base shape size n ≡ true → IsSmall n
default_small pointer earlier base shape size n sized may = elim (or_cases (int_eq n (pos 0)) (is_single_number base shape size n) may) [
  | inl none ↦ zero_small n ((Decides-int_eq n (pos 0)).0 none)
  | inr single ↦ number_small base size n pointer earlier sized (single_number base shape size n single).1
]

field_default_again : (stated : Bool) (type : ℕ) (field : DraftField) (number : ℕ) (bytes : List ℕ) (at : ℕ) (n : ℤ) (next : ℕ)
    → (stated ≡ false → n ≡ pos 0) → IsSmall n
    → may_default field.base field.shape field.size n ≡ true → Stands bytes at (stated_number stated n) next
    → default_at stated type field number bytes at ≡ Ok (n, next)
unfolding default_at
field_default_again false type field number bytes at n next plain small may stands =
    let end : next ≡ at = let is = stands.next_is in omega (arith, is) in
    let pair : ℤ → ℕ → Result (ℤ × ℕ) LayoutFault = λ n next. Ok (n, next) in
    ap (λ (m : ℤ). pair m at) (sym (plain refl)) ∙ ap (pair n) (sym end)
field_default_again true type field number bytes at n next plain small may stands =
    tested_again (signed_at bytes at) (allowed_default type number field) n next n (signed_again bytes at n next small.0 small.1 stands)
    (default_again type number field n may)

-- ---- a field

field_again : (stated : Bool) (pointer : ℕ) (earlier : List RecordType) (room : ℕ) (before : List DraftField) (bytes : List ℕ) (at : ℕ)
    (field : DraftField) (next : ℕ)
    → AreEarlier pointer earlier → room ≤ 65536 → Follows pointer earlier room before field → (stated ≡ false → field.fallback ≡ pos 0)
    → Stands bytes at (draft_described stated earlier field) next → field_at stated pointer earlier room before bytes at ≡ Ok (field, next)
unfolding field_at
field_again stated pointer earlier room before bytes at field next are small follows plain whole =
    let type = length earlier in
    let number = length before in
    let is = follows.is in
    let d0 = described_text field.name in
    let text : List ℕ = base_word earlier field.base ++ stated_shape_text field.shape in
    let d1 = described_text text in
    let d2 = described_number 4 field.size in
    let d3 = described_number 4 field.offset in
    let d4 = stated_number stated field.fallback in
    let n3 = at + length (d0 ++ d1 ++ d2 ++ d3) in
    let n2 = at + length (d0 ++ d1 ++ d2) in
    let n1 = at + length (d0 ++ d1) in
    let n0 = at + length d0 in
    let w3 = stands_front bytes at (d0 ++ d1 ++ d2 ++ d3) d4 next whole in
    let s4 = stands_back bytes at (d0 ++ d1 ++ d2 ++ d3) d4 next whole in
    let w2 = stands_front bytes at (d0 ++ d1 ++ d2) d3 n3 w3 in
    let s3 = stands_back bytes at (d0 ++ d1 ++ d2) d3 n3 w3 in
    let w1 = stands_front bytes at (d0 ++ d1) d2 n2 w2 in
    let s2 = stands_back bytes at (d0 ++ d1) d2 n2 w2 in
    let s0 = stands_front bytes at d0 d1 n1 w1 in
    let s1 = stands_back bytes at d0 d1 n1 w1 in
    let short = (length-name field.name is.named).1 in
    let inside = leb-true (field.offset + draft_extent pointer field.shape field.size) room is.inside in
    let sized = base_size_small pointer earlier field.base field.size are is.sized in
    let said : Base × DraftShape = (field.base, field.shape) in
    let name = name_again type before bytes at field.name n0 (text_again bytes at field.name n0 (omega (arith, short)) s0) is.named
    follows.fresh in
    let typed = type_again earlier number bytes n0 field.base field.shape text n1
    (text_again bytes n0 text n1 (type_text_short earlier field.base field.shape are.names is.known is.shaped) s1)
    (type_text_again earlier type number field.base field.shape are.names is.known is.shaped) in
    let size = field_size_again pointer earlier number field.base bytes n1 field.size n2
    (number_again 4 bytes n1 field.size n2 (omega (arith, sized)) s2) is.sized in
    let offset = offset_again type number (draft_extent pointer field.shape field.size) room bytes n2 field.offset n3
    (number_again 4 bytes n2 field.offset n3 (omega (arith, inside, small)) s3) is.inside in
    let bounds = default_small pointer earlier field.base field.shape field.size field.fallback is.sized is.defaulted in
    let none : DraftField = draft_of field.name said field.size field.offset (pos 0) in
    let fallback = field_default_again stated type none number bytes n3 field.fallback next plain bounds is.defaulted s4 in
    let last : List ℕ × ℕ → (Base × DraftShape) × ℕ → ℕ × ℕ → ℕ × ℕ → ℤ × ℕ
    → Result (DraftField × ℕ) LayoutFault = λ name said size offset fallback. Ok
    (draft_of name.0 said.0 size.0 offset.0 fallback.0, fallback.1) in
    let with_offset : List ℕ × ℕ → (Base × DraftShape) × ℕ → ℕ × ℕ → ℕ × ℕ → Result (DraftField × ℕ) LayoutFault =
    λ name said size offset. default_at stated type (draft_of name.0 said.0 size.0 offset.0 (pos 0)) number bytes offset.1
    >>= last name said size offset in
    let with_size : List ℕ × ℕ → (Base × DraftShape) × ℕ → ℕ × ℕ → Result (DraftField × ℕ) LayoutFault =
    λ name said size. field_offset_at type number (draft_extent pointer said.0.1 size.0) room bytes size.1 >>= with_offset name said size in
    let with_type : List ℕ × ℕ → (Base × DraftShape) × ℕ → Result (DraftField × ℕ) LayoutFault = λ name said. field_size_at pointer earlier
    number said.0.0 bytes said.1 >>= with_size name said in
    let with_name : List ℕ × ℕ → Result (DraftField × ℕ) LayoutFault = λ name. field_type_at earlier number bytes name.1
    >>= with_type name in
    ap (λ (r : Result (List ℕ × ℕ) LayoutFault). r >>= with_name) name
    ∙ ap (λ (r : Result ((Base × DraftShape) × ℕ) LayoutFault). r >>= with_type (field.name, n0)) typed
    ∙ ap (λ (r : Result (ℕ × ℕ) LayoutFault). r >>= with_size (field.name, n0) (said, n1)) size
    ∙ ap (λ (r : Result (ℕ × ℕ) LayoutFault). r >>= with_offset (field.name, n0) (said, n1) (field.size, n2)) offset
    ∙ ap (λ (r : Result (ℤ × ℕ) LayoutFault). r >>= last (field.name, n0) (said, n1) (field.size, n2) (field.offset, n3)) fallback

-- fields each of which may follow those before it
abbrev pub FollowEach : ℕ → List RecordType → ℕ → List DraftField → List DraftField → Type 0
FollowEach pointer earlier room before [] = Unit {0}
FollowEach pointer earlier room before (field ∷ fields) = Follows pointer earlier room before field
    × FollowEach pointer earlier room (before ++ field ∷ []) fields

pub fields_again : (stated : Bool) (pointer : ℕ) (earlier : List RecordType) (room : ℕ) (before fields : List DraftField) (bytes : List ℕ)
    (at next : ℕ)
    → AreEarlier pointer earlier → room ≤ 65536 → FollowEach pointer earlier room before fields → ArePlain stated fields
    → Stands bytes at (drafts_described stated earlier fields) next → fields_at (length fields) stated pointer earlier room before bytes at
    ≡ Ok (before ++ fields, next)
unfolding fields_at
fields_again stated pointer earlier room before [] bytes at next are small follow plain stands =
    let end : next ≡ at = let is = stands.next_is in omega (arith, is) in
    let pair : List DraftField → ℕ → Result (List DraftField × ℕ) LayoutFault = λ fields next. Ok (fields, next) in
    ap (λ (fields : List DraftField). pair fields at) (sym (append-nil before)) ∙ ap (pair (before ++ [])) (sym end)
fields_again stated pointer earlier room before (field ∷ fields) bytes at next are small follow plain stands =
    let text = draft_described stated earlier field in
    let front = stands_front bytes at text (drafts_described stated earlier fields) next stands in
    let back = stands_back bytes at text (drafts_described stated earlier fields) next stands in
    let first = field_again stated pointer earlier room before bytes at field (at + length text) are small follow.0 plain.0 front in
    let rest = fields_again stated pointer earlier room (before ++ field ∷ []) fields bytes (at + length text) next are small follow.1
    plain.1 back in
    let with_field : DraftField × ℕ → Result (List DraftField × ℕ) LayoutFault = λ field. fields_at (length fields) stated pointer earlier
    room (before ++ field.0 ∷ []) bytes field.1 in
    let pair : List DraftField → Result (List DraftField × ℕ) LayoutFault = λ fields. Ok (fields, next) in
    ap (λ (r : Result (DraftField × ℕ) LayoutFault). r >>= with_field) first ∙ rest ∙ ap pair (append_assoc before (field ∷ []) fields)
