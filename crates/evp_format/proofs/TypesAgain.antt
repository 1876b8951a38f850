-- A type that is described is read again behind the types before it.
use Rattle.std.proofs.Common.{◌≡◌, ℕ, zero, suc, ◌+◌, ◌≤◌, pos, Bool, true, false, cond, inl, inr, List, [], ◌∷◌, ◌++◌, length}
use Rattle.std.proofs.Common.{take, Option, Some, Result, Ok, Err, refl, sym, ap, subst, ◌∙◌, append_assoc, arith}
use Rattle.std.specs.Prelude.{slice_get, ◌&&◌, nat_le}
use Rattle.std.proofs.lemmas.Bool.{le-leb}
use Rattle.std.proofs.lemmas.List.{append-nil, take_at}
use Rattle.std.proofs.lemmas.Option.{slice_get_within}
use Rattle.evp_base.specs.Name.{is_name}
use Rattle.evp_base.proofs.NameLemmas.{length-name}
use Rattle.evp_format.specs.declared.draft.DraftField.{DraftField}
use Rattle.evp_format.specs.declared.field.Field.{Field}
use Rattle.evp_format.specs.declared.layout_fault.LayoutFault.{LayoutFault}
use Rattle.evp_format.specs.declared.layout_fault.LayoutFault.TheVariants.{Limit, Overlap}
use Rattle.evp_format.specs.declared.layout_fault.Which.TheVariants.{Length}
use Rattle.evp_format.specs.declared.record_type.RecordType.{RecordType}
use Rattle.evp_format.specs.Bytes.{bytes_equal}
use Rattle.evp_format.specs.Describing.{described_number, described_text, type_name, described_fields, described_type, described_types}
use Rattle.evp_format.specs.Drafts.{has_type, nested_length, depth_behind, without_overlap}
use Rattle.evp_format.specs.Layout.{Layout}
use Rattle.evp_format.specs.Parts.{new_type_name, new_field_count}
use Rattle.evp_format.specs.Reading.{number_at, text_at, fields_at, type_name_at, type_length_at, field_count_at, whole_type, type_at}
use Rattle.evp_format.specs.Reading.{types_at}
use Rattle.evp_format.specs.SoFar.{MayFollow}
use Rattle.evp_format.specs.Steps.{◌>>=◌, refused_by}
use Rattle.evp_format.specs.Tree.{empty_tree}
use Rattle.evp_format.specs.WellLaid.{is_reserved, IsLaidType, IsWellLaid, all_fields}
use Rattle.evp_format.proofs.DescribedFields.{drafts_described, ArePlain}
use Rattle.evp_format.proofs.FieldsAgain.{AreEarlier, fields_again}
use Rattle.evp_format.proofs.Parts.{tested_again, type_name_again, field_count_again, ended_again}
use Rattle.evp_format.proofs.Places.{Stands, stands_front, stands_back, number_again, text_again}
use Rattle.evp_format.proofs.Pushed.{slice_get-some, slice_get-front}
use Rattle.evp_format.proofs.StatedFields.{stated_all, length-stated_all, fields_described, AreKnown, laid_known, follow_each}
use Rattle.evp_format.proofs.StatedFields.{counted_again, no_count_default, no_overlap, bytes_equal-false, slice_get-seam}
use Rattle.evp_format.proofs.Trees.{get_or-trees}
use Rattle.evp_format.proofs.WellLaidFormats.{all_fields-push}

-- ---- a type

name_again : (earlier : List RecordType) (bytes : List ℕ) (at : ℕ) (name : List ℕ) (next : ℕ) → text_at bytes at ≡ Ok (name, next)
    → is_name name ≡ true → is_reserved name ≡ false → has_type earlier name ≡ false
    → type_name_at earlier bytes at ≡ Ok (name, next)
unfolding type_name_at
name_again earlier bytes at name next read named free fresh = tested_again (text_at bytes at) (new_type_name earlier) name next name read
    (type_name_again earlier name named free fresh)

type_length_again : (bytes : List ℕ) (at room next : ℕ) → number_at 4 bytes at ≡ Ok (room, next) → 1 ≤ room → room ≤ 65536
    → type_length_at bytes at ≡ Ok (room, next)
unfolding type_length_at
type_length_again bytes at room next read least most =
    let tested : ℕ × ℕ → Result (ℕ × ℕ) LayoutFault = λ n. cond (nat_le 1 n.0 && nat_le n.0 65536) (Ok n) (Err (Limit Length n.0)) in
    let good : (nat_le 1 room && nat_le room 65536) ≡ true = rw (le-leb 1 room least, le-leb room 65536 most) refl in
    ap (λ (r : Result (ℕ × ℕ) LayoutFault). r >>= tested) read ∙ ap (λ (b : Bool). cond b (Ok (room, next)) (Err (Limit Length room))) good

count_again : (so_far : ℕ) (bytes : List ℕ) (at count next : ℕ) → number_at 2 bytes at ≡ Ok (count, next) → 1 ≤ count → count ≤ 1024
    → so_far + count ≤ 4096 → field_count_at so_far bytes at ≡ Ok (count, next)
unfolding field_count_at
count_again so_far bytes at count next read least most few = tested_again (number_at 2 bytes at) (new_field_count so_far) count next count
    read (field_count_again so_far count least most few)

whole_again : (pointer : ℕ) (earlier : List RecordType) (type : RecordType) → IsLaidType pointer earlier type
    → depth_behind earlier type ≤ 16
    → whole_type pointer earlier type.name type.length (stated_all type.fields type.fields) ≡ Ok type
unfolding whole_type without_overlap
whole_again pointer earlier type laid shallow =
    let number = length earlier in
    let drafts = stated_all type.fields type.fields in
    ap (λ (r : Result RecordType LayoutFault). r >>= without_overlap pointer number)
    (ended_again earlier drafts type (counted_again type.fields number laid.names_differ
    (λ k field found. (laid.each_field k field found).shape_allowed))
    (no_count_default type.fields (λ k field found. (laid.each_field k field found).default_allowed)) shallow)
    ∙ ap (λ (o : Option (ℕ × ℕ)). refused_by o (λ pair. Overlap number pair.0 pair.1) type) (no_overlap pointer earlier type laid)

-- the fields' defaults are 0 unless they are stated
abbrev pub HasPlain : Bool → List Field → Type 0
HasPlain stated [] = Unit {0}
HasPlain stated (field ∷ fields) = (stated ≡ false → field.fallback ≡ pos 0) × HasPlain stated fields

plain_drafts : (stated : Bool) (all fields : List Field) → HasPlain stated fields → ArePlain stated (stated_all all fields)
plain_drafts stated all [] plain = tt
plain_drafts stated all (field ∷ fields) plain = (plain.0, plain_drafts stated all fields plain.1)

known_from : (pointer : ℕ) (earlier : List RecordType) (type : RecordType) (front rest : List Field) → IsLaidType pointer earlier type
    → type.fields ≡ front ++ rest → AreKnown earlier rest
known_from pointer earlier type front [] laid split = tt
known_from pointer earlier type front (field ∷ rest) laid split =
    let at : slice_get type.fields (length front) ≡ Some field = ap (λ (some : List Field). slice_get some (length front)) split
    ∙ slice_get-seam front rest field in (
      laid_known pointer earlier field.base field.size (laid.each_field (length front) field at).size_allowed,
      known_from pointer earlier type (front ++ field ∷ []) rest laid (split ∙ sym (append_assoc front (field ∷ []) rest)),
    )

type_again : (stated : Bool) (pointer : ℕ) (earlier more : List RecordType) (type : RecordType) (bytes : List ℕ) (at next : ℕ)
    → AreEarlier pointer earlier → IsLaidType pointer earlier type → has_type earlier type.name ≡ false → depth_behind earlier type ≤ 16
    → all_fields earlier + length type.fields ≤ 4096 → HasPlain stated type.fields
    → Stands bytes at (described_type stated (earlier ++ more) type) next → type_at stated pointer earlier bytes at ≡ Ok (type, next)
unfolding type_at
type_again stated pointer earlier more type bytes at next are laid fresh shallow few plain whole =
    let all = type.fields in
    let drafts = stated_all all all in
    let d0 = described_text type.name in
    let d1 = described_number 4 type.length in
    let d2 = described_number 2 (length all) in
    let d3 = described_fields stated (earlier ++ more) all all in
    let n2 = at + length (d0 ++ d1 ++ d2) in
    let n1 = at + length (d0 ++ d1) in
    let n0 = at + length d0 in
    let w2 = stands_front bytes at (d0 ++ d1 ++ d2) d3 next whole in
    let s3 = stands_back bytes at (d0 ++ d1 ++ d2) d3 next whole in
    let w1 = stands_front bytes at (d0 ++ d1) d2 n2 w2 in
    let s2 = stands_back bytes at (d0 ++ d1) d2 n2 w2 in
    let s0 = stands_front bytes at d0 d1 n1 w1 in
    let s1 = stands_back bytes at d0 d1 n1 w1 in
    let short = (length-name type.name laid.named).1 in
    let least = laid.length_allowed.0 in
    let most = laid.length_allowed.1 in
    let some = laid.fields_allowed.0 in
    let many = laid.fields_allowed.1 in
    let name = name_again earlier bytes at type.name n0 (text_again bytes at type.name n0 (omega (arith, short)) s0) laid.named
    laid.not_reserved fresh in
    let room = type_length_again bytes n0 type.length n1 (number_again 4 bytes n0 type.length n1 (omega (arith, most)) s1) least most in
    let count = count_again (all_fields earlier) bytes n1 (length all) n2 (number_again 2 bytes n1 (length all) n2 (omega (arith, many)) s2)
    some many few in
    let texts : d3 ≡ drafts_described stated earlier drafts = fields_described stated earlier more all all
    (known_from pointer earlier type [] all laid refl) in
    let stands = subst (λ (text : List ℕ). Stands bytes n2 text next) texts s3 in
    let read = fields_again stated pointer earlier type.length [] drafts bytes n2 next are most
    (follow_each pointer earlier type [] all laid refl) (plain_drafts stated all all plain) stands in
    let fields : fields_at (length all) stated pointer earlier type.length [] bytes n2
    ≡ Ok (drafts, next) = ap (λ (n : ℕ). fields_at n stated pointer earlier type.length [] bytes n2) (sym (length-stated_all all all))
    ∙ read in
    let made = whole_again pointer earlier type laid shallow in
    let with_fields : List ℕ × ℕ → ℕ × ℕ → List DraftField × ℕ → Result (RecordType × ℕ) LayoutFault = λ name room fields. whole_type
    pointer earlier name.0 room.0 fields.0 >>= λ type. Ok (type, fields.1) in
    let with_count : List ℕ × ℕ → ℕ × ℕ → ℕ × ℕ → Result (RecordType × ℕ) LayoutFault = λ name room count. fields_at count.0 stated pointer
    earlier room.0 [] bytes count.1 >>= with_fields name room in
    let with_room : List ℕ × ℕ → ℕ × ℕ → Result (RecordType × ℕ) LayoutFault = λ name room. field_count_at (all_fields earlier) bytes room.1
    >>= with_count name room in
    let with_name : List ℕ × ℕ → Result (RecordType × ℕ) LayoutFault = λ name. type_length_at bytes name.1 >>= with_room name in
    ap (λ (r : Result (List ℕ × ℕ) LayoutFault). r >>= with_name) name
    ∙ ap (λ (r : Result (ℕ × ℕ) LayoutFault). r >>= with_room (type.name, n0)) room
    ∙ ap (λ (r : Result (ℕ × ℕ) LayoutFault). r >>= with_count (type.name, n0) (type.length, n1)) count
    ∙ ap (λ (r : Result (List DraftField × ℕ) LayoutFault). r >>= with_fields (type.name, n0) (type.length, n1)) fields
    ∙ ap (λ (r : Result RecordType LayoutFault). r >>= λ type. Ok (type, next)) made

-- ---- types

type_name-get : (types : List RecordType) (k : ℕ) (type : RecordType) → slice_get types k ≡ Some type → type_name types k ≡ type.name
type_name-get [] k type found = absurd (cc)
type_name-get (first ∷ types) zero type found = let same : first ≡ type = cc in ap (λ (t : RecordType). t.name) same
type_name-get (first ∷ types) (suc k) type found = type_name-get types k type found

nested_length_small : (types : List RecordType) (k : ℕ)
    → ((n : ℕ) (type : RecordType) → slice_get types n ≡ Some type → type.length ≤ 65536) → nested_length types k ≤ 65536
nested_length_small [] k each = omega arith
nested_length_small (first ∷ types) zero each = each 0 first refl
nested_length_small (first ∷ types) (suc k) each = nested_length_small types k (λ n type found. each (suc n) type found)

list_any-types : (types : List RecordType) (name : List ℕ)
    → ((k : ℕ) (type : RecordType) → slice_get types k ≡ Some type → bytes_equal type.name name ≡ false) → has_type types name ≡ false
list_any-types [] name none = refl
list_any-types (first ∷ types) name none = rw (none 0 first refl) (list_any-types types name (λ k type found. none (suc k) type found))

-- the types of a well laid format, in front and behind
pub record Splits (layout : Layout) (front rest : List RecordType) : Type 0 where
  pub laid : IsWellLaid layout
  pub is : layout.types ≡ front ++ rest

front_at : (layout : Layout) (front rest : List RecordType) (k : ℕ) (type : RecordType) → Splits layout front rest → slice_get front k
    ≡ Some type → slice_get layout.types k ≡ Some type
front_at layout front rest k type splits found = ap (λ (some : List RecordType). slice_get some k) splits.is
    ∙ slice_get-front front rest k type found

pub are_earlier : (layout : Layout) (front rest : List RecordType) → Splits layout front rest → AreEarlier layout.pointer front
are_earlier layout front rest splits = record {
  names = record {
    named = λ k below. let some = slice_get-some front k below in
        ap is_name (type_name-get front k some.0 some.1) ∙
        (splits.laid.each_type k some.0 (front_at layout front rest k some.0 splits some.1)).named;
    free = λ k below. let some = slice_get-some front k below in
        ap is_reserved (type_name-get front k some.0 some.1) ∙
        (splits.laid.each_type k some.0 (front_at layout front rest k some.0 splits some.1)).not_reserved;
    differ = λ i k less below.
        let first = slice_get-some front i (omega (arith, less, below)) in
        let second = slice_get-some front k below in
        let differ = splits.laid.names_differ i k first.0 second.0 less (front_at layout front rest i first.0 splits first.1)
        (front_at layout front rest k second.0 splits second.1) in
        ap (λ (n : List ℕ). bytes_equal n (type_name front k)) (type_name-get front i first.0 first.1)
        ∙ ap (bytes_equal first.0.name) (type_name-get front k second.0 second.1) ∙ bytes_equal-false first.0.name second.0.name differ;
  };
  lengths = λ k. nested_length_small front k (λ n type found.
      (splits.laid.each_type n type (front_at layout front rest n type splits found)).length_allowed.1);
  pointer_small = elim splits.laid.pointer_allowed [ inl four ↦ omega (arith, four) | inr eight ↦ omega (arith, eight) ];
}

all_fields-front : (front rest : List RecordType) → all_fields front ≤ all_fields (front ++ rest)
all_fields-front front [] = let same = ap all_fields (append-nil front) in omega (arith, same)
all_fields-front front (type ∷ rest) =
    let more = all_fields-front (front ++ type ∷ []) rest in
    let grown = all_fields-push front type in
    let split = ap all_fields (append_assoc front (type ∷ []) rest) in
    omega (arith, more, grown, split)

-- the defaults of the types are 0 unless they are stated
abbrev pub HavePlain : Bool → List RecordType → Type 0
HavePlain stated [] = Unit {0}
HavePlain stated (type ∷ types) = HasPlain stated type.fields × HavePlain stated types

-- the first type of the rest may follow those in front
pub may_follow : (layout : Layout) (front rest : List RecordType) (type : RecordType) → Splits layout front (type ∷ rest)
    → MayFollow layout.pointer front type
may_follow layout front rest type splits =
    let laid = splits.laid in
    let at_seam : slice_get layout.types (length front) ≡ Some type = ap (λ (some : List RecordType). slice_get some (length front))
    splits.is ∙ slice_get-seam front rest type in
    let before : take (length front) layout.types ≡ front = ap (take (length front)) splits.is
    ∙ take_at front (type ∷ rest) (length front) refl in
    let below = slice_get_within layout.types (length front) type at_seam in
    let tree_is = get_or-trees layout.types (length front) type empty_tree at_seam in
    let deep = laid.nesting_allowed (length front) below in
    let most = all_fields-front (front ++ type ∷ []) rest in
    let grown = all_fields-push front type in
    let same = ap all_fields (splits.is ∙ sym (append_assoc front (type ∷ []) rest)) in
    let limit = laid.fields_allowed in
    record {
      is = subst (λ (some : List RecordType). IsLaidType layout.pointer some type) before (laid.each_type (length front) type at_seam);
      fresh = list_any-types front type.name (λ k other found.
          bytes_equal-false other.name type.name (laid.names_differ k (length front) other type (slice_get_within front k other found)
          (front_at layout front (type ∷ rest) k other splits found) at_seam));
      shallow = subst (λ (some : List RecordType). depth_behind some type ≤ 16) before (rw tree_is at deep);
      few = omega (arith, most, grown, same, limit);
    }

pub types_again : (stated : Bool) (layout : Layout) (front rest : List RecordType) (bytes : List ℕ) (at next : ℕ) → Splits layout front rest
    → HavePlain stated rest
    → Stands bytes at (described_types stated layout.types rest) next → types_at (length rest) stated layout.pointer front bytes at
    ≡ Ok (layout.types, next)
unfolding types_at
types_again stated layout front [] bytes at next splits plain stands =
    let end : next ≡ at = let is = stands.next_is in omega (arith, is) in
    let same : front ≡ layout.types = sym (append-nil front) ∙ sym splits.is in
    let pair : List RecordType → ℕ → Result (List RecordType × ℕ) LayoutFault = λ types next. Ok (types, next) in
    ap (λ (types : List RecordType). pair types at) same ∙ ap (pair layout.types) (sym end)
types_again stated layout front (type ∷ rest) bytes at next splits plain stands =
    let text = described_type stated layout.types type in
    let text_is : text ≡ described_type stated (front ++ type ∷ rest) type = ap
    (λ (types : List RecordType). described_type stated types type) splits.is in
    let s0 = stands_front bytes at text (described_types stated layout.types rest) next stands in
    let s1 = stands_back bytes at text (described_types stated layout.types rest) next stands in
    let n0 = at + length text in
    let follows = may_follow layout front rest type splits in
    let together : front ++ type ∷ rest ≡ (front ++ type ∷ []) ++ rest = sym (append_assoc front (type ∷ []) rest) in
    let first = type_again stated layout.pointer front (type ∷ rest) type bytes at n0 (are_earlier layout front (type ∷ rest) splits)
    follows.is follows.fresh follows.shallow follows.few plain.0
    (subst (λ (t : List ℕ). Stands bytes at t n0) text_is s0) in
    let later = types_again stated layout (front ++ type ∷ []) rest bytes n0 next (record { laid = splits.laid; is = splits.is ∙ together })
    plain.1 s1 in
    let with_type : RecordType × ℕ → Result (List RecordType × ℕ) LayoutFault = λ type. types_at (length rest) stated layout.pointer
    (front ++ type.0 ∷ []) bytes type.1 in
    ap (λ (r : Result (RecordType × ℕ) LayoutFault). r >>= with_type) first ∙ later
