-- What is read part by part is a well laid format.
use Rattle.std.proofs.Common.{◌≡◌, ◌≢◌, ℕ, zero, suc, ◌+◌, ◌<◌, ◌≤◌, ℤ, pos, Bool, true, false, cond, ◌⊎◌, inl, inr, List, [], ◌∷◌, ◌++◌}
use Rattle.std.proofs.Common.{length, take, Some, None, Result, Ok, Err, refl, sym, ap, subst, ◌∙◌, arith}
use Rattle.std.specs.Prelude.{slice_get, ◌&&◌, nat_le, fold, map}
use Rattle.std.proofs.lemmas.Bool.{and_parts, leb-true}
use Rattle.std.proofs.lemmas.List.{length-append, take-append-le, take_at}
use Rattle.evp_base.specs.declared.order.Order.{Order}
use Rattle.evp_base.specs.Name.{is_name}
use Rattle.evp_format.specs.declared.draft.DraftField.{DraftField}
use Rattle.evp_format.specs.declared.draft.DraftShape.{DraftShape}
use Rattle.evp_format.specs.declared.field.Base.{Base}
use Rattle.evp_format.specs.declared.layout_fault.LayoutFault.{LayoutFault}
use Rattle.evp_format.specs.declared.layout_fault.LayoutFault.TheVariants.{Outside, Limit, Overlap}
use Rattle.evp_format.specs.declared.layout_fault.Which.TheVariants.{Length}
use Rattle.evp_format.specs.declared.record_type.RecordType.{RecordType}
use Rattle.evp_format.specs.Bytes.{bytes_equal}
use Rattle.evp_format.specs.Drafts.{has_field, has_type, is_base_size, draft_extent, draft_of, may_default, first_overlap, depth_behind}
use Rattle.evp_format.specs.Drafts.{without_overlap}
use Rattle.evp_format.specs.Layout.{layout_with}
use Rattle.evp_format.specs.Parts.{new_type_name, new_field_count, new_field_name, allowed_size, allowed_default, ended_type}
use Rattle.evp_format.specs.Reading.{number_at, signed_at, text_at, field_name_at, field_type_at, field_size_at, field_offset_at}
use Rattle.evp_format.specs.Reading.{default_at, field_at, fields_at, type_name_at, type_length_at, field_count_at, whole_type, type_at}
use Rattle.evp_format.specs.Reading.{types_at}
use Rattle.evp_format.specs.SoFar.{AreLaid, MayFollow}
use Rattle.evp_format.specs.Steps.{◌>>=◌}
use Rattle.evp_format.specs.Tree.{empty_tree}
use Rattle.evp_format.specs.TypeText.{type_text_of}
use Rattle.evp_format.specs.WellLaid.{is_reserved, IsLaidType, IsWellLaid, all_fields}
use Rattle.evp_format.proofs.Parts.{read_tested, type_name_facts, field_name_facts, field_count_facts, size_facts, default_facts, Ended}
use Rattle.evp_format.proofs.Parts.{ended_facts, refused_none}
use Rattle.evp_format.proofs.Pushed.{slice_get-push, slice_get-some, list_any-none, bytes_equal-same}
use Rattle.evp_format.proofs.Trees.{get_or-trees}
use Rattle.evp_format.proofs.TypeTexts.{type_text_spelled}
use Rattle.evp_format.proofs.WellLaidTypes.{bind_ok, passed, ok_is, IsKnown, IsStatedShape, IsDraft, AreDrafts, AreCounted, counted_each}
use Rattle.evp_format.proofs.WellLaidTypes.{laid_type}

-- ---- the parts of a field

field_name_read : (type : ℕ) (before : List DraftField) (bytes : List ℕ) (at : ℕ) (name : List ℕ × ℕ) → field_name_at type before bytes at
    ≡ Ok name
    → (is_name name.0 ≡ true) × (has_field before name.0 ≡ false)
unfolding field_name_at
field_name_read type before bytes at name e =
    let read = read_tested (text_at bytes at) (new_field_name type before) name e in
    let facts = field_name_facts type before read.0 name.0 read.2 in
    (facts.0, facts.1)

field_type_facts : (earlier : List RecordType) (field : ℕ) (bytes : List ℕ) (at : ℕ) (said : (Base × DraftShape) × ℕ)
    → field_type_at earlier field bytes at ≡ Ok said
    → IsKnown earlier said.0.0 × IsStatedShape said.0.1
unfolding field_type_at
field_type_facts earlier field bytes at said e =
    let read = read_tested (text_at bytes at) (type_text_of earlier (length earlier) field) said e in
    let spelled = type_text_spelled earlier (length earlier) field read.0 said.0 read.2 in
    (spelled.0, spelled.1)

field_size_read : (pointer : ℕ) (earlier : List RecordType) (field : ℕ) (base : Base) (bytes : List ℕ) (at : ℕ) (size : ℕ × ℕ)
    → field_size_at pointer earlier field base bytes at ≡ Ok size
    → is_base_size pointer earlier base size.0 ≡ true
unfolding field_size_at
field_size_read pointer earlier field base bytes at size e =
    let read = read_tested (number_at 4 bytes at) (allowed_size pointer earlier field base) size e in
    (size_facts pointer earlier field base read.0 size.0 read.2).0

field_offset_facts : (type field taken room : ℕ) (bytes : List ℕ) (at : ℕ) (offset : ℕ × ℕ) → field_offset_at type field taken room bytes at
    ≡ Ok offset
    → nat_le (offset.0 + taken) room ≡ true
unfolding field_offset_at
field_offset_facts type field taken room bytes at offset e =
    let n = bind_ok (number_at 4 bytes at) (λ n. cond (nat_le (n.0 + taken) room) (Ok n) (Err (Outside type field))) offset e in
    let fits = passed (nat_le (n.0.0 + taken) room) (Outside type field) n.0 offset n.2 in
    subst (λ (s : ℕ × ℕ). nat_le (s.0 + taken) room ≡ true) fits.1 fits.0

default_read : (stated : Bool) (type : ℕ) (field : DraftField) (number : ℕ) (bytes : List ℕ) (at : ℕ) (fallback : ℤ × ℕ)
    → default_at stated type field number bytes at ≡ Ok fallback
    → may_default field.base field.shape field.size fallback.0 ≡ true
unfolding default_at
default_read false type field number bytes at fallback e =
    let none : ℤ × ℕ = (pos 0, at) in
    subst (λ (f : ℤ × ℕ). may_default field.base field.shape field.size f.0 ≡ true) (ok_is none fallback e) refl
default_read true type field number bytes at fallback e =
    let read = read_tested (signed_at bytes at) (allowed_default type number field) fallback e in
    (default_facts type number field read.0 fallback.0 read.2).0

-- ---- fields

-- what may follow these fields
pub record Follows (pointer : ℕ) (earlier : List RecordType) (room : ℕ) (before : List DraftField) (field : DraftField) : Type 0 where
  pub is : IsDraft pointer earlier room field
  pub fresh : has_field before field.name ≡ false

field_facts : (stated : Bool) (pointer : ℕ) (earlier : List RecordType) (room : ℕ) (before : List DraftField) (bytes : List ℕ) (at : ℕ)
    (field : DraftField × ℕ)
    → field_at stated pointer earlier room before bytes at ≡ Ok field → Follows pointer earlier room before field.0
unfolding field_at
field_facts stated pointer earlier room before bytes at field e =
    let type = length earlier in
    let number = length before in
    let last : List ℕ × ℕ → (Base × DraftShape) × ℕ → ℕ × ℕ → ℕ × ℕ → ℤ × ℕ
    → Result (DraftField × ℕ) LayoutFault = λ name said size offset fallback. Ok
    (draft_of name.0 said.0 size.0 offset.0 fallback.0, fallback.1) in
    let with_offset : List ℕ × ℕ → (Base × DraftShape) × ℕ → ℕ × ℕ → ℕ × ℕ → Result (DraftField × ℕ) LayoutFault =
    λ name said size offset. default_at stated type (draft_of name.0 said.0 size.0 offset.0 (pos 0)) number bytes offset.1
    >>= last name said size offset in
    let with_size : List ℕ × ℕ → (Base × DraftShape) × ℕ → ℕ × ℕ → Result (DraftField × ℕ) LayoutFault =
    λ name said size. field_offset_at type number (draft_extent pointer said.0.1 size.0) room bytes size.1 >>= with_offset name said size in
    let with_type : List ℕ × ℕ → (Base × DraftShape) × ℕ → Result (DraftField × ℕ) LayoutFault = λ name said. field_size_at pointer earlier
    number said.0.0 bytes said.1 >>= with_size name said in
    let with_name : List ℕ × ℕ → Result (DraftField × ℕ) LayoutFault = λ name. field_type_at earlier number bytes name.1
    >>= with_type name in
    let name = bind_ok (field_name_at type before bytes at) with_name field e in
    let said = bind_ok (field_type_at earlier number bytes name.0.1) (with_type name.0) field name.2 in
    let size = bind_ok (field_size_at pointer earlier number said.0.0.0 bytes said.0.1) (with_size name.0 said.0) field said.2 in
    let offset = bind_ok (field_offset_at type number (draft_extent pointer said.0.0.1 size.0.0) room bytes size.0.1)
    (with_offset name.0 said.0 size.0) field size.2 in
    let fallback = bind_ok (default_at stated type (draft_of name.0.0 said.0.0 size.0.0 offset.0.0 (pos 0)) number bytes offset.0.1)
    (last name.0 said.0 size.0 offset.0) field offset.2 in
    let made : DraftField × ℕ = (draft_of name.0.0 said.0.0 size.0.0 offset.0.0 fallback.0.0, fallback.0.1) in
    let named = field_name_read type before bytes at name.0 name.1 in
    let typed = field_type_facts earlier number bytes name.0.1 said.0 said.1 in
    let follows : Follows pointer earlier room before made.0 = record {
      is = record {
        named = named.0;
        known = typed.0;
        sized = field_size_read pointer earlier number said.0.0.0 bytes said.0.1 size.0 size.1;
        shaped = typed.1;
        inside = field_offset_facts type number (draft_extent pointer said.0.0.1 size.0.0) room bytes size.0.1 offset.0 offset.1;
        defaulted = default_read stated type (draft_of name.0.0 said.0.0 size.0.0 offset.0.0 (pos 0)) number bytes offset.0.1 fallback.0
            fallback.1;
      };
      fresh = named.1;
    } in
    subst (λ (f : DraftField × ℕ). Follows pointer earlier room before f.0) (ok_is made field fallback.2) follows

pub no_drafts : (pointer : ℕ) (earlier : List RecordType) (room : ℕ) → AreDrafts pointer earlier room []
no_drafts pointer earlier room = record {
  each = λ k field found. absurd (cc);
  names_differ = λ i j field other below found found'. absurd (cc);
}

pub drafts_push : (pointer : ℕ) (earlier : List RecordType) (room : ℕ) (before : List DraftField) (field : DraftField)
    → AreDrafts pointer earlier room before
    → Follows pointer earlier room before field → AreDrafts pointer earlier room (before ++ field ∷ [])
drafts_push pointer earlier room before field are follows = record {
  each = λ k other found. elim (slice_get-push before field k other found) [
    | inl old ↦ are.each k other old.1
    | inr new ↦ subst (IsDraft pointer earlier room) new.1 follows.is
  ];
  names_differ = λ i j first second below found found'. elim (slice_get-push before field j second found') [
    | inl old ↦ elim (slice_get-push before field i first found) [
      | inl older ↦ are.names_differ i j first second below older.1 old.1
      | inr new ↦ absurd (let past = new.0 in let inside = old.0 in omega (arith, past, inside, below))
    ]
    | inr new ↦ elim (slice_get-push before field i first found) [
      | inl older ↦ ap (λ (f : DraftField). bytes_equal first.name f.name) (sym new.1)
          ∙ list_any-none (λ (f : DraftField). bytes_equal f.name field.name) before i first follows.fresh older.1
      | inr newer ↦ absurd (let past = newer.0 in let last = new.0 in omega (arith, past, last, below))
    ]
  ];
}

pub fields_facts : (count : ℕ) (stated : Bool) (pointer : ℕ) (earlier : List RecordType) (room : ℕ) (before : List DraftField)
    (bytes : List ℕ) (at : ℕ) (fields : List DraftField × ℕ)
    → fields_at count stated pointer earlier room before bytes at ≡ Ok fields → AreDrafts pointer earlier room before
    → AreDrafts pointer earlier room fields.0 × (length fields.0 ≡ length before + count)
unfolding fields_at
fields_facts zero stated pointer earlier room before bytes at fields e are =
    let made : List DraftField × ℕ = (before, at) in
    subst (λ (f : List DraftField × ℕ). AreDrafts pointer earlier room f.0 × (length f.0 ≡ length before + 0)) (ok_is made fields e)
    (are, omega arith)
fields_facts (suc count) stated pointer earlier room before bytes at fields e are =
    let field = bind_ok (field_at stated pointer earlier room before bytes at)
    (λ field. fields_at count stated pointer earlier room (before ++ field.0 ∷ []) bytes field.1) fields e in
    let follows = field_facts stated pointer earlier room before bytes at field.0 field.1 in
    let rest = fields_facts count stated pointer earlier room (before ++ field.0.0 ∷ []) bytes field.0.1 fields field.2
    (drafts_push pointer earlier room before field.0.0 are follows) in
    let grown = length-append before (field.0.0 ∷ []) in
    let all = rest.1 in
    (rest.0, omega (arith, grown, all))

-- ---- the parts of a type

type_name_read : (earlier : List RecordType) (bytes : List ℕ) (at : ℕ) (name : List ℕ × ℕ) → type_name_at earlier bytes at ≡ Ok name
    → (is_name name.0 ≡ true) × (is_reserved name.0 ≡ false) × (has_type earlier name.0 ≡ false)
unfolding type_name_at
type_name_read earlier bytes at name e =
    let read = read_tested (text_at bytes at) (new_type_name earlier) name e in
    let facts = type_name_facts earlier read.0 name.0 read.2 in
    (facts.0, facts.1, facts.2)

type_length_facts : (bytes : List ℕ) (at : ℕ) (room : ℕ × ℕ) → type_length_at bytes at ≡ Ok room → (1 ≤ room.0) × (room.0 ≤ 65536)
unfolding type_length_at
type_length_facts bytes at room e =
    let n = bind_ok (number_at 4 bytes at) (λ n. cond (nat_le 1 n.0 && nat_le n.0 65536) (Ok n) (Err (Limit Length n.0))) room e in
    let fits = passed (nat_le 1 n.0.0 && nat_le n.0.0 65536) (Limit Length n.0.0) n.0 room n.2 in
    let parts = and_parts (nat_le 1 n.0.0) (nat_le n.0.0 65536) fits.0 in
    subst (λ (r : ℕ × ℕ). (1 ≤ r.0) × (r.0 ≤ 65536)) fits.1 (leb-true 1 n.0.0 parts.0, leb-true n.0.0 65536 parts.1)

field_count_read : (so_far : ℕ) (bytes : List ℕ) (at : ℕ) (count : ℕ × ℕ) → field_count_at so_far bytes at ≡ Ok count → (1 ≤ count.0)
    × (count.0 ≤ 1024) × (so_far + count.0 ≤ 4096)
unfolding field_count_at
field_count_read so_far bytes at count e =
    let read = read_tested (number_at 2 bytes at) (new_field_count so_far) count e in
    let facts = field_count_facts so_far read.0 count.0 read.2 in
    (facts.0, facts.1, facts.2)

-- a type is made of its fields, and nothing is refused where it ends
pub record Ends (pointer : ℕ) (earlier : List RecordType) (name : List ℕ) (room : ℕ) (drafts : List DraftField) (type : RecordType) : Type 0
  where
    pub ended : Ended earlier name room drafts type
    pub apart : first_overlap pointer 0 type.fields ≡ None

pub whole_type_ends : (pointer : ℕ) (earlier : List RecordType) (name : List ℕ) (room : ℕ) (drafts : List DraftField) (type : RecordType)
    → whole_type pointer earlier name room drafts ≡ Ok type → Ends pointer earlier name room drafts type
unfolding whole_type without_overlap
whole_type_ends pointer earlier name room drafts type e =
    let number = length earlier in
    let made = bind_ok (ended_type earlier name room drafts) (without_overlap pointer number) type e in
    let apart = refused_none (first_overlap pointer 0 made.0.fields) (λ pair. Overlap number pair.0 pair.1) made.0 type made.2 in
    record {
      ended = subst (Ended earlier name room drafts) apart.1 (ended_facts earlier name room drafts made.0 made.1);
      apart = subst (λ (t : RecordType). first_overlap pointer 0 t.fields ≡ None) apart.1 apart.0;
    }

pub type_facts : (stated : Bool) (pointer : ℕ) (earlier : List RecordType) (bytes : List ℕ) (at : ℕ) (type : RecordType × ℕ)
    → type_at stated pointer earlier bytes at ≡ Ok type
    → MayFollow pointer earlier type.0
unfolding type_at
type_facts stated pointer earlier bytes at type e =
    let with_fields : List ℕ × ℕ → ℕ × ℕ → List DraftField × ℕ → Result (RecordType × ℕ) LayoutFault = λ name room fields. whole_type
    pointer earlier name.0 room.0 fields.0 >>= λ type. Ok (type, fields.1) in
    let with_count : List ℕ × ℕ → ℕ × ℕ → ℕ × ℕ → Result (RecordType × ℕ) LayoutFault = λ name room count. fields_at count.0 stated pointer
    earlier room.0 [] bytes count.1 >>= with_fields name room in
    let with_room : List ℕ × ℕ → ℕ × ℕ → Result (RecordType × ℕ) LayoutFault = λ name room. field_count_at (all_fields earlier) bytes room.1
    >>= with_count name room in
    let with_name : List ℕ × ℕ → Result (RecordType × ℕ) LayoutFault = λ name. type_length_at bytes name.1 >>= with_room name in
    let name = bind_ok (type_name_at earlier bytes at) with_name type e in
    let room = bind_ok (type_length_at bytes name.0.1) (with_room name.0) type name.2 in
    let count = bind_ok (field_count_at (all_fields earlier) bytes room.0.1) (with_count name.0 room.0) type room.2 in
    let fields = bind_ok (fields_at count.0.0 stated pointer earlier room.0.0 [] bytes count.0.1) (with_fields name.0 room.0) type count.2
    in
    let whole = bind_ok (whole_type pointer earlier name.0.0 room.0.0 fields.0.0) (λ (type : RecordType). Ok (type, fields.0.1)) type
    fields.2 in
    let made : RecordType × ℕ = (whole.0, fields.0.1) in
    let named = type_name_read earlier bytes at name.0 name.1 in
    let sized = type_length_facts bytes name.0.1 room.0 room.1 in
    let few = field_count_read (all_fields earlier) bytes room.0.1 count.0 count.1 in
    let drafts = fields_facts count.0.0 stated pointer earlier room.0.0 [] bytes count.0.1 fields.0 fields.1
    (no_drafts pointer earlier room.0.0) in
    let ends = whole_type_ends pointer earlier name.0.0 room.0.0 fields.0.0 whole.0 whole.1 in
    let ended = ends.ended in
    let each = counted_each (length earlier) 0 fields.0.0 fields.0.0 ended.fields ended.counted in
    let counted : AreCounted fields.0.0 ended.fields = record { same_length = each.0; each = each.1 } in
    let number = drafts.1 in
    let least = few.0 in
    let most = few.1 in
    let all = few.2 in
    let same = each.0 in
    let apart : first_overlap pointer 0 ended.fields ≡ None = ap (λ (t : RecordType). first_overlap pointer 0 t.fields) ended.is
    ∙ ends.apart in
    let laid = laid_type pointer earlier name.0.0 room.0.0 fields.0.0 ended.fields named.0 named.1 sized.0 sized.1
    (omega (arith, number, least)) (omega (arith, number, most)) drafts.0 counted ended.without_default apart in
    let follows : MayFollow pointer earlier whole.0 = record {
      is = subst (IsLaidType pointer earlier) ended.is laid;
      fresh = subst (λ (t : RecordType). has_type earlier t.name ≡ false) ended.is named.2;
      shallow = ended.shallow;
      few = subst (λ (t : RecordType). all_fields earlier + length t.fields ≤ 4096) ended.is (omega (arith, number, all, same));
    } in
    subst (λ (t : RecordType × ℕ). MayFollow pointer earlier t.0) (ok_is made type whole.2) follows

-- ---- types

pub no_types : (pointer : ℕ) → AreLaid pointer []
no_types pointer = record {
  each = λ k type found. absurd (cc);
  shallow = λ k type found. absurd (cc);
  names_differ = λ i j type other below found found' same. absurd (cc);
  few = omega arith;
}

fold-push : (so_far : ℕ) (types : List RecordType) (type : RecordType)
    → fold ◌+◌ so_far (map (λ (t : RecordType). length t.fields) (types ++ type ∷ []))
    ≡ fold ◌+◌ so_far (map (λ (t : RecordType). length t.fields) types) + length type.fields
fold-push so_far [] type = refl
fold-push so_far (first ∷ types) type = fold-push (so_far + length first.fields) types type

pub all_fields-push : (types : List RecordType) (type : RecordType) → all_fields (types ++ type ∷ [])
    ≡ all_fields types + length type.fields
all_fields-push types type = fold-push 0 types type

-- the types before one are the same in the longer list
pub before_old : (earlier : List RecordType) (type : RecordType) (k : ℕ) → k < length earlier → take k earlier
    ≡ take k (earlier ++ type ∷ [])
before_old earlier type k below = let within : k ≤ length earlier = omega arith in rw take-append-le refl

pub before_new : (earlier : List RecordType) (type : RecordType) (k : ℕ) → k ≡ length earlier → earlier ≡ take k (earlier ++ type ∷ [])
before_new earlier type k last = sym (take_at earlier (type ∷ []) k (sym last))

-- a name that no earlier type has
fresh_differs : (earlier : List RecordType) (name : List ℕ) (k : ℕ) (other : RecordType) → has_type earlier name ≡ false
    → slice_get earlier k ≡ Some other → other.name ≢ name
fresh_differs earlier name k other fresh found same =
    let none = list_any-none (λ (t : RecordType). bytes_equal t.name name) earlier k other fresh found in
    let equal : bytes_equal other.name name ≡ true = ap (λ (n : List ℕ). bytes_equal n name) same ∙ bytes_equal-same name in
    cc

pub types_push : (pointer : ℕ) (earlier : List RecordType) (type : RecordType) → AreLaid pointer earlier → MayFollow pointer earlier type
    → AreLaid pointer (earlier ++ type ∷ [])
types_push pointer earlier type are follows = record {
  each = λ k other found. elim (slice_get-push earlier type k other found) [
    | inl old ↦ subst (λ (some : List RecordType). IsLaidType pointer some other) (before_old earlier type k old.0) (are.each k other old.1)
    | inr new ↦ subst (λ (some : List RecordType). IsLaidType pointer some other) (before_new earlier type k new.0)
        (subst (IsLaidType pointer earlier) new.1 follows.is)
  ];
  shallow = λ k other found. elim (slice_get-push earlier type k other found) [
    | inl old ↦ subst (λ (some : List RecordType). depth_behind some other ≤ 16) (before_old earlier type k old.0)
        (are.shallow k other old.1)
    | inr new ↦ subst (λ (some : List RecordType). depth_behind some other ≤ 16) (before_new earlier type k new.0)
        (subst (λ (t : RecordType). depth_behind earlier t ≤ 16) new.1 follows.shallow)
  ];
  names_differ = λ i j first second below found found' same. elim (slice_get-push earlier type j second found') [
    | inl old ↦ elim (slice_get-push earlier type i first found) [
      | inl older ↦ are.names_differ i j first second below older.1 old.1 same
      | inr new ↦ let past = new.0 in let inside = old.0 in omega (arith, past, inside, below)
    ]
    | inr new ↦ elim (slice_get-push earlier type i first found) [
      | inl older ↦ fresh_differs earlier type.name i first follows.fresh older.1 (same ∙ ap (λ (t : RecordType). t.name) (sym new.1))
      | inr newer ↦ let past = newer.0 in let last = new.0 in omega (arith, past, last, below)
    ]
  ];
  few = let grown = all_fields-push earlier type in let few = follows.few in omega (arith, grown, few);
}

pub types_facts : (count : ℕ) (stated : Bool) (pointer : ℕ) (earlier : List RecordType) (bytes : List ℕ) (at : ℕ)
    (types : List RecordType × ℕ) → types_at count stated pointer earlier bytes at ≡ Ok types
    → AreLaid pointer earlier → AreLaid pointer types.0 × (length types.0 ≡ length earlier + count)
unfolding types_at
types_facts zero stated pointer earlier bytes at types e are =
    let made : List RecordType × ℕ = (earlier, at) in
    subst (λ (t : List RecordType × ℕ). AreLaid pointer t.0 × (length t.0 ≡ length earlier + 0)) (ok_is made types e) (are, omega arith)
types_facts (suc count) stated pointer earlier bytes at types e are =
    let type = bind_ok (type_at stated pointer earlier bytes at)
    (λ type. types_at count stated pointer (earlier ++ type.0 ∷ []) bytes type.1) types e in
    let follows = type_facts stated pointer earlier bytes at type.0 type.1 in
    let rest = types_facts count stated pointer (earlier ++ type.0.0 ∷ []) bytes type.0.1 types type.2
    (types_push pointer earlier type.0.0 are follows) in
    let grown = length-append earlier (type.0.0 ∷ []) in
    let all = rest.1 in
    (rest.0, omega (arith, grown, all))

-- ---- a format

pub well_laid : (order : Order) (pointer : ℕ) (types : List RecordType) → (pointer ≡ 4) ⊎ (pointer ≡ 8) → 1 ≤ length types
    → length types ≤ 64 → AreLaid pointer types
    → IsWellLaid (layout_with order pointer types)
well_laid order pointer types allowed some few are = record {
  pointer_allowed = allowed;
  types_allowed = (some, few);
  fields_allowed = are.few;
  names_differ = are.names_differ;
  each_type = are.each;
  nesting_allowed = λ k below.
      let found = slice_get-some types k below in
      let shallow = are.shallow k found.0 found.1 in
      let same = get_or-trees types k found.0 empty_tree found.1 in
      rw same shallow;
}
