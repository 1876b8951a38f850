-- What is read part by part stands there as it is described.
use Rattle.std.proofs.Common.{◌≡◌, ℕ, zero, suc, ◌+◌, ◌≤◌, ℤ, pos, Bool, true, false, cond, List, [], ◌∷◌, ◌++◌, length, Result, Ok, Err}
use Rattle.std.proofs.Common.{refl, sym, ap, subst, ◌∙◌, append_assoc}
use Rattle.std.specs.Prelude.{◌&&◌, nat_le}
use Rattle.std.proofs.lemmas.List.{append-nil}
use Rattle.evp_base.proofs.Digits.{AreBytes}
use Rattle.evp_format.specs.declared.draft.DraftField.{DraftField}
use Rattle.evp_format.specs.declared.draft.DraftShape.{DraftShape}
use Rattle.evp_format.specs.declared.field.Base.{Base}
use Rattle.evp_format.specs.declared.layout_fault.LayoutFault.{LayoutFault}
use Rattle.evp_format.specs.declared.layout_fault.LayoutFault.TheVariants.{Outside, Limit}
use Rattle.evp_format.specs.declared.layout_fault.Which.TheVariants.{Length}
use Rattle.evp_format.specs.declared.record_type.RecordType.{RecordType}
use Rattle.evp_format.specs.Describing.{described_number, described_text, stated_number, base_word}
use Rattle.evp_format.specs.Drafts.{draft_extent, draft_of}
use Rattle.evp_format.specs.Parts.{new_type_name, new_field_count, new_field_name, allowed_size, allowed_default}
use Rattle.evp_format.specs.Reading.{number_at, signed_at, text_at, field_name_at, field_type_at, field_size_at, field_offset_at}
use Rattle.evp_format.specs.Reading.{default_at, field_at, fields_at, type_name_at, type_length_at, field_count_at}
use Rattle.evp_format.specs.Steps.{◌>>=◌}
use Rattle.evp_format.specs.TypeText.{type_text_of}
use Rattle.evp_format.proofs.Parts.{read_tested, type_name_facts, field_name_facts, field_count_facts, size_facts, default_facts}
use Rattle.evp_format.proofs.Places.{Stands, stands_nothing, stands_join, number_stands, signed_stands, text_stands}
use Rattle.evp_format.proofs.TypeTexts.{stated_shape_text, type_text_spelled}
use Rattle.evp_format.proofs.WellLaidTypes.{bind_ok, passed, ok_is}

-- a stated field as it is described
abbrev pub draft_described : Bool → List RecordType → DraftField → List ℕ
draft_described stated earlier field =
    described_text field.name ++ described_text (base_word earlier field.base ++ stated_shape_text field.shape)
    ++ described_number 4 field.size ++ described_number 4 field.offset
    ++ stated_number stated field.fallback

abbrev pub drafts_described : Bool → List RecordType → List DraftField → List ℕ
drafts_described stated earlier [] = []
drafts_described stated earlier (field ∷ fields) = draft_described stated earlier field ++ drafts_described stated earlier fields

-- ---- the parts that were read

stands_as : {A : Type 0} (read : Result (A × ℕ) LayoutFault) (x : A) (y : A × ℕ) → read ≡ Ok (x, y.1) → x ≡ y.0 → read ≡ Ok y
stands_as {A} read x y e same = let with_value : A → Result (A × ℕ) LayoutFault = λ z. Ok (z, y.1) in e ∙ ap with_value same

pub name_read : (type : ℕ) (before : List DraftField) (bytes : List ℕ) (at : ℕ) (name : List ℕ × ℕ) → field_name_at type before bytes at
    ≡ Ok name → text_at bytes at ≡ Ok name
unfolding field_name_at
name_read type before bytes at name e =
    let read = read_tested (text_at bytes at) (new_field_name type before) name e in
    stands_as (text_at bytes at) read.0 name read.1 (field_name_facts type before read.0 name.0 read.2).2

pub type_text_stands : (earlier : List RecordType) (field : ℕ) (bytes : List ℕ) (at : ℕ) (said : (Base × DraftShape) × ℕ) → AreBytes bytes
    → field_type_at earlier field bytes at ≡ Ok said
    → Stands bytes at (described_text (base_word earlier said.0.0 ++ stated_shape_text said.0.1)) said.1
unfolding field_type_at
type_text_stands earlier field bytes at said are e =
    let read = read_tested (text_at bytes at) (type_text_of earlier (length earlier) field) said e in
    let spelled = type_text_spelled earlier (length earlier) field read.0 said.0 read.2 in
    subst (λ (t : List ℕ). Stands bytes at (described_text t) said.1) (sym spelled.2) (text_stands bytes at (read.0, said.1) are read.1)

size_read : (pointer : ℕ) (earlier : List RecordType) (field : ℕ) (base : Base) (bytes : List ℕ) (at : ℕ) (size : ℕ × ℕ)
    → field_size_at pointer earlier field base bytes at ≡ Ok size → number_at 4 bytes at ≡ Ok size
unfolding field_size_at
size_read pointer earlier field base bytes at size e =
    let read = read_tested (number_at 4 bytes at) (allowed_size pointer earlier field base) size e in
    stands_as (number_at 4 bytes at) read.0 size read.1 (size_facts pointer earlier field base read.0 size.0 read.2).1

offset_read : (type field taken room : ℕ) (bytes : List ℕ) (at : ℕ) (offset : ℕ × ℕ) → field_offset_at type field taken room bytes at
    ≡ Ok offset → number_at 4 bytes at ≡ Ok offset
unfolding field_offset_at
offset_read type field taken room bytes at offset e =
    let n = bind_ok (number_at 4 bytes at) (λ n. cond (nat_le (n.0 + taken) room) (Ok n) (Err (Outside type field))) offset e in
    n.1 ∙ ap (λ (s : ℕ × ℕ). Ok s) (passed (nat_le (n.0.0 + taken) room) (Outside type field) n.0 offset n.2).1

default_stands : (stated : Bool) (type : ℕ) (field : DraftField) (number : ℕ) (bytes : List ℕ) (at : ℕ) (fallback : ℤ × ℕ) → AreBytes bytes
    → at ≤ length bytes
    → default_at stated type field number bytes at ≡ Ok fallback → Stands bytes at (stated_number stated fallback.0) fallback.1
unfolding default_at
default_stands false type field number bytes at fallback are within e =
    let none : ℤ × ℕ = (pos 0, at) in
    subst (λ (f : ℤ × ℕ). Stands bytes at (stated_number false f.0) f.1) (ok_is none fallback e) (stands_nothing bytes at within)
default_stands true type field number bytes at fallback are within e =
    let read = read_tested (signed_at bytes at) (allowed_default type number field) fallback e in
    signed_stands bytes at fallback are (stands_as (signed_at bytes at) read.0 fallback read.1
    (default_facts type number field read.0 fallback.0 read.2).1)

-- ---- a field

pub field_stands : (stated : Bool) (pointer : ℕ) (earlier : List RecordType) (room : ℕ) (before : List DraftField) (bytes : List ℕ) (at : ℕ)
    (field : DraftField × ℕ)
    → AreBytes bytes → field_at stated pointer earlier room before bytes at ≡ Ok field
    → Stands bytes at (draft_described stated earlier field.0) field.1
unfolding field_at
field_stands stated pointer earlier room before bytes at field are e =
    let type = length earlier in
    let number = length before in
    let last : List ℕ × ℕ → (Base × DraftShape) × ℕ → ℕ × ℕ → ℕ × ℕ → ℤ × ℕ
    → Result (DraftField × ℕ) LayoutFault = λ name said size offset fallback. Ok
    (draft_of name.0 said.0 size.0 offset.0 fallback.0, fallback.1) in
    let with_offset : List ℕ × ℕ → (Base × DraftShape) × ℕ → ℕ × ℕ → ℕ × ℕ → Result (DraftField × ℕ) LayoutFault =
    λ name said size offset. default_at stated type (draft_of name.0 said.0 size.0 offset.0 (pos 0)) number bytes offset.1
    >>= last name said size offset in
    let with_size : List ℕ × ℕ → (Base × DraftShape) × ℕ → ℕ × ℕ → Result (DraftField × ℕ) LayoutFault =
    λ name said size. field_offset_at type number (draft_extent pointer said.0.1 size.0) room bytes size.1 >>= with_offset name said size in
    let with_type : List ℕ × ℕ → (Base × DraftShape) × ℕ → Result (DraftField × ℕ) LayoutFault = λ name said. field_size_at pointer earlier
    number said.0.0 bytes said.1 >>= with_size name said in
    let with_name : List ℕ × ℕ → Result (DraftField × ℕ) LayoutFault = λ name. field_type_at earlier number bytes name.1
    >>= with_type name in
    let name = bind_ok (field_name_at type before bytes at) with_name field e in
    let said = bind_ok (field_type_at earlier number bytes name.0.1) (with_type name.0) field name.2 in
    let size = bind_ok (field_size_at pointer earlier number said.0.0.0 bytes said.0.1) (with_size name.0 said.0) field said.2 in
    let offset = bind_ok (field_offset_at type number (draft_extent pointer said.0.0.1 size.0.0) room bytes size.0.1)
    (with_offset name.0 said.0 size.0) field size.2 in
    let fallback = bind_ok (default_at stated type (draft_of name.0.0 said.0.0 size.0.0 offset.0.0 (pos 0)) number bytes offset.0.1)
    (last name.0 said.0 size.0 offset.0) field offset.2 in
    let made : DraftField × ℕ = (draft_of name.0.0 said.0.0 size.0.0 offset.0.0 fallback.0.0, fallback.0.1) in
    let name_text = described_text name.0.0 in
    let type_text = described_text (base_word earlier said.0.0.0 ++ stated_shape_text said.0.0.1) in
    let size_text = described_number 4 size.0.0 in
    let offset_text = described_number 4 offset.0.0 in
    let s0 = text_stands bytes at name.0 are (name_read type before bytes at name.0 name.1) in
    let s1 = type_text_stands earlier number bytes name.0.1 said.0 are said.1 in
    let s2 = number_stands 4 bytes said.0.1 size.0 refl are (size_read pointer earlier number said.0.0.0 bytes said.0.1 size.0 size.1) in
    let s3 = number_stands 4 bytes size.0.1 offset.0 refl are
    (offset_read type number (draft_extent pointer said.0.0.1 size.0.0) room bytes size.0.1 offset.0 offset.1) in
    let s4 = default_stands stated type (draft_of name.0.0 said.0.0 size.0.0 offset.0.0 (pos 0)) number bytes offset.0.1 fallback.0 are
    s3.0.within fallback.1 in
    let j1 = stands_join bytes at name_text name.0.1 type_text said.0.1 s0 s1 in
    let j2 = stands_join bytes at (name_text ++ type_text) said.0.1 size_text size.0.1 j1 s2.0 in
    let j3 = stands_join bytes at (name_text ++ type_text ++ size_text) size.0.1 offset_text offset.0.1 j2 s3.0 in
    let j4 = stands_join bytes at (name_text ++ type_text ++ size_text ++ offset_text) offset.0.1 (stated_number stated fallback.0.0)
    fallback.0.1 j3 s4 in
    subst (λ (f : DraftField × ℕ). Stands bytes at (draft_described stated earlier f.0) f.1) (ok_is made field fallback.2) j4

default_plain : (stated : Bool) (type : ℕ) (field : DraftField) (number : ℕ) (bytes : List ℕ) (at : ℕ) (fallback : ℤ × ℕ)
    → default_at stated type field number bytes at ≡ Ok fallback → stated ≡ false → fallback.0 ≡ pos 0
unfolding default_at
default_plain false type field number bytes at fallback e unstated = let none : ℤ × ℕ = (pos 0, at) in
    sym (ap (λ (f : ℤ × ℕ). f.0) (ok_is none fallback e))
default_plain true type field number bytes at fallback e unstated = absurd (cc)

field_plain : (stated : Bool) (pointer : ℕ) (earlier : List RecordType) (room : ℕ) (before : List DraftField) (bytes : List ℕ) (at : ℕ)
    (field : DraftField × ℕ)
    → field_at stated pointer earlier room before bytes at ≡ Ok field → stated ≡ false → field.0.fallback ≡ pos 0
unfolding field_at
field_plain stated pointer earlier room before bytes at field e unstated =
    let type = length earlier in
    let number = length before in
    let last : List ℕ × ℕ → (Base × DraftShape) × ℕ → ℕ × ℕ → ℕ × ℕ → ℤ × ℕ
    → Result (DraftField × ℕ) LayoutFault = λ name said size offset fallback. Ok
    (draft_of name.0 said.0 size.0 offset.0 fallback.0, fallback.1) in
    let with_offset : List ℕ × ℕ → (Base × DraftShape) × ℕ → ℕ × ℕ → ℕ × ℕ → Result (DraftField × ℕ) LayoutFault =
    λ name said size offset. default_at stated type (draft_of name.0 said.0 size.0 offset.0 (pos 0)) number bytes offset.1
    >>= last name said size offset in
    let with_size : List ℕ × ℕ → (Base × DraftShape) × ℕ → ℕ × ℕ → Result (DraftField × ℕ) LayoutFault =
    λ name said size. field_offset_at type number (draft_extent pointer said.0.1 size.0) room bytes size.1 >>= with_offset name said size in
    let with_type : List ℕ × ℕ → (Base × DraftShape) × ℕ → Result (DraftField × ℕ) LayoutFault = λ name said. field_size_at pointer earlier
    number said.0.0 bytes said.1 >>= with_size name said in
    let with_name : List ℕ × ℕ → Result (DraftField × ℕ) LayoutFault = λ name. field_type_at earlier number bytes name.1
    >>= with_type name in
    let name = bind_ok (field_name_at type before bytes at) with_name field e in
    let said = bind_ok (field_type_at earlier number bytes name.0.1) (with_type name.0) field name.2 in
    let size = bind_ok (field_size_at pointer earlier number said.0.0.0 bytes said.0.1) (with_size name.0 said.0) field said.2 in
    let offset = bind_ok (field_offset_at type number (draft_extent pointer said.0.0.1 size.0.0) room bytes size.0.1)
    (with_offset name.0 said.0 size.0) field size.2 in
    let none : DraftField = draft_of name.0.0 said.0.0 size.0.0 offset.0.0 (pos 0) in
    let fallback = bind_ok (default_at stated type none number bytes offset.0.1) (last name.0 said.0 size.0 offset.0) field offset.2 in
    let made : DraftField × ℕ = (draft_of name.0.0 said.0.0 size.0.0 offset.0.0 fallback.0.0, fallback.0.1) in
    sym (ap (λ (f : DraftField × ℕ). f.0.fallback) (ok_is made field fallback.2))
    ∙ default_plain stated type none number bytes offset.0.1 fallback.0 fallback.1 unstated

-- the defaults are 0 unless they are stated
abbrev pub ArePlain : Bool → List DraftField → Type 0
ArePlain stated [] = Unit {0}
ArePlain stated (field ∷ fields) = (stated ≡ false → field.fallback ≡ pos 0) × ArePlain stated fields

-- the fields that were read behind these
pub record FieldsRead (stated : Bool) (earlier : List RecordType) (before : List DraftField) (bytes : List ℕ) (at : ℕ)
    (fields : List DraftField × ℕ) : Type 0 where
  pub new : List DraftField
  pub are : fields.0 ≡ before ++ new
  pub stand : Stands bytes at (drafts_described stated earlier new) fields.1
  pub plain : ArePlain stated new

pub fields_stand : (count : ℕ) (stated : Bool) (pointer : ℕ) (earlier : List RecordType) (room : ℕ) (before : List DraftField)
    (bytes : List ℕ) (at : ℕ) (fields : List DraftField × ℕ)
    → AreBytes bytes → at ≤ length bytes → fields_at count stated pointer earlier room before bytes at ≡ Ok fields
    → FieldsRead stated earlier before bytes at fields
unfolding fields_at
fields_stand zero stated pointer earlier room before bytes at fields are within e =
    let made : List DraftField × ℕ = (before, at) in
    subst (λ (f : List DraftField × ℕ). FieldsRead stated earlier before bytes at f) (ok_is made fields e)
    (record { new = []; are = sym (append-nil before); stand = stands_nothing bytes at within; plain = tt })
fields_stand (suc count) stated pointer earlier room before bytes at fields are within e =
    let field = bind_ok (field_at stated pointer earlier room before bytes at)
    (λ field. fields_at count stated pointer earlier room (before ++ field.0 ∷ []) bytes field.1) fields e in
    let first = field_stands stated pointer earlier room before bytes at field.0 are field.1 in
    let rest = fields_stand count stated pointer earlier room (before ++ field.0.0 ∷ []) bytes field.0.1 fields are first.within field.2 in
    record {
      new = field.0.0 ∷ rest.new;
      are = rest.are ∙ append_assoc before (field.0.0 ∷ []) rest.new;
      stand = stands_join bytes at (draft_described stated earlier field.0.0) field.0.1 (drafts_described stated earlier rest.new) fields.1
          first rest.stand;
      plain = (field_plain stated pointer earlier room before bytes at field.0 field.1, rest.plain);
    }

-- ---- the parts of a type that were read

pub type_name_read : (earlier : List RecordType) (bytes : List ℕ) (at : ℕ) (name : List ℕ × ℕ) → type_name_at earlier bytes at ≡ Ok name
    → text_at bytes at ≡ Ok name
unfolding type_name_at
type_name_read earlier bytes at name e =
    let read = read_tested (text_at bytes at) (new_type_name earlier) name e in
    stands_as (text_at bytes at) read.0 name read.1 (type_name_facts earlier read.0 name.0 read.2).3

pub length_read : (bytes : List ℕ) (at : ℕ) (room : ℕ × ℕ) → type_length_at bytes at ≡ Ok room → number_at 4 bytes at ≡ Ok room
unfolding type_length_at
length_read bytes at room e =
    let n = bind_ok (number_at 4 bytes at) (λ n. cond (nat_le 1 n.0 && nat_le n.0 65536) (Ok n) (Err (Limit Length n.0))) room e in
    n.1 ∙ ap (λ (s : ℕ × ℕ). Ok s) (passed (nat_le 1 n.0.0 && nat_le n.0.0 65536) (Limit Length n.0.0) n.0 room n.2).1

pub count_read : (so_far : ℕ) (bytes : List ℕ) (at : ℕ) (count : ℕ × ℕ) → field_count_at so_far bytes at ≡ Ok count → number_at 2 bytes at
    ≡ Ok count
unfolding field_count_at
count_read so_far bytes at count e =
    let read = read_tested (number_at 2 bytes at) (new_field_count so_far) count e in
    stands_as (number_at 2 bytes at) read.0 count read.1 (field_count_facts so_far read.0 count.0 read.2).3
