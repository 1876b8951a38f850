-- What is read as a format is its description.
use Rattle.std.proofs.Common.{◌≡◌, ℕ, zero, suc, ◌+◌, ◌≤◌, pos, Bool, true, false, cond, List, [], ◌∷◌, ◌++◌, length, take, Some, Result}
use Rattle.std.proofs.Common.{Ok, Err, codes, refl, sym, ap, subst, ◌∙◌, append_assoc, arith}
use Rattle.std.specs.Prelude.{slice_get, ◌&&◌, not, nat_eq, nat_lt, nat_le}
use Rattle.std.specs.Option.{ok_or}
use Rattle.std.specs.List.{list_all}
use Rattle.std.proofs.lemmas.Bool.{and_parts, ltb-false, eqb-true}
use Rattle.std.proofs.lemmas.Bool.Decides.{Decides-int_eq}
use Rattle.std.proofs.lemmas.List.{append-nil, drop_all}
use Rattle.std.proofs.lemmas.Option.{slice_get_within}
use Rattle.evp_base.specs.declared.order.Order.{Order}
use Rattle.evp_base.specs.declared.order.Order.TheVariants.{Little, Big}
use Rattle.evp_base.proofs.Digits.{AreBytes}
use Rattle.evp_format.specs.declared.draft.DraftField.{DraftField}
use Rattle.evp_format.specs.declared.draft.DraftShape.{DraftShape}
use Rattle.evp_format.specs.declared.draft.DraftShape.TheVariants as draft
use Rattle.evp_format.specs.declared.field.Field.{Field}
use Rattle.evp_format.specs.declared.field.Shape.{Shape}
use Rattle.evp_format.specs.declared.field.Shape.TheVariants.{One, Fixed}
use Rattle.evp_format.specs.declared.layout_fault.LayoutFault.{LayoutFault}
use Rattle.evp_format.specs.declared.layout_fault.LayoutFault.TheVariants.{Short, Magic, ByteOrder, Pointer, Trailing, CountField, Limit}
use Rattle.evp_format.specs.declared.layout_fault.LayoutFault.TheVariants.{Plain}
use Rattle.evp_format.specs.declared.layout_fault.Which.TheVariants.{Types}
use Rattle.evp_format.specs.declared.record_type.RecordType.{RecordType}
use Rattle.evp_format.specs.Bytes.{bytes_equal}
use Rattle.evp_format.specs.Describing.{described_number, described_text, field_name, described_fields, described_type, described_types}
use Rattle.evp_format.specs.Describing.{all_default_zero, types_state_default, magic, order_number, describe}
use Rattle.evp_format.specs.Drafts.{count_named, is_count_named, may_count, shape_in, field_with, counted_fields, type_of}
use Rattle.evp_format.specs.Layout.{Layout, layout_with}
use Rattle.evp_format.specs.Reading.{number_at, fields_at, type_name_at, type_length_at, field_count_at, whole_type, type_at, types_at}
use Rattle.evp_format.specs.Reading.{magic_at, order_at, pointer_at, type_count_at, with_default, layout_at, layout_of}
use Rattle.evp_format.specs.Steps.{◌>>=◌}
use Rattle.evp_format.specs.WellLaid.{all_fields}
use Rattle.evp_format.proofs.DescribedFields.{drafts_described, ArePlain, fields_stand, type_name_read, length_read, count_read}
use Rattle.evp_format.proofs.TypesAgain.{HasPlain, HavePlain}
use Rattle.evp_format.proofs.Places.{Stands, stands_nothing, stands_join, stands_cut, number_stands, text_stands}
use Rattle.evp_format.proofs.Pushed.{bytes_equal-true, slice_get-some}
use Rattle.evp_format.proofs.StatedFields.{slice_get-seam, stated_shape, stated_of, stated_all, field_name-get, fields_described, AreKnown}
use Rattle.evp_format.proofs.WellLaidFormats.{whole_type_ends, fields_facts, no_drafts, no_types, types_facts}
use Rattle.evp_format.proofs.WellLaidTypes.{bind_ok, passed, not_refused, ok_is, ok_or_some, AreDrafts, AreCounted, counted_each}
use Rattle.evp_format.proofs.WellLaidTypes.{counted_some, position_at}

-- ---- the drafts are the fields as they are stated

-- a count field's name is the one that was stated
name_stated : (all : List DraftField) (fields : List Field) (c : ℕ) (name : List ℕ) → AreCounted all fields → count_named all name ≡ Some c
    → field_name fields c ≡ name
name_stated all fields c name counted found =
    let at = position_at (λ (field : DraftField). is_count_named field name) all 0 c found in
    let here : c ≡ at.0 = let far = at.1 in omega (arith, far) in
    let below = slice_get_within all at.0 at.2 at.3 in
    let some = slice_get-some fields at.0 (let same = counted.same_length in omega (arith, below, same)) in
    let from = counted.each at.0 some.0 some.1 in
    let same_draft : from.0 ≡ at.2 = let both = sym from.1 ∙ at.3 in cc in
    let tests = and_parts (bytes_equal at.2.name name) (may_count at.2.base at.2.shape) at.4 in
    ap (field_name fields) here ∙ field_name-get fields at.0 some.0 some.1 ∙ ap (λ (f : Field). f.name) from.2.is
    ∙ ap (λ (d : DraftField). d.name) same_draft ∙ bytes_equal-true at.2.name name tests.0

shape_stated : (all : List DraftField) (fields : List Field) (stated : DraftShape) (shape : Shape) → AreCounted all fields
    → shape_in all stated ≡ Some shape → stated ≡ stated_shape fields shape
unfolding shape_in
shape_stated all fields draft.One shape counted e = ap (stated_shape fields) (let same : One ≡ shape = cc in same)
shape_stated all fields (draft.Fixed n) shape counted e = ap (stated_shape fields) (let same : Fixed n ≡ shape = cc in same)
shape_stated all fields (draft.Counted name) shape counted e =
    let some = counted_some (count_named all name) shape e in
    ap (λ (n : List ℕ). draft.Counted n) (sym (name_stated all fields some.0 name counted some.1)) ∙ ap (stated_shape fields) some.2

drafts_stated_from : (type n : ℕ) (all drafts : List DraftField) (whole fields : List Field) → AreCounted all whole
    → counted_fields type n all drafts ≡ Ok fields → drafts ≡ stated_all whole fields
unfolding counted_fields
drafts_stated_from type n all [] whole fields counted e = ap (stated_all whole) (ok_is [] fields e)
drafts_stated_from type n all (draft ∷ drafts) whole fields counted e =
    let a = bind_ok (ok_or (shape_in all draft.shape) (CountField type n))
    (λ shape. counted_fields type (n + 1) all drafts >>= λ others. Ok (field_with draft shape ∷ others)) fields e in
    let b = bind_ok (counted_fields type (n + 1) all drafts) (λ others. Ok (field_with draft a.0 ∷ others)) fields a.2 in
    let made = ok_is (field_with draft a.0 ∷ b.0) fields b.2 in
    let shape = shape_stated all whole draft.shape a.0 counted (ok_or_some (shape_in all draft.shape) (CountField type n) a.0 a.1) in
    let first : draft ≡ stated_of whole (field_with draft a.0) = ap
    (λ (s : DraftShape). record {
      name = draft.name;
      base = draft.base;
      shape = s;
      size = draft.size;
      offset = draft.offset;
      fallback =
          draft.fallback;
    }) shape in
    let rest = drafts_stated_from type (n + 1) all drafts whole b.0 counted b.1 in
    ap (λ (d : DraftField). d ∷ drafts) first ∙ ap (λ (some : List DraftField). stated_of whole (field_with draft a.0) ∷ some) rest
    ∙ ap (stated_all whole) made

-- fields that ended were stated so
pub drafts_stated : (type : ℕ) (drafts : List DraftField) (fields : List Field) → counted_fields type 0 drafts drafts ≡ Ok fields → drafts
    ≡ stated_all fields fields
drafts_stated type drafts fields e =
    let each = counted_each type 0 drafts drafts fields e in
    drafts_stated_from type 0 drafts drafts fields fields (record { same_length = each.0; each = each.1 }) e

known_stated : (pointer : ℕ) (earlier : List RecordType) (room : ℕ) (whole : List Field) (all : List DraftField) (front : List DraftField)
    (fields : List Field) → AreDrafts pointer earlier room all → all ≡ front ++ stated_all whole fields → AreKnown earlier fields
known_stated pointer earlier room whole all front [] are split = tt
known_stated pointer earlier room whole all front (field ∷ fields) are split =
    let at : slice_get all (length front) ≡ Some (stated_of whole field) = ap (λ (some : List DraftField). slice_get some (length front))
    split ∙ slice_get-seam front (stated_all whole fields) (stated_of whole field) in (
      (are.each (length front) (stated_of whole field) at).known,
      known_stated pointer earlier room whole all (front ++ stated_of whole field ∷ []) fields are
          (split ∙ sym (append_assoc front (stated_of whole field ∷ []) (stated_all whole fields))),
    )

plain_stated : (stated : Bool) (whole fields : List Field) → ArePlain stated (stated_all whole fields) → HasPlain stated fields
plain_stated stated whole [] plain = tt
plain_stated stated whole (field ∷ fields) plain = (plain.0, plain_stated stated whole fields plain.1)

-- ---- a type

-- a type stands there as it is described among these types and any more
pub record TypeStands (stated : Bool) (earlier : List RecordType) (bytes : List ℕ) (at : ℕ) (type : RecordType) (next : ℕ) : Type 0 where
  pub stand : (more : List RecordType) → Stands bytes at (described_type stated (earlier ++ more) type) next
  pub plain : HasPlain stated type.fields

type_stands : (stated : Bool) (pointer : ℕ) (earlier : List RecordType) (bytes : List ℕ) (at : ℕ) (type : RecordType × ℕ) → AreBytes bytes
    → type_at stated pointer earlier bytes at ≡ Ok type
    → TypeStands stated earlier bytes at type.0 type.1
unfolding type_at
type_stands stated pointer earlier bytes at type are e =
    let with_fields : List ℕ × ℕ → ℕ × ℕ → List DraftField × ℕ → Result (RecordType × ℕ) LayoutFault = λ name room fields. whole_type
    pointer earlier name.0 room.0 fields.0 >>= λ type. Ok (type, fields.1) in
    let with_count : List ℕ × ℕ → ℕ × ℕ → ℕ × ℕ → Result (RecordType × ℕ) LayoutFault = λ name room count. fields_at count.0 stated pointer
    earlier room.0 [] bytes count.1 >>= with_fields name room in
    let with_room : List ℕ × ℕ → ℕ × ℕ → Result (RecordType × ℕ) LayoutFault = λ name room. field_count_at (all_fields earlier) bytes room.1
    >>= with_count name room in
    let with_name : List ℕ × ℕ → Result (RecordType × ℕ) LayoutFault = λ name. type_length_at bytes name.1 >>= with_room name in
    let name = bind_ok (type_name_at earlier bytes at) with_name type e in
    let room = bind_ok (type_length_at bytes name.0.1) (with_room name.0) type name.2 in
    let count = bind_ok (field_count_at (all_fields earlier) bytes room.0.1) (with_count name.0 room.0) type room.2 in
    let fields = bind_ok (fields_at count.0.0 stated pointer earlier room.0.0 [] bytes count.0.1) (with_fields name.0 room.0) type count.2
    in
    let whole = bind_ok (whole_type pointer earlier name.0.0 room.0.0 fields.0.0) (λ (type : RecordType). Ok (type, fields.0.1)) type
    fields.2 in
    let made : RecordType × ℕ = (whole.0, fields.0.1) in
    let s0 = text_stands bytes at name.0 are (type_name_read earlier bytes at name.0 name.1) in
    let s1 = number_stands 4 bytes name.0.1 room.0 refl are (length_read bytes name.0.1 room.0 room.1) in
    let s2 = number_stands 2 bytes room.0.1 count.0 refl are (count_read (all_fields earlier) bytes room.0.1 count.0 count.1) in
    let read = fields_stand count.0.0 stated pointer earlier room.0.0 [] bytes count.0.1 fields.0 are s2.0.within fields.1 in
    let drafts = fields_facts count.0.0 stated pointer earlier room.0.0 [] bytes count.0.1 fields.0 fields.1
    (no_drafts pointer earlier room.0.0) in
    let ends = whole_type_ends pointer earlier name.0.0 room.0.0 fields.0.0 whole.0 whole.1 in
    let ended = ends.ended in
    let each = counted_each (length earlier) 0 fields.0.0 fields.0.0 ended.fields ended.counted in
    let counted : AreCounted fields.0.0 ended.fields = record { same_length = each.0; each = each.1 } in
    let are_stated : fields.0.0 ≡ stated_all ended.fields ended.fields = drafts_stated_from (length earlier) 0 fields.0.0 fields.0.0
    ended.fields ended.fields counted ended.counted in
    let new_stated : read.new ≡ stated_all ended.fields ended.fields = sym read.are ∙ are_stated in
    let known = known_stated pointer earlier room.0.0 ended.fields fields.0.0 [] ended.fields drafts.0 are_stated in
    let number : count.0.0 ≡ length ended.fields = let long = drafts.1 in let same = each.0 in omega (arith, long, same) in
    let d0 = described_text name.0.0 in
    let d1 = described_number 4 room.0.0 in
    let d2 = described_number 2 count.0.0 in
    let j1 = stands_join bytes at d0 name.0.1 d1 room.0.1 s0 s1.0 in
    let j2 = stands_join bytes at (d0 ++ d1) room.0.1 d2 count.0.1 j1 s2.0 in
    let j3 = stands_join bytes at (d0 ++ d1 ++ d2) count.0.1 (drafts_described stated earlier read.new) fields.0.1 j2 read.stand in
    let stands : TypeStands stated earlier bytes at whole.0 fields.0.1 = record {
      stand = λ more.
          let texts : drafts_described stated earlier read.new ≡ described_fields stated (earlier ++ more) ended.fields ended.fields =
          ap (drafts_described stated earlier) new_stated ∙ sym (fields_described stated earlier more ended.fields ended.fields known) in
          let text : d0 ++ d1 ++ d2 ++ drafts_described stated earlier read.new
          ≡ described_type stated (earlier ++ more) (type_of name.0.0 room.0.0 ended.fields) =
          ap (λ (n : ℕ). d0 ++ d1 ++ described_number 2 n ++ drafts_described stated earlier read.new) number
          ∙ ap (λ (t : List ℕ). d0 ++ d1 ++ described_number 2 (length ended.fields) ++ t) texts in
          subst (λ (t : List ℕ). Stands bytes at t fields.0.1) (text ∙ ap (described_type stated (earlier ++ more)) ended.is) j3;
      plain = subst (λ (t : RecordType). HasPlain stated t.fields) ended.is
          (plain_stated stated ended.fields ended.fields (subst (ArePlain stated) new_stated read.plain));
    } in
    subst (λ (t : RecordType × ℕ). TypeStands stated earlier bytes at t.0 t.1) (ok_is made type whole.2) stands

-- the types that were read behind these
pub record TypesRead (stated : Bool) (earlier : List RecordType) (bytes : List ℕ) (at : ℕ) (types : List RecordType × ℕ) : Type 0 where
  pub new : List RecordType
  pub are : types.0 ≡ earlier ++ new
  pub stand : Stands bytes at (described_types stated types.0 new) types.1
  pub plain : HavePlain stated new

types_stand : (count : ℕ) (stated : Bool) (pointer : ℕ) (earlier : List RecordType) (bytes : List ℕ) (at : ℕ) (types : List RecordType × ℕ)
    → AreBytes bytes → at ≤ length bytes
    → types_at count stated pointer earlier bytes at ≡ Ok types → TypesRead stated earlier bytes at types
unfolding types_at
types_stand zero stated pointer earlier bytes at types are within e =
    let made : List RecordType × ℕ = (earlier, at) in
    subst (λ (t : List RecordType × ℕ). TypesRead stated earlier bytes at t) (ok_is made types e)
    (record { new = []; are = sym (append-nil earlier); stand = stands_nothing bytes at within; plain = tt })
types_stand (suc count) stated pointer earlier bytes at types are within e =
    let type = bind_ok (type_at stated pointer earlier bytes at)
    (λ type. types_at count stated pointer (earlier ++ type.0 ∷ []) bytes type.1) types e in
    let first = type_stands stated pointer earlier bytes at type.0 are type.1 in
    let inside = (first.stand []).within in
    let rest = types_stand count stated pointer (earlier ++ type.0.0 ∷ []) bytes type.0.1 types are inside type.2 in
    let all : types.0 ≡ earlier ++ type.0.0 ∷ rest.new = rest.are ∙ append_assoc earlier (type.0.0 ∷ []) rest.new in
    let front : Stands bytes at (described_type stated types.0 type.0.0) type.0.1 =
    subst (λ (some : List RecordType). Stands bytes at (described_type stated some type.0.0) type.0.1) (sym all)
    (first.stand (type.0.0 ∷ rest.new)) in
    record {
      new = type.0.0 ∷ rest.new;
      are = all;
      stand = stands_join bytes at (described_type stated types.0 type.0.0) type.0.1 (described_types stated types.0 rest.new) types.1 front
          rest.stand;
      plain = (first.plain, rest.plain);
    }

-- ---- defaults

plain_fields : (fields : List Field) → HasPlain false fields → all_default_zero fields ≡ true
plain_fields [] plain = refl
plain_fields (field ∷ fields) plain = rw ((Decides-int_eq field.fallback (pos 0)).1 (plain.0 refl)) (plain_fields fields plain.1)

plain_types : (types : List RecordType) → HavePlain false types → list_all (λ (type : RecordType). all_default_zero type.fields) types
    ≡ true
plain_types [] plain = refl
plain_types (type ∷ types) plain = rw (plain_fields type.fields plain.0) (plain_types types plain.1)

not_not : (b : Bool) → not b ≡ false → b ≡ true
not_not true e = refl
not_not false e = absurd (cc)

stated_is : (stated : Bool) (types : List RecordType) → HavePlain stated types → (stated && not (types_state_default types)) ≡ false
    → stated ≡ types_state_default types
stated_is false types plain none = sym (ap (λ (b : Bool). cond b false true) (plain_types types plain))
stated_is true types plain none = sym (not_not (types_state_default types) none)

-- ---- a format

abbrev begun : Bool → Result (Bool × ℕ) LayoutFault
begun stated = Ok (stated, 4)

abbrev ordered : Order → ℕ → Result (Order × ℕ) LayoutFault
ordered order next = Ok (order, next)

abbrev sized : ℕ × ℕ → Result (ℕ × ℕ) LayoutFault
sized n = Ok n

magic_step : (front : List ℕ) (b c : Bool) (stated : Bool × ℕ) → bytes_equal front (codes "NDF1") ≡ b → bytes_equal front (codes "NDF2") ≡ c
    → cond b (begun false) (cond c (begun true) (Err Magic)) ≡ Ok stated → (front ≡ magic stated.0) × (stated.1 ≡ 4)
magic_step front true c stated one two e = let same = ok_is (false, 4) stated e in
    (bytes_equal-true front (codes "NDF1") one ∙ ap (λ (s : Bool × ℕ). magic s.0) same, sym (ap (λ (s : Bool × ℕ). s.1) same))
magic_step front false true stated one two e = let same = ok_is (true, 4) stated e in
    (bytes_equal-true front (codes "NDF2") two ∙ ap (λ (s : Bool × ℕ). magic s.0) same, sym (ap (λ (s : Bool × ℕ). s.1) same))
magic_step front false false stated one two e = absurd (cc)

magic_stands : (bytes : List ℕ) (stated : Bool × ℕ) → magic_at bytes ≡ Ok stated → Stands bytes 0 (magic stated.0) stated.1
unfolding magic_at
magic_stands bytes stated e =
    let front = take 4 bytes in
    let tested : Result (Bool × ℕ) LayoutFault = cond (bytes_equal front (codes "NDF1")) (begun false)
    (cond (bytes_equal front (codes "NDF2")) (begun true) (Err Magic)) in
    let long = not_refused (nat_lt (length bytes) 4) (Short 0) tested stated e in
    let is = magic_step front (bytes_equal front (codes "NDF1")) (bytes_equal front (codes "NDF2")) stated refl refl long.1 in
    let within : 4 ≤ length bytes = ltb-false (length bytes) 4 long.0 in
    let cut : Stands bytes 0 front 4 = stands_cut bytes 0 4 within in
    subst (λ (n : ℕ). Stands bytes 0 (magic stated.0) n) (sym is.1) (subst (λ (t : List ℕ). Stands bytes 0 t 4) is.0 cut)

order_step : (n : ℕ × ℕ) (b c : Bool) (order : Order × ℕ) → nat_eq n.0 0 ≡ b → nat_eq n.0 1 ≡ c
    → cond b (ordered Little n.1) (cond c (ordered Big n.1) (Err ByteOrder)) ≡ Ok order
    → (n.0 ≡ order_number order.0) × (n.1 ≡ order.1)
order_step n true c order first second e = let same = ok_is (Little, n.1) order e in
    (eqb-true n.0 0 first ∙ ap (λ (o : Order × ℕ). order_number o.0) same, ap (λ (o : Order × ℕ). o.1) same)
order_step n false true order first second e = let same = ok_is (Big, n.1) order e in
    (eqb-true n.0 1 second ∙ ap (λ (o : Order × ℕ). order_number o.0) same, ap (λ (o : Order × ℕ). o.1) same)
order_step n false false order first second e = absurd (cc)

order_stands : (bytes : List ℕ) (at : ℕ) (order : Order × ℕ) → AreBytes bytes → order_at bytes at ≡ Ok order
    → Stands bytes at (described_number 1 (order_number order.0)) order.1
unfolding order_at
order_stands bytes at order are e =
    let n = bind_ok (number_at 1 bytes at) (λ n. cond (nat_eq n.0 0) (ordered Little n.1)
    (cond (nat_eq n.0 1) (ordered Big n.1) (Err ByteOrder))) order e in
    let is = order_step n.0 (nat_eq n.0.0 0) (nat_eq n.0.0 1) order refl refl n.2 in
    let stands = number_stands 1 bytes at n.0 refl are n.1 in
    subst (λ (k : ℕ). Stands bytes at (described_number 1 (order_number order.0)) k) is.1
    (subst (λ (k : ℕ). Stands bytes at (described_number 1 k) n.0.1) is.0 stands.0)

pointer_step : (n pointer : ℕ × ℕ) (b c : Bool) → cond b (sized n) (cond c (sized n) (Err Pointer)) ≡ Ok pointer → n ≡ pointer
pointer_step n pointer true c e = ok_is n pointer e
pointer_step n pointer false true e = ok_is n pointer e
pointer_step n pointer false false e = absurd (cc)

pointer_read : (bytes : List ℕ) (at : ℕ) (pointer : ℕ × ℕ) → pointer_at bytes at ≡ Ok pointer → number_at 1 bytes at ≡ Ok pointer
unfolding pointer_at
pointer_read bytes at pointer e =
    let n = bind_ok (number_at 1 bytes at) (λ n. cond (nat_eq n.0 4) (sized n) (cond (nat_eq n.0 8) (sized n) (Err Pointer))) pointer e in
    n.1 ∙ ap (λ (s : ℕ × ℕ). Ok s) (pointer_step n.0 pointer (nat_eq n.0.0 4) (nat_eq n.0.0 8) n.2)

type_count_read : (bytes : List ℕ) (at : ℕ) (count : ℕ × ℕ) → type_count_at bytes at ≡ Ok count → number_at 2 bytes at ≡ Ok count
unfolding type_count_at
type_count_read bytes at count e =
    let n = bind_ok (number_at 2 bytes at) (λ n. cond (nat_le 1 n.0 && nat_le n.0 64) (Ok n) (Err (Limit Types n.0))) count e in
    n.1 ∙ ap (λ (s : ℕ × ℕ). Ok s) (passed (nat_le 1 n.0.0 && nat_le n.0.0 64) (Limit Types n.0.0) n.0 count n.2).1

-- what is read as a format at the front stands there as it is described
pub layout_stands : (bytes : List ℕ) (layout : Layout × ℕ) → AreBytes bytes → layout_at bytes ≡ Ok layout
    → Stands bytes 0 (describe layout.0) layout.1
unfolding layout_at with_default
layout_stands bytes layout are e =
    let with_types : Bool → Order → ℕ → List RecordType × ℕ → Result (Layout × ℕ) LayoutFault = λ stated order pointer types. with_default
    stated (layout_with order pointer types.0) types.1 in
    let with_count : Bool → Order → ℕ → ℕ × ℕ → Result (Layout × ℕ) LayoutFault = λ stated order pointer count. types_at count.0 stated
    pointer [] bytes count.1 >>= with_types stated order pointer in
    let with_pointer : Bool → Order → ℕ × ℕ → Result (Layout × ℕ) LayoutFault = λ stated order pointer. type_count_at bytes pointer.1
    >>= with_count stated order pointer.0 in
    let with_order : Bool → Order × ℕ → Result (Layout × ℕ) LayoutFault = λ stated order. pointer_at bytes order.1
    >>= with_pointer stated order.0 in
    let with_magic : Bool × ℕ → Result (Layout × ℕ) LayoutFault = λ stated. order_at bytes stated.1 >>= with_order stated.0 in
    let stated = bind_ok (magic_at bytes) with_magic layout e in
    let order = bind_ok (order_at bytes stated.0.1) (with_order stated.0.0) layout stated.2 in
    let pointer = bind_ok (pointer_at bytes order.0.1) (with_pointer stated.0.0 order.0.0) layout order.2 in
    let count = bind_ok (type_count_at bytes pointer.0.1) (with_count stated.0.0 order.0.0 pointer.0.0) layout pointer.2 in
    let types = bind_ok (types_at count.0.0 stated.0.0 pointer.0.0 [] bytes count.0.1) (with_types stated.0.0 order.0.0 pointer.0.0) layout
    count.2 in
    let made : Layout × ℕ = (layout_with order.0.0 pointer.0.0 types.0.0, types.0.1) in
    let some_default = not_refused (stated.0.0 && not (types_state_default types.0.0)) Plain (Ok made) layout types.2 in
    let s0 = magic_stands bytes stated.0 stated.1 in
    let s1 = order_stands bytes stated.0.1 order.0 are order.1 in
    let s2 = number_stands 1 bytes order.0.1 pointer.0 refl are (pointer_read bytes order.0.1 pointer.0 pointer.1) in
    let s3 = number_stands 2 bytes pointer.0.1 count.0 refl are (type_count_read bytes pointer.0.1 count.0 count.1) in
    let read = types_stand count.0.0 stated.0.0 pointer.0.0 [] bytes count.0.1 types.0 are s3.0.within types.1 in
    let facts = types_facts count.0.0 stated.0.0 pointer.0.0 [] bytes count.0.1 types.0 types.1 (no_types pointer.0.0) in
    let number : count.0.0 ≡ length types.0.0 = let long = facts.1 in omega (arith, long) in
    let stated_so = stated_is stated.0.0 types.0.0 (subst (HavePlain stated.0.0) (sym read.are) read.plain) some_default.0 in
    let d0 = magic stated.0.0 in
    let d1 = described_number 1 (order_number order.0.0) in
    let d2 = described_number 1 pointer.0.0 in
    let d3 = described_number 2 count.0.0 in
    let j1 = stands_join bytes 0 d0 stated.0.1 d1 order.0.1 s0 s1 in
    let j2 = stands_join bytes 0 (d0 ++ d1) order.0.1 d2 pointer.0.1 j1 s2.0 in
    let j3 = stands_join bytes 0 (d0 ++ d1 ++ d2) pointer.0.1 d3 count.0.1 j2 s3.0 in
    let j4 = stands_join bytes 0 (d0 ++ d1 ++ d2 ++ d3) count.0.1 (described_types stated.0.0 types.0.0 read.new) types.0.1 j3 read.stand in
    let text : d0 ++ d1 ++ d2 ++ d3 ++ described_types stated.0.0 types.0.0 read.new ≡ describe made.0 =
    ap (λ (n : ℕ). d0 ++ d1 ++ d2 ++ described_number 2 n ++ described_types stated.0.0 types.0.0 read.new) number
    ∙ ap (λ (new : List RecordType). d0 ++ d1 ++ d2 ++ described_number 2 (length types.0.0) ++ described_types stated.0.0 types.0.0 new)
    (sym read.are)
    ∙ ap (λ (s : Bool). magic s ++ d1 ++ d2 ++ described_number 2 (length types.0.0) ++ described_types s types.0.0 types.0.0) stated_so in
    subst (λ (l : Layout × ℕ). Stands bytes 0 (describe l.0) l.1) (ok_is made layout some_default.1)
    (subst (λ (t : List ℕ). Stands bytes 0 t types.0.1) text j4)

-- what is read as a format, all of it, is its description
pub read_described : (bytes : List ℕ) (layout : Layout) → AreBytes bytes → layout_of bytes ≡ Ok layout → bytes ≡ describe layout
unfolding layout_of
read_described bytes layout are e =
    let read = bind_ok (layout_at bytes) (λ layout. cond (nat_lt layout.1 (length bytes)) (Err (Trailing layout.1)) (Ok layout.0)) layout e
    in
    let ended = not_refused (nat_lt read.0.1 (length bytes)) (Trailing read.0.1) (Ok read.0.0) layout read.2 in
    let all : length bytes ≤ read.0.1 = ltb-false read.0.1 (length bytes) ended.0 in
    let stands = layout_stands bytes read.0 are read.1 in
    stands.parts ∙ ap (λ (rest : List ℕ). describe read.0.0 ++ rest) (drop_all read.0.1 bytes all) ∙ append-nil (describe read.0.0)
    ∙ ap describe (ok_is read.0.0 layout ended.1)
