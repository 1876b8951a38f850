-- What is read part by part is well laid.
use Rattle.std.proofs.Common.{◌≡◌, ◌≢◌, ℕ, zero, suc, ◌+◌, ◌<◌, ◌≤◌, ℤ, pos, Bool, true, false, cond, ◌⊎◌, inl, inr, List, [], ◌∷◌, length}
use Rattle.std.proofs.Common.{Option, Some, None, Result, Ok, Err, IsTrue, refl, sym, ap, subst, ◌∙◌, arith}
use Rattle.std.specs.Prelude.{slice_get, ◌&&◌, not, nat_le, int_lt}
use Rattle.std.specs.Ordering.{int_eq}
use Rattle.std.specs.List.{position_from}
use Rattle.std.specs.Option.{ok_or}
use Rattle.std.proofs.lemmas.Bool.{and_parts, eqb-true, eq-eqb, leb-true, cases_Bool, or_cases}
use Rattle.std.proofs.lemmas.Bool.Decides.{nat_tests, Decides-int_eq}
use Rattle.std.proofs.lemmas.Int.{ints}
use Rattle.std.proofs.lemmas.Option.{slice_get_within}
use Rattle.evp_base.specs.declared.kind.Kind.{Kind}
use Rattle.evp_base.specs.declared.kind.Kind.TheVariants.{Int, Unsigned, Char, Boolean, Enumeration}
use Rattle.evp_base.specs.Name.{is_name}
use Rattle.evp_base.specs.Numbers.{is_in_range, InRange, least, greatest}
use Rattle.evp_format.specs.declared.draft.DraftField.{DraftField}
use Rattle.evp_format.specs.declared.draft.DraftShape.{DraftShape}
use Rattle.evp_format.specs.declared.draft.DraftShape.TheVariants as draft
use Rattle.evp_format.specs.declared.field.Base.{Base}
use Rattle.evp_format.specs.declared.field.Base.TheVariants.{Number, Text, Nested}
use Rattle.evp_format.specs.declared.field.Field.{Field}
use Rattle.evp_format.specs.declared.field.Shape.{Shape}
use Rattle.evp_format.specs.declared.field.Shape.TheVariants.{One, Fixed, Counted}
use Rattle.evp_format.specs.declared.layout_fault.LayoutFault.{LayoutFault}
use Rattle.evp_format.specs.declared.layout_fault.LayoutFault.TheVariants.{CountField}
use Rattle.evp_format.specs.declared.record_type.RecordType.{RecordType}
use Rattle.evp_format.specs.Bytes.{bytes_equal}
use Rattle.evp_format.specs.Drafts.{nested_length, is_base_size, draft_extent, is_single_number, may_default, may_count, is_count_named}
use Rattle.evp_format.specs.Drafts.{count_named, counted_by, shape_in, field_with, type_of, first_pair, counted_fields, is_counted_by}
use Rattle.evp_format.specs.Drafts.{is_count, is_defaulted_count, count_with_default, are_apart, overlap_with, first_overlap}
use Rattle.evp_format.specs.Steps.{◌>>=◌}
use Rattle.evp_format.specs.WellLaid.{HasBaseSize, CountsElements, IsCountField, HasShape, CountsNothing, IsNumberIn, StatesDefault}
use Rattle.evp_format.specs.WellLaid.{IsLaidField, AreApart, IsLaidType, is_reserved, shape_extent, extent}
use Rattle.evp_format.proofs.Pushed.{slice_get-some, bytes_equal-same, list_any-none}

-- the value of a step that wasn't refused
pub bind_ok : {A B : Type 0} (r : Result A LayoutFault) (f : A → Result B LayoutFault) (y : B) → (r >>= f) ≡ Ok y → (x : A) × (r ≡ Ok x)
    × (f x ≡ Ok y)
bind_ok (Ok x) f y e = (x, refl, e)
bind_ok (Err fault) f y e = absurd (cc)

-- a test that was passed
pub passed : {A : Type 0} (b : Bool) (fault : LayoutFault) (x y : A) → cond b (Ok x) (Err fault) ≡ Ok y → (b ≡ true) × (x ≡ y)
passed true fault x y e = (refl, cc)
passed false fault x y e = absurd (cc)

pub not_refused : {A : Type 0} (b : Bool) (fault : LayoutFault) (r : Result A LayoutFault) (y : A) → cond b (Err fault) r ≡ Ok y
    → (b ≡ false) × (r ≡ Ok y)
not_refused true fault r y e = absurd (cc)
not_refused false fault r y e = (refl, e)

pub passed_on : {A : Type 0} (b : Bool) (fault : LayoutFault) (r : Result A LayoutFault) (y : A) → cond b r (Err fault) ≡ Ok y → (b ≡ true)
    × (r ≡ Ok y)
passed_on true fault r y e = (refl, e)
passed_on false fault r y e = absurd (cc)

pub ok_or_some : {A : Type 0} (o : Option A) (fault : LayoutFault) (x : A) → ok_or o fault ≡ Ok x → o ≡ Some x
ok_or_some None fault x e = absurd (cc)
ok_or_some (Some y) fault x e = cc

abbrev pub done : {A : Type 0} → A → Result A LayoutFault
done x = Ok x

pub ok_is : {A : Type 0} (x y : A) → done x ≡ done y → x ≡ y
ok_is x y e = cc

-- ---- what a field is before its type is whole

-- a base that names an earlier type
abbrev pub IsKnown : List RecordType → Base → Type 0
IsKnown earlier (Number kind) = Unit {0}
IsKnown earlier Text = Unit {0}
IsKnown earlier (Nested k) = k < length earlier

abbrev pub IsStatedShape : DraftShape → Type 0
IsStatedShape draft.One = Unit {0}
IsStatedShape (draft.Fixed n) = (1 ≤ n) × (n ≤ 65536)
IsStatedShape (draft.Counted name) = IsTrue (is_name name)

pub record IsDraft (pointer : ℕ) (earlier : List RecordType) (room : ℕ) (field : DraftField) : Type 0 where
  pub named : is_name field.name ≡ true
  pub known : IsKnown earlier field.base
  pub sized : is_base_size pointer earlier field.base field.size ≡ true
  pub shaped : IsStatedShape field.shape
  pub inside : nat_le (field.offset + draft_extent pointer field.shape field.size) room ≡ true
  pub defaulted : may_default field.base field.shape field.size field.fallback ≡ true

pub record AreDrafts (pointer : ℕ) (earlier : List RecordType) (room : ℕ) (fields : List DraftField) : Type 0 where
  pub each : (k : ℕ) (field : DraftField) → slice_get fields k ≡ Some field → IsDraft pointer earlier room field
  pub names_differ : (i j : ℕ) (field other : DraftField) → i < j → slice_get fields i ≡ Some field → slice_get fields j ≡ Some other
      → bytes_equal field.name other.name ≡ false

-- ---- the counts

-- the field of the first list with its shape is the field of the second
pub record IsCounted (all : List DraftField) (draft : DraftField) (field : Field) : Type 0 where
  pub shape : Shape
  pub shaped : shape_in all draft.shape ≡ Some shape
  pub is : field ≡ field_with draft shape

pub counted_each : (type n : ℕ) (all drafts : List DraftField) (fields : List Field) → counted_fields type n all drafts ≡ Ok fields
    → (length fields ≡ length drafts) × ((k : ℕ) (field : Field) → slice_get fields k ≡ Some field → (draft : DraftField)
    × (slice_get drafts k ≡ Some draft) × IsCounted all draft field)
unfolding counted_fields
counted_each type n all [] fields e =
    let none = ok_is [] fields e in (
      ap length (sym none),
      λ k field found. absurd (let bad : slice_get {X = Field} [] k
          ≡ Some field = ap (λ (xs : List Field). slice_get xs k) none ∙ found in cc),
    )
counted_each type n all (draft ∷ drafts) fields e =
    let a = bind_ok (ok_or (shape_in all draft.shape) (CountField type n))
    (λ shape. counted_fields type (n + 1) all drafts >>= λ others. Ok (field_with draft shape ∷ others)) fields e in
    let b = bind_ok (counted_fields type (n + 1) all drafts) (λ others. Ok (field_with draft a.0 ∷ others)) fields a.2 in
    let whole = ok_is (field_with draft a.0 ∷ b.0) fields b.2 in
    let rest = counted_each type (n + 1) all drafts b.0 b.1 in
    let shaped = ok_or_some (shape_in all draft.shape) (CountField type n) a.0 a.1 in
    subst (λ (some : List Field). (length some ≡ suc (length drafts)) ×
    ((k : ℕ) (field : Field) → slice_get some k ≡ Some field → (d : DraftField) × (slice_get (draft ∷ drafts) k ≡ Some d)
    × IsCounted all d field)) whole
    (ap suc rest.0, λ k field found. first_or_later all draft drafts a.0 b.0 shaped rest.1 k field found)
  where
    first_or_later : (all : List DraftField) (draft : DraftField) (drafts : List DraftField) (shape : Shape) (others : List Field)
        → shape_in all draft.shape ≡ Some shape
        → ((k : ℕ) (field : Field) → slice_get others k ≡ Some field → (d : DraftField) × (slice_get drafts k ≡ Some d)
        × IsCounted all d field)
        → (k : ℕ) (field : Field) → slice_get (field_with draft shape ∷ others) k ≡ Some field → (d : DraftField)
        × (slice_get (draft ∷ drafts) k ≡ Some d) × IsCounted all d field
    first_or_later all draft drafts shape others shaped rest zero field found =
        (draft, refl, record { shape = shape; shaped = shaped; is = cc })
    first_or_later all draft drafts shape others shaped rest (suc k) field found = rest k field found

-- ---- tests and facts

position_step : (p : DraftField → Bool) (draft : DraftField) (drafts : List DraftField) (from k : ℕ) (b : Bool) → p draft ≡ b
    → cond b (Some from) (position_from p (from + 1) drafts) ≡ Some k
    → (position_from p (from + 1) drafts ≡ Some k → (n : ℕ) × (k ≡ from + 1 + n) × (d : DraftField) × (slice_get drafts n ≡ Some d)
    × (p d ≡ true))
    → (n : ℕ) × (k ≡ from + n) × (d : DraftField) × (slice_get (draft ∷ drafts) n ≡ Some d) × (p d ≡ true)
position_step p draft drafts from k true is found later = (0, (let same : from ≡ k = cc in omega (arith, same)), draft, refl, is)
position_step p draft drafts from k false is found later =
    let rest = later found in
    (suc rest.0, (let far = rest.1 in omega (arith, far)), rest.2, rest.3, rest.4)

-- a draft that is found stands there, and passes the test
pub position_at : (p : DraftField → Bool) (drafts : List DraftField) (from k : ℕ) → position_from p from drafts ≡ Some k
    → (n : ℕ) × (k ≡ from + n) × (d : DraftField) × (slice_get drafts n ≡ Some d) × (p d ≡ true)
position_at p [] from k found = absurd (cc)
position_at p (draft ∷ drafts) from k found = position_step p draft drafts from k (p draft) refl found (position_at p drafts (from + 1) k)

may_count_facts : (base : Base) (shape : DraftShape) → may_count base shape ≡ true → CountsElements base × (shape ≡ draft.One)
may_count_facts (Number Int) draft.One may = (tt, refl)
may_count_facts (Number Int) (draft.Fixed n) may = absurd (cc)
may_count_facts (Number Int) (draft.Counted name) may = absurd (cc)
may_count_facts (Number Unsigned) draft.One may = (tt, refl)
may_count_facts (Number Unsigned) (draft.Fixed n) may = absurd (cc)
may_count_facts (Number Unsigned) (draft.Counted name) may = absurd (cc)
may_count_facts (Number Char) shape may = absurd (cc)
may_count_facts (Number Boolean) shape may = absurd (cc)
may_count_facts (Number Enumeration) shape may = absurd (cc)
may_count_facts Text shape may = absurd (cc)
may_count_facts (Nested k) shape may = absurd (cc)

-- fields whose counts are those of the drafts
pub record AreCounted (drafts : List DraftField) (fields : List Field) : Type 0 where
  pub same_length : length fields ≡ length drafts
  pub each : (k : ℕ) (field : Field) → slice_get fields k ≡ Some field → (draft : DraftField) × (slice_get drafts k ≡ Some draft)
      × IsCounted drafts draft field

pub counted_some : (o : Option ℕ) (shape : Shape) → counted_by o ≡ Some shape → (c : ℕ) × (o ≡ Some c) × (Counted c ≡ shape)
counted_some None shape e = absurd (cc)
counted_some (Some c) shape e = (c, refl, cc)

-- a field that may count is a single number
count_is : (drafts : List DraftField) (fields : List Field) (c : ℕ) (name : List ℕ) → AreCounted drafts fields → count_named drafts name
    ≡ Some c → IsCountField fields c
unfolding shape_in
count_is drafts fields c name counted found =
    let at = position_at (λ (field : DraftField). is_count_named field name) drafts 0 c found in
    let here : c ≡ at.0 = let far = at.1 in omega (arith, far) in
    let below = slice_get_within drafts at.0 at.2 at.3 in
    let some = slice_get-some fields at.0 (let same = counted.same_length in omega (arith, below, same)) in
    let from = counted.each at.0 some.0 some.1 in
    let same_draft : from.0 ≡ at.2 = let both = sym from.1 ∙ at.3 in cc in
    let tests = and_parts (bytes_equal at.2.name name) (may_count at.2.base at.2.shape) at.4 in
    let facts = may_count_facts at.2.base at.2.shape tests.1 in
    let one : shape_in drafts from.0.shape ≡ Some One = ap (λ (d : DraftField). shape_in drafts d.shape) same_draft
    ∙ ap (shape_in drafts) facts.1 in
    let shape_is : from.2.shape ≡ One = let both = sym from.2.shaped ∙ one in cc in
    let field_is = from.2.is in (
      some.0,
      subst (λ (n : ℕ). slice_get fields n ≡ Some some.0) (sym here) some.1,
      ap (λ (f : Field). f.shape) field_is ∙ shape_is,
      subst (λ (f : Field). CountsElements f.base) (sym field_is)
          (subst (λ (d : DraftField). CountsElements d.base) (sym same_draft) facts.0),
    )

laid_shape : (drafts : List DraftField) (fields : List Field) (stated : DraftShape) (shape : Shape) → AreCounted drafts fields
    → IsStatedShape stated → shape_in drafts stated ≡ Some shape
    → HasShape fields shape
unfolding shape_in
laid_shape drafts fields draft.One shape counted ok e = subst (HasShape fields) (let same : One ≡ shape = cc in same) tt
laid_shape drafts fields (draft.Fixed n) shape counted ok e = subst (HasShape fields) (let same : Fixed n ≡ shape = cc in same) ok
laid_shape drafts fields (draft.Counted name) shape counted ok e =
    let some = counted_some (count_named drafts name) shape e in
    subst (HasShape fields) some.2 (count_is drafts fields some.0 name counted some.1)

same_extent : (drafts : List DraftField) (pointer size : ℕ) (stated : DraftShape) (shape : Shape) → shape_in drafts stated ≡ Some shape
    → draft_extent pointer stated size ≡ shape_extent pointer shape size
unfolding shape_in
same_extent drafts pointer size draft.One shape e = ap (λ (s : Shape). shape_extent pointer s size) (let same : One ≡ shape = cc in same)
same_extent drafts pointer size (draft.Fixed n) shape e = ap (λ (s : Shape). shape_extent pointer s size)
    (let same : Fixed n ≡ shape = cc in same)
same_extent drafts pointer size (draft.Counted name) shape e = ap (λ (s : Shape). shape_extent pointer s size)
    (counted_some (count_named drafts name) shape e).2

-- ---- sizes and defaults

pub nested_length-some : (earlier : List RecordType) (k : ℕ) (type : RecordType) → slice_get earlier k ≡ Some type → nested_length earlier k
    ≡ type.length
nested_length-some earlier k type found = ap (λ (o : Option RecordType). elim o [ None ↦ 0 | Some t ↦ t.length ]) found

base_size : (pointer : ℕ) (earlier : List RecordType) (base : Base) (size : ℕ) → IsKnown earlier base
    → is_base_size pointer earlier base size ≡ true → HasBaseSize pointer earlier base size
base_size pointer earlier (Number kind) size known sized = sized
base_size pointer earlier Text size known sized = eqb-true size pointer sized
base_size pointer earlier (Nested k) size known sized =
    let some = slice_get-some earlier k known in
    (some.0, some.1, eqb-true size (nested_length earlier k) sized ∙ nested_length-some earlier k some.0 some.1)

pub in_range_is : (kind : Kind) (size : ℕ) (n : ℤ) → is_in_range kind size n ≡ true → InRange kind size n
in_range_is kind size n inside =
    let parts = and_parts (not (int_lt n (least kind size))) (not (int_lt (greatest kind size) n)) inside in
    (grind (arith, ints, nat_tests), grind (arith, ints, nat_tests))

pub single_number : (base : Base) (shape : DraftShape) (size : ℕ) (n : ℤ) → is_single_number base shape size n ≡ true → (shape ≡ draft.One)
    × IsNumberIn base size n
single_number (Number kind) draft.One size n single = (refl, in_range_is kind size n single)
single_number (Number kind) (draft.Fixed count) size n single = absurd (cc)
single_number (Number kind) (draft.Counted name) size n single = absurd (cc)
single_number Text shape size n single = absurd (cc)
single_number (Nested k) shape size n single = absurd (cc)

none_first : (b : Bool) (k : ℕ) (later : Option ℕ) → cond b (Some k) later ≡ None → (b ≡ false) × (later ≡ None)
none_first true k later none = absurd (cc)
none_first false k later none = (refl, none)

-- a default that is no 0 is of a field that is no count
none_defaulted : (all : List Field) (from : ℕ) (fields : List Field) (k : ℕ) (field : Field) → count_with_default all from fields ≡ None
    → slice_get fields k ≡ Some field
    → is_defaulted_count all (from + k) field ≡ false
none_defaulted all from [] k field none found = absurd (cc)
none_defaulted all from (first ∷ fields) zero field none found =
    let here : from + 0 ≡ from = omega arith in
    let same : first ≡ field = cc in
    rw (here, ← same) (none_first (is_defaulted_count all from first) from (count_with_default all (from + 1) fields) none).0
none_defaulted all from (first ∷ fields) (suc k) field none found =
    let there : from + suc k ≡ from + 1 + k = omega arith in
    rw there (none_defaulted all (from + 1) fields k field
    (none_first (is_defaulted_count all from first) from (count_with_default all (from + 1) fields) none).1 found)

is_counted_by-same : (shape : Shape) (k : ℕ) → shape ≡ Counted k → is_counted_by shape k ≡ true
is_counted_by-same shape k same = ap (λ (s : Shape). is_counted_by s k) same ∙ eq-eqb k k refl

counts_nothing : (fields : List Field) (k : ℕ) → is_count fields k ≡ false → CountsNothing fields k
counts_nothing fields k none i field found same =
    let none_is = list_any-none (λ (f : Field). is_counted_by f.shape k) fields i field none found in
    let this_is = is_counted_by-same field.shape k same in
    cc

and_false : (a b : Bool) → (not a && b) ≡ false → a ≡ false → b ≡ false
and_false true b e is = absurd (cc)
and_false false b e is = e

laid_default : (drafts : List DraftField) (fields : List Field) (stated : DraftField) (k : ℕ) (field : Field)
    → IsCounted drafts stated field
    → may_default stated.base stated.shape stated.size stated.fallback ≡ true → is_defaulted_count fields k field ≡ false
    → (field.fallback ≡ pos 0) ⊎ StatesDefault fields k field
unfolding shape_in
laid_default drafts fields stated k field counted may count = elim (cases_Bool (int_eq field.fallback (pos 0))) [
  | inl zero_default ↦ inl ((Decides-int_eq field.fallback (pos 0)).0 zero_default)
  | inr other ↦
      let is = counted.is in
      let fallback_is : field.fallback ≡ stated.fallback = ap (λ (f : Field). f.fallback) is in
      let unequal : int_eq stated.fallback (pos 0) ≡ false = ap (λ (n : ℤ). int_eq n (pos 0)) (sym fallback_is) ∙ other in
      let single : is_single_number stated.base stated.shape stated.size stated.fallback ≡ true =
      elim (or_cases (int_eq stated.fallback (pos 0)) (is_single_number stated.base stated.shape stated.size stated.fallback) may)
      [ inl equal ↦ absurd (cc) | inr in_range ↦ in_range ] in
      let facts = single_number stated.base stated.shape stated.size stated.fallback single in
      let one : shape_in drafts stated.shape ≡ Some One = ap (shape_in drafts) facts.0 in
      let shape_is : counted.shape ≡ One = let both = sym counted.shaped ∙ one in cc in
      inr (record {
        single = ap (λ (f : Field). f.shape) is ∙ shape_is;
        in_range = subst (λ (f : Field). IsNumberIn f.base f.size f.fallback) (sym is) facts.1;
        counts_nothing = counts_nothing fields k (and_false (int_eq field.fallback (pos 0)) (is_count fields k) count other);
      })
]

-- ---- overlaps

none_pair : (k : ℕ) (o : Option ℕ) (later : Option (ℕ × ℕ)) → first_pair k o later ≡ None → (o ≡ None) × (later ≡ None)
none_pair k None later none = (refl, none)
none_pair k (Some other) later none = absurd (cc)

apart_or_some : (b : Bool) (k : ℕ) (later : Option ℕ) → cond b later (Some k) ≡ None → (b ≡ true) × (later ≡ None)
apart_or_some true k later none = (refl, none)
apart_or_some false k later none = absurd (cc)

apart_from : (pointer : ℕ) (field : Field) (from : ℕ) (others : List Field) (k : ℕ) (other : Field) → overlap_with pointer field from others
    ≡ None → slice_get others k ≡ Some other
    → are_apart pointer field other ≡ true
apart_from pointer field from [] k other none found = absurd (cc)
apart_from pointer field from (first ∷ others) zero other none found =
    let same : first ≡ other = cc in
    ap (are_apart pointer field) (sym same) ∙ (apart_or_some (are_apart pointer field first) from
    (overlap_with pointer field (from + 1) others) none).0
apart_from pointer field from (first ∷ others) (suc k) other none found =
    apart_from pointer field (from + 1) others k other
    (apart_or_some (are_apart pointer field first) from (overlap_with pointer field (from + 1) others) none).1 found

all_apart : (pointer from : ℕ) (fields : List Field) (i j : ℕ) (field other : Field) → first_overlap pointer from fields ≡ None → i < j
    → slice_get fields i ≡ Some field → slice_get fields j ≡ Some other
    → are_apart pointer field other ≡ true
all_apart pointer from [] i j field other none below found found' = absurd (cc)
all_apart pointer from (first ∷ fields) i zero field other none below found found' = absurd (omega arith)
all_apart pointer from (first ∷ fields) zero (suc j) field other none below found found' =
    let same : first ≡ field = cc in
    let parts = none_pair from (overlap_with pointer first (from + 1) fields) (first_overlap pointer (from + 1) fields) none in
    ap (λ (f : Field). are_apart pointer f other) (sym same) ∙ apart_from pointer first (from + 1) fields j other parts.0 found'
all_apart pointer from (first ∷ fields) (suc i) (suc j) field other none below found found' =
    let parts = none_pair from (overlap_with pointer first (from + 1) fields) (first_overlap pointer (from + 1) fields) none in
    all_apart pointer (from + 1) fields i j field other parts.1 (omega arith) found found'

apart_is : (pointer : ℕ) (field other : Field) → are_apart pointer field other ≡ true → AreApart pointer field other
apart_is pointer field other apart =
    elim (or_cases (nat_le (field.offset + extent pointer field) other.offset) (nat_le (other.offset + extent pointer other) field.offset)
    apart) [
      | inl before ↦ inl (leb-true (field.offset + extent pointer field) other.offset before)
      | inr behind ↦ inr (leb-true (other.offset + extent pointer other) field.offset behind)
    ]

-- ---- a type

pub laid_field : (pointer : ℕ) (earlier : List RecordType) (room : ℕ) (drafts : List DraftField) (fields : List Field) (k : ℕ)
    (field : Field)
    → AreDrafts pointer earlier room drafts → AreCounted drafts fields → count_with_default fields 0 fields ≡ None → slice_get fields k
    ≡ Some field
    → IsLaidField pointer earlier room fields k field
laid_field pointer earlier room drafts fields k field are counted none found =
    let from = counted.each k field found in
    let stated = are.each k from.0 from.1 in
    let is = from.2.is in
    let no_count : is_defaulted_count fields k field ≡ false = let at : 0 + k ≡ k = omega arith in
    rw at at (none_defaulted fields 0 fields k field none found) in
    let inside = leb-true (from.0.offset + draft_extent pointer from.0.shape from.0.size) room stated.inside in
    let taken = same_extent drafts pointer from.0.size from.0.shape from.2.shape from.2.shaped in
    record {
      named = subst (λ (f : Field). is_name f.name ≡ true) (sym is) stated.named;
      size_allowed = subst (λ (f : Field). HasBaseSize pointer earlier f.base f.size) (sym is)
          (base_size pointer earlier from.0.base from.0.size stated.known stated.sized);
      shape_allowed = subst (λ (f : Field). HasShape fields f.shape) (sym is)
          (laid_shape drafts fields from.0.shape from.2.shape counted stated.shaped from.2.shaped);
      inside = subst (λ (f : Field). f.offset + extent pointer f ≤ room) (sym is)
          (subst (λ (n : ℕ). from.0.offset + n ≤ room) taken inside);
      default_allowed = laid_default drafts fields from.0 k field from.2 stated.defaulted no_count;
    }

pub names_differ : (pointer : ℕ) (earlier : List RecordType) (room : ℕ) (drafts : List DraftField) (fields : List Field)
    → AreDrafts pointer earlier room drafts → AreCounted drafts fields
    → (i j : ℕ) (field other : Field) → i < j → slice_get fields i ≡ Some field → slice_get fields j ≡ Some other → field.name ≢ other.name
names_differ pointer earlier room drafts fields are counted i j field other below found found' same =
    let first = counted.each i field found in
    let second = counted.each j other found' in
    let differ = are.names_differ i j first.0 second.0 below first.1 second.1 in
    let first_name : field.name ≡ first.0.name = ap (λ (f : Field). f.name) first.2.is in
    let second_name : other.name ≡ second.0.name = ap (λ (f : Field). f.name) second.2.is in
    let names : first.0.name ≡ second.0.name = sym first_name ∙ same ∙ second_name in
    let equal : bytes_equal first.0.name second.0.name ≡ true = ap (λ (n : List ℕ). bytes_equal first.0.name n) (sym names)
    ∙ bytes_equal-same first.0.name in
    cc

pub laid_type : (pointer : ℕ) (earlier : List RecordType) (name : List ℕ) (room : ℕ) (drafts : List DraftField) (fields : List Field)
    → is_name name ≡ true → is_reserved name ≡ false → 1 ≤ room → room ≤ 65536 → 1 ≤ length drafts → length drafts ≤ 1024
    → AreDrafts pointer earlier room drafts → AreCounted drafts fields → count_with_default fields 0 fields ≡ None
    → first_overlap pointer 0 fields ≡ None
    → IsLaidType pointer earlier (type_of name room fields)
laid_type pointer earlier name room drafts fields named not_reserved least most some few are counted none apart =
    let same = counted.same_length in
    record {
      named = named;
      not_reserved = not_reserved;
      length_allowed = (least, most);
      fields_allowed = (omega (arith, same), omega (arith, same));
      names_differ = names_differ pointer earlier room drafts fields are counted;
      each_field = λ k field found. laid_field pointer earlier room drafts fields k field are counted none found;
      apart = λ i j field other below found found'. apart_is pointer field other
          (all_apart pointer 0 fields i j field other apart below found found');
    }
