-- The fields of a well laid type, as they are stated: each may follow those before it, and nothing is refused where the type ends.
use Rattle.std.proofs.Common.{◌≡◌, ◌≢◌, ℕ, zero, suc, ◌+◌, ◌<◌, ℤ, pos, Bool, true, false, cond, ◌⊎◌, inl, inr, List, [], ◌∷◌, ◌++◌, length}
use Rattle.std.proofs.Common.{Option, Some, None, Result, Ok, refl, sym, ap, subst, ◌∙◌, append_assoc, arith}
use Rattle.std.specs.Prelude.{slice_get, ◌&&◌, not, nat_eq, nat_le, ◌||◌, int_lt}
use Rattle.std.specs.Ordering.{int_eq}
use Rattle.std.specs.Option.{ok_or}
use Rattle.std.specs.List.{list_any, position_from}
use Rattle.std.proofs.lemmas.Bool.{eqb-true, eq-eqb, le-leb, cases_Bool}
use Rattle.std.proofs.lemmas.Bool.Decides.{nat_tests, Decides-int_eq}
use Rattle.std.proofs.lemmas.Int.{ints}
use Rattle.std.proofs.lemmas.Option.{slice_get_within}
use Rattle.evp_base.specs.declared.kind.Kind.{Kind}
use Rattle.evp_base.specs.declared.kind.Kind.TheVariants.{Int, Unsigned, Char, Boolean, Enumeration}
use Rattle.evp_base.specs.Name.{is_name}
use Rattle.evp_base.specs.Numbers.{is_in_range, InRange, least, greatest}
use Rattle.evp_format.specs.declared.draft.DraftField.{DraftField}
use Rattle.evp_format.specs.declared.draft.DraftShape.{DraftShape}
use Rattle.evp_format.specs.declared.draft.DraftShape.TheVariants as draft
use Rattle.evp_format.specs.declared.field.Base.{Base}
use Rattle.evp_format.specs.declared.field.Base.TheVariants.{Number, Text, Nested}
use Rattle.evp_format.specs.declared.field.Field.{Field}
use Rattle.evp_format.specs.declared.field.Shape.{Shape}
use Rattle.evp_format.specs.declared.field.Shape.TheVariants.{One, Fixed, Counted}
use Rattle.evp_format.specs.declared.layout_fault.LayoutFault.{LayoutFault}
use Rattle.evp_format.specs.declared.layout_fault.LayoutFault.TheVariants.{CountField}
use Rattle.evp_format.specs.declared.record_type.RecordType.{RecordType}
use Rattle.evp_format.specs.Bytes.{bytes_equal}
use Rattle.evp_format.specs.Describing.{described_text, described_number, stated_number, base_word, type_name, field_name, shape_text}
use Rattle.evp_format.specs.Describing.{described_field, described_fields}
use Rattle.evp_format.specs.Drafts.{has_field, nested_length, is_base_size, draft_extent, is_single_number, may_default, may_count}
use Rattle.evp_format.specs.Drafts.{is_count_named, count_named, counted_by, shape_in, field_with, counted_fields, is_counted_by, is_count}
use Rattle.evp_format.specs.Drafts.{is_defaulted_count, count_with_default, are_apart, overlap_with, first_pair, first_overlap}
use Rattle.evp_format.specs.Steps.{◌>>=◌}
use Rattle.evp_format.specs.WellLaid.{HasBaseSize, HasShape, CountsElements, IsCountField, IsNumberIn, StatesDefault, IsLaidField}
use Rattle.evp_format.specs.WellLaid.{IsLaidType, AreApart, shape_extent, extent}
use Rattle.evp_format.proofs.DescribedFields.{draft_described, drafts_described}
use Rattle.evp_format.proofs.FieldsAgain.{FollowEach}
use Rattle.evp_format.proofs.Pushed.{bytes_equal-true, bytes_equal-same, slice_get-front}
use Rattle.evp_format.proofs.TypeTexts.{stated_shape_text}
use Rattle.evp_format.proofs.WellLaidTypes.{IsKnown, IsStatedShape, IsDraft, nested_length-some}

-- the shape, with the count field's name in place of its number
abbrev pub stated_shape : List Field → Shape → DraftShape
stated_shape all One = draft.One
stated_shape all (Fixed n) = draft.Fixed n
stated_shape all (Counted c) = draft.Counted (field_name all c)

abbrev pub stated_of : List Field → Field → DraftField
stated_of all field = record {
  name = field.name;
  base = field.base;
  shape = stated_shape all field.shape;
  size = field.size;
  offset =
      field.offset;
  fallback = field.fallback;
}

-- these fields, of a type whose fields are `all`
abbrev pub stated_all : List Field → List Field → List DraftField
stated_all all [] = []
stated_all all (field ∷ fields) = stated_of all field ∷ stated_all all fields

pub length-stated_all : (all fields : List Field) → length (stated_all all fields) ≡ length fields
length-stated_all all [] = refl
length-stated_all all (field ∷ fields) = ap suc (length-stated_all all fields)

pub slice_get-stated : (all fields : List Field) (k : ℕ) (stated : DraftField) → slice_get (stated_all all fields) k ≡ Some stated
    → (field : Field) × (slice_get fields k ≡ Some field) × (stated_of all field ≡ stated)
slice_get-stated all [] k stated found = absurd (cc)
slice_get-stated all (field ∷ fields) zero stated found = (field, refl, cc)
slice_get-stated all (field ∷ fields) (suc k) stated found = slice_get-stated all fields k stated found

stated-slice_get : (all fields : List Field) (k : ℕ) (field : Field) → slice_get fields k ≡ Some field → slice_get (stated_all all fields) k
    ≡ Some (stated_of all field)
stated-slice_get all [] k field found = absurd (cc)
stated-slice_get all (first ∷ fields) zero field found = let same : first ≡ field = cc in ap (λ (f : Field). Some (stated_of all f)) same
stated-slice_get all (first ∷ fields) (suc k) field found = stated-slice_get all fields k field found

stated_all-push : (all fields : List Field) (field : Field) → stated_all all (fields ++ field ∷ []) ≡ stated_all all fields
    ++ stated_of all field ∷ []
stated_all-push all [] field = refl
stated_all-push all (first ∷ fields) field = ap (λ (rest : List DraftField). stated_of all first ∷ rest) (stated_all-push all fields field)

pub field_name-get : (fields : List Field) (k : ℕ) (field : Field) → slice_get fields k ≡ Some field → field_name fields k ≡ field.name
field_name-get [] k field found = absurd (cc)
field_name-get (first ∷ fields) zero field found = let same : first ≡ field = cc in ap (λ (f : Field). f.name) same
field_name-get (first ∷ fields) (suc k) field found = field_name-get fields k field found

-- ---- descriptions

shape_text_same : (all : List Field) (shape : Shape) → shape_text all shape ≡ stated_shape_text (stated_shape all shape)
shape_text_same all One = refl
shape_text_same all (Fixed n) = refl
shape_text_same all (Counted c) = refl

pub type_name-append : (earlier more : List RecordType) (k : ℕ) → k < length earlier → type_name (earlier ++ more) k ≡ type_name earlier k
type_name-append [] more k below = absurd (omega arith)
type_name-append (first ∷ earlier) more zero below = refl
type_name-append (first ∷ earlier) more (suc k) below = type_name-append earlier more k (omega arith)

base_word-append : (earlier more : List RecordType) (base : Base) → IsKnown earlier base → base_word (earlier ++ more) base
    ≡ base_word earlier base
base_word-append earlier more (Number kind) known = refl
base_word-append earlier more Text known = refl
base_word-append earlier more (Nested k) known = type_name-append earlier more k known

-- the bases name earlier types
abbrev pub AreKnown : List RecordType → List Field → Type 0
AreKnown earlier [] = Unit {0}
AreKnown earlier (field ∷ fields) = IsKnown earlier field.base × AreKnown earlier fields

field_described : (stated : Bool) (earlier more : List RecordType) (all : List Field) (field : Field) → IsKnown earlier field.base
    → described_field stated (earlier ++ more) all field ≡ draft_described stated earlier (stated_of all field)
field_described stated earlier more all field known =
    let with_text : List ℕ → List ℕ = λ text. described_text field.name ++ described_text text ++ described_number 4 field.size
    ++ described_number 4 field.offset ++ stated_number stated field.fallback in
    ap with_text (ap (λ (word : List ℕ). word ++ shape_text all field.shape) (base_word-append earlier more field.base known)
    ∙ ap (λ (shape : List ℕ). base_word earlier field.base ++ shape) (shape_text_same all field.shape))

pub fields_described : (stated : Bool) (earlier more : List RecordType) (all fields : List Field) → AreKnown earlier fields
    → described_fields stated (earlier ++ more) all fields ≡ drafts_described stated earlier (stated_all all fields)
fields_described stated earlier more all [] known = refl
fields_described stated earlier more all (field ∷ fields) known =
    ap (λ (text : List ℕ). text ++ described_fields stated (earlier ++ more) all fields)
    (field_described stated earlier more all field known.0)
    ∙ ap (λ (rest : List ℕ). draft_described stated earlier (stated_of all field) ++ rest)
    (fields_described stated earlier more all fields known.1)

-- ---- a field may follow

pub laid_known : (pointer : ℕ) (earlier : List RecordType) (base : Base) (size : ℕ) → HasBaseSize pointer earlier base size
    → IsKnown earlier base
laid_known pointer earlier (Number kind) size sized = tt
laid_known pointer earlier Text size sized = tt
laid_known pointer earlier (Nested k) size sized = slice_get_within earlier k sized.0 sized.1

pub laid_sized : (pointer : ℕ) (earlier : List RecordType) (base : Base) (size : ℕ) → HasBaseSize pointer earlier base size
    → is_base_size pointer earlier base size ≡ true
laid_sized pointer earlier (Number kind) size sized = sized
laid_sized pointer earlier Text size sized = eq-eqb size pointer sized
laid_sized pointer earlier (Nested k) size sized = eq-eqb size (nested_length earlier k)
    (sized.2 ∙ sym (nested_length-some earlier k sized.0 sized.1))

pub laid_stated_shape : (all : List Field) (shape : Shape) → HasShape all shape
    → ((k : ℕ) (field : Field) → slice_get all k ≡ Some field → is_name field.name ≡ true) → IsStatedShape (stated_shape all shape)
laid_stated_shape all One laid named = tt
laid_stated_shape all (Fixed n) laid named = laid
laid_stated_shape all (Counted c) laid named = ap is_name (field_name-get all c laid.0 laid.1) ∙ named c laid.0 laid.1

stated_extent : (all : List Field) (pointer size : ℕ) (shape : Shape) → draft_extent pointer (stated_shape all shape) size
    ≡ shape_extent pointer shape size
stated_extent all pointer size One = refl
stated_extent all pointer size (Fixed n) = refl
stated_extent all pointer size (Counted c) = refl

pub range_test : (kind : Kind) (size : ℕ) (n : ℤ) → InRange kind size n → is_in_range kind size n ≡ true
range_test kind size n inside =
    let low = inside.0 in
    let high = inside.1 in
    let first : int_lt n (least kind size) ≡ false = grind (arith, ints, nat_tests, low) in
    let second : int_lt (greatest kind size) n ≡ false = grind (arith, ints, nat_tests, high) in
    rw (first, second) refl

single_test : (base : Base) (size : ℕ) (n : ℤ) → IsNumberIn base size n → is_single_number base draft.One size n ≡ true
single_test (Number kind) size n inside = range_test kind size n inside
single_test Text size n inside = absurd inside
single_test (Nested k) size n inside = absurd inside

or_second : (a b : Bool) → b ≡ true → (a || b) ≡ true
or_second true b second = refl
or_second false b second = second

pub laid_may_default : (all : List Field) (k : ℕ) (field : Field) → (field.fallback ≡ pos 0) ⊎ StatesDefault all k field
    → may_default field.base (stated_shape all field.shape) field.size field.fallback ≡ true
laid_may_default all k field (inl none) = ap (λ (b : Bool). b || is_single_number field.base (stated_shape all field.shape) field.size
    field.fallback) ((Decides-int_eq field.fallback (pos 0)).1 none)
laid_may_default all k field (inr states) =
    or_second (int_eq field.fallback (pos 0)) (is_single_number field.base (stated_shape all field.shape) field.size field.fallback)
    (ap (λ (shape : Shape). is_single_number field.base (stated_shape all shape) field.size field.fallback) states.single
    ∙ single_test field.base field.size field.fallback states.in_range)

pub laid_draft : (pointer : ℕ) (earlier : List RecordType) (room : ℕ) (all : List Field) (k : ℕ) (field : Field)
    → ((n : ℕ) (other : Field) → slice_get all n ≡ Some other → is_name other.name ≡ true)
    → IsLaidField pointer earlier room all k field → IsDraft pointer earlier room (stated_of all field)
laid_draft pointer earlier room all k field named laid =
    let taken = stated_extent all pointer field.size field.shape in
    record {
      named = laid.named;
      known = laid_known pointer earlier field.base field.size laid.size_allowed;
      sized = laid_sized pointer earlier field.base field.size laid.size_allowed;
      shaped = laid_stated_shape all field.shape laid.shape_allowed named;
      inside = ap (λ (n : ℕ). nat_le (field.offset + n) room) taken ∙ le-leb (field.offset + extent pointer field) room laid.inside;
      defaulted = laid_may_default all k field laid.default_allowed;
    }

pub list_any-false : {A : Type 0} (p : A → Bool) (xs : List A) → ((k : ℕ) (x : A) → slice_get xs k ≡ Some x → p x ≡ false) → list_any p xs
    ≡ false
list_any-false p [] none = refl
list_any-false p (x ∷ xs) none = rw (none 0 x refl) (list_any-false p xs (λ k y found. none (suc k) y found))

pub bytes_equal-false : (a b : List ℕ) → a ≢ b → bytes_equal a b ≡ false
bytes_equal-false a b differ = elim (cases_Bool (bytes_equal a b))
    [ inl equal ↦ absurd (differ (bytes_equal-true a b equal)) | inr other ↦ other ]

pub slice_get-seam : {A : Type 0} (xs ys : List A) (x : A) → slice_get (xs ++ x ∷ ys) (length xs) ≡ Some x
slice_get-seam [] ys x = refl
slice_get-seam (z ∷ xs) ys x = slice_get-seam xs ys x

pub follow_each : (pointer : ℕ) (earlier : List RecordType) (type : RecordType) (front rest : List Field) → IsLaidType pointer earlier type
    → type.fields ≡ front ++ rest
    → FollowEach pointer earlier type.length (stated_all type.fields front) (stated_all type.fields rest)
follow_each pointer earlier type front [] laid split = tt
follow_each pointer earlier type front (field ∷ rest) laid split =
    let all = type.fields in
    let at : slice_get all (length front) ≡ Some field = ap (λ (some : List Field). slice_get some (length front)) split
    ∙ slice_get-seam front rest field in
    let named : (n : ℕ) (other : Field) → slice_get all n ≡ Some other → is_name other.name
    ≡ true = λ n other found. (laid.each_field n other found).named in
    let is = laid_draft pointer earlier type.length all (length front) field named (laid.each_field (length front) field at) in
    let fresh : has_field (stated_all all front) field.name ≡ false =
    list_any-false (λ (f : DraftField). bytes_equal f.name field.name) (stated_all all front)
    (λ k other found.
    let from = slice_get-stated all front k other found in
    let inside = slice_get_within front k from.0 from.1 in
    let there : slice_get all k ≡ Some from.0 = ap (λ (some : List Field). slice_get some k) split
    ∙ slice_get-front front (field ∷ rest) k from.0 from.1 in
    ap (λ (f : DraftField). bytes_equal f.name field.name) (sym from.2)
    ∙ bytes_equal-false from.0.name field.name (laid.names_differ k (length front) from.0 field inside there at)) in
    let more = follow_each pointer earlier type (front ++ field ∷ []) rest laid (split ∙ sym (append_assoc front (field ∷ []) rest)) in (
      record { is = is; fresh = fresh },
      subst (λ (before : List DraftField). FollowEach pointer earlier type.length before
          (stated_all all rest)) (stated_all-push all front field) more,
    )

-- ---- counts

position_found : (p : DraftField → Bool) (drafts : List DraftField) (from k : ℕ) (d : DraftField) → slice_get drafts k ≡ Some d → p d ≡ true
    → ((i : ℕ) (e : DraftField) → i < k → slice_get drafts i ≡ Some e → p e ≡ false)
    → position_from p from drafts ≡ Some (from + k)
position_found p [] from k d found passes others = absurd (cc)
position_found p (first ∷ drafts) from zero d found passes others =
    let here : from + 0 ≡ from = omega arith in
    let same : first ≡ d = cc in
    rw (here, ap p same ∙ passes) refl
position_found p (first ∷ drafts) from (suc k) d found passes others =
    let there : from + suc k ≡ from + 1 + k = omega arith in
    rw (others 0 first (omega arith) refl, there) (position_found p drafts (from + 1) k d found passes
    (λ i e less at. others (suc i) e (omega arith) at))

counts_may : (base : Base) → CountsElements base → may_count base draft.One ≡ true
counts_may (Number Int) counts = refl
counts_may (Number Unsigned) counts = refl
counts_may (Number Char) counts = absurd counts
counts_may (Number Boolean) counts = absurd counts
counts_may (Number Enumeration) counts = absurd counts
counts_may Text counts = absurd counts
counts_may (Nested k) counts = absurd counts

and_false_left : (a b : Bool) → a ≡ false → (a && b) ≡ false
and_false_left a b none = rw none refl

-- the names of the fields differ
abbrev pub NamesDiffer : List Field → Type 0
NamesDiffer fields = (i j : ℕ) (field other : Field) → i < j → slice_get fields i ≡ Some field → slice_get fields j ≡ Some other
    → field.name ≢ other.name

count_found : (all : List Field) (c : ℕ) → NamesDiffer all → IsCountField all c → count_named (stated_all all all) (field_name all c)
    ≡ Some c
count_found all c differ counts =
    let field = counts.0 in
    let name = field_name-get all c field counts.1 in
    let here : 0 + c ≡ c = omega arith in
    let may : may_count field.base (stated_shape all field.shape) ≡ true = ap
    (λ (shape : Shape). may_count field.base (stated_shape all shape)) counts.2 ∙ counts_may field.base counts.3 in
    let equal : bytes_equal field.name (field_name all c) ≡ true = ap (bytes_equal field.name) name ∙ bytes_equal-same field.name in
    let passes : is_count_named (stated_of all field) (field_name all c) ≡ true = rw (equal, may) refl in
    position_found (λ (d : DraftField). is_count_named d (field_name all c)) (stated_all all all) 0 c (stated_of all field)
    (stated-slice_get all all c field counts.1) passes
    (λ i e less found.
    let from = slice_get-stated all all i e found in
    let unlike = differ i c from.0 field less from.1 counts.1 in
    let other : bytes_equal e.name (field_name all c) ≡ false = ap (λ (d : DraftField). bytes_equal d.name (field_name all c)) (sym from.2)
    ∙ ap (bytes_equal from.0.name) name ∙ bytes_equal-false from.0.name field.name unlike in
    and_false_left (bytes_equal e.name (field_name all c)) (may_count e.base e.shape) other)
    ∙ ap (λ (n : ℕ). Some n) here

shape_again : (all : List Field) (shape : Shape) → NamesDiffer all → HasShape all shape
    → shape_in (stated_all all all) (stated_shape all shape) ≡ Some shape
unfolding shape_in
shape_again all One differ has = refl
shape_again all (Fixed n) differ has = refl
shape_again all (Counted c) differ has = ap counted_by (count_found all c differ has)

counted_again_from : (number n : ℕ) (drafts : List DraftField) (all rest : List Field)
    → ((k : ℕ) (field : Field) → slice_get rest k ≡ Some field → shape_in drafts (stated_shape all field.shape) ≡ Some field.shape)
    → counted_fields number n drafts (stated_all all rest) ≡ Ok rest
unfolding counted_fields
counted_again_from number n drafts all [] each = refl
counted_again_from number n drafts all (field ∷ rest) each =
    let later = counted_again_from number (n + 1) drafts all rest (λ k f found. each (suc k) f found) in
    let with_shape : Shape → Result (List Field) LayoutFault = λ shape. counted_fields number (n + 1) drafts (stated_all all rest)
    >>= λ others. Ok (field_with (stated_of all field) shape ∷ others) in
    ap (λ (o : Option Shape). ok_or o (CountField number n) >>= with_shape) (each 0 field refl)
    ∙ ap (λ (r : Result (List Field) LayoutFault). r >>= λ others. Ok (field ∷ others)) later

-- fields whose names differ and whose shapes are allowed are counted as they are
pub counted_again : (all : List Field) (number : ℕ) → NamesDiffer all
    → ((k : ℕ) (field : Field) → slice_get all k ≡ Some field → HasShape all field.shape)
    → counted_fields number 0 (stated_all all all) (stated_all all all) ≡ Ok all
counted_again all number differ has = counted_again_from number 0 (stated_all all all) all all
    (λ k field found. shape_again all field.shape differ (has k field found))

-- ---- defaults

not_counted_by : (shape : Shape) (k : ℕ) → shape ≢ Counted k → is_counted_by shape k ≡ false
not_counted_by One k other = refl
not_counted_by (Fixed n) k other = refl
not_counted_by (Counted c) k other = elim (cases_Bool (nat_eq c k))
    [ inl equal ↦ absurd (other (ap (λ (n : ℕ). Counted n) (eqb-true c k equal))) | inr differs ↦ differs ]

and_false_right : (a b : Bool) → b ≡ false → (a && b) ≡ false
and_false_right true b none = none
and_false_right false b none = refl

not_defaulted : (all : List Field) (k : ℕ) (field : Field) → (field.fallback ≡ pos 0) ⊎ StatesDefault all k field
    → is_defaulted_count all k field ≡ false
not_defaulted all k field (inl none) = ap (λ (b : Bool). not b && is_count all k) ((Decides-int_eq field.fallback (pos 0)).1 none)
not_defaulted all k field (inr states) =
    let none : is_count all k ≡ false = list_any-false (λ (f : Field). is_counted_by f.shape k) all
    (λ i other found. not_counted_by other.shape k (states.counts_nothing i other found)) in
    and_false_right (not (int_eq field.fallback (pos 0))) (is_count all k) none

none_with_default : (all : List Field) (n : ℕ) (rest : List Field)
    → ((k : ℕ) (field : Field) → slice_get rest k ≡ Some field → is_defaulted_count all (n + k) field ≡ false)
    → count_with_default all n rest ≡ None
none_with_default all n [] each = refl
none_with_default all n (field ∷ rest) each =
    let here : n + 0 ≡ n = omega arith in
    let first : is_defaulted_count all n field ≡ false = rw here at (each 0 field refl) in
    let later = none_with_default all (n + 1) rest (λ k f found. let there : n + suc k ≡ n + 1 + k = omega arith in
    rw there at (each (suc k) f found)) in
    ap (λ (b : Bool). cond b (Some n) (count_with_default all (n + 1) rest)) first ∙ later

pub no_count_default : (all : List Field) → ((k : ℕ) (field : Field) → slice_get all k ≡ Some field
    → (field.fallback ≡ pos 0) ⊎ StatesDefault all k field) → count_with_default all 0 all ≡ None
no_count_default all allowed = none_with_default all 0 all
    (λ k field found. let here : 0 + k ≡ k = omega arith in rw here (not_defaulted all k field (allowed k field found)))

-- ---- overlaps

apart_test : (pointer : ℕ) (field other : Field) → AreApart pointer field other → are_apart pointer field other ≡ true
apart_test pointer field other (inl before) = ap (λ (b : Bool). b || nat_le (other.offset + extent pointer other) field.offset)
    (le-leb (field.offset + extent pointer field) other.offset before)
apart_test pointer field other (inr behind) = or_second (nat_le (field.offset + extent pointer field) other.offset)
    (nat_le (other.offset + extent pointer other) field.offset) (le-leb (other.offset + extent pointer other) field.offset behind)

none_overlaps : (pointer : ℕ) (field : Field) (n : ℕ) (others : List Field)
    → ((k : ℕ) (other : Field) → slice_get others k ≡ Some other → AreApart pointer field other) → overlap_with pointer field n others
    ≡ None
none_overlaps pointer field n [] each = refl
none_overlaps pointer field n (other ∷ others) each =
    ap (λ (b : Bool). cond b (overlap_with pointer field (n + 1) others) (Some n)) (apart_test pointer field other (each 0 other refl))
    ∙ none_overlaps pointer field (n + 1) others (λ k o found. each (suc k) o found)

no_overlap_from : (pointer n : ℕ) (rest : List Field)
    → ((i j : ℕ) (field other : Field) → i < j → slice_get rest i ≡ Some field → slice_get rest j ≡ Some other
    → AreApart pointer field other) → first_overlap pointer n rest ≡ None
no_overlap_from pointer n [] each = refl
no_overlap_from pointer n (field ∷ rest) each =
    let first = none_overlaps pointer field (n + 1) rest (λ k other found. each 0 (suc k) field other (omega arith) refl found) in
    let later = no_overlap_from pointer (n + 1) rest
    (λ i j f other less found found'. each (suc i) (suc j) f other (omega arith) found found') in
    ap (λ (o : Option ℕ). first_pair n o (first_overlap pointer (n + 1) rest)) first ∙ later

pub no_overlap : (pointer : ℕ) (earlier : List RecordType) (type : RecordType) → IsLaidType pointer earlier type
    → first_overlap pointer 0 type.fields ≡ None
no_overlap pointer earlier type laid = no_overlap_from pointer 0 type.fields laid.apart
