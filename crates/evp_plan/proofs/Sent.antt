-- What a sender's record holds at its fields, as a walk read it.
use Rattle.std.proofs.Common.{◌≡◌, ℕ, zero, suc, ◌+◌, ◌*◌, ℤ, pos, negsuc, Bool, true, false, ◌||◌, nat_lt, nat_eq, not, List, []}
use Rattle.std.proofs.Common.{◌∷◌, ◌++◌, length, drop, Option, Some, None, refl, ap, ◌∙◌, subst}
use Rattle.std.specs.Prelude.{if◌then◌else◌, slice_get, ⊤}
use Rattle.evp_format.specs.declared.broken.Broken.{Broken}
use Rattle.evp_format.specs.declared.broken.Broken.TheVariants.{NullList, BlockPlace}
use Rattle.evp_format.specs.declared.field.Field.{Field}
use Rattle.evp_format.specs.declared.field.Shape.{Shape}
use Rattle.evp_format.specs.declared.field.Shape.TheVariants.{One, Fixed, Counted}
use Rattle.evp_format.specs.declared.place.PlaceStep.{PlaceStep}
use Rattle.evp_format.specs.declared.place.PlaceStep.TheVariants.{At, Nth}
use Rattle.evp_format.specs.Bytes.{bytes_equal}
use Rattle.evp_format.specs.Clashing.{branch_named}
use Rattle.evp_format.specs.Datum.{Datum, num, list, rec, Elements, empty_list, element, Entries, empty_record, entry, named}
use Rattle.evp_format.specs.Datum.{count_of}
use Rattle.evp_format.specs.Tree.{tree, Branches, no_fields, branch, Part, number_part, text_part, tree_part, branch_at}
use Rattle.evp_format.specs.Viewing.{Image, Walked, read, broken, then_walk, unless, view_branches, view_part, view_shaped}
use Rattle.evp_format.specs.Viewing.{view_counted, view_elements, view_string, ended_text, until_zero, as_list, pointer_at, field_number}
use Rattle.evp_plan.specs.declared.step.Run.{Run}
use Rattle.evp_plan.specs.Matching.{Content, content_of, known_branches, known_named, number_origin, run_by}
use Rattle.evp_plan.specs.Standing.{origin_number, ended, text_by, text_from, run_count, element_place}
use Rattle.evp_base.specs.declared.kind.Kind.{Kind}
use Rattle.evp_base.specs.Numbers.{number}
use Rattle.evp_format.specs.Bytes.{bytes_at}
use Rattle.evp_format.specs.Zero.{as_count}
use Rattle.evp_plan.proofs.Alikes.{is_array}

-- a walk in two steps that reads something read something in the first
pub record ThenRead {A B : Type 0} (walked : Walked A) (next : A → ℕ → Walked B) (value : B) (end : ℕ) : Type 0 where
  pub first : A
  pub mark : ℕ
  pub before : walked ≡ read first mark
  pub behind : next first mark ≡ read value end

pub then_read : {A B : Type 0} (walked : Walked A) (next : A → ℕ → Walked B) (value : B) (end : ℕ) → then_walk walked next ≡ read value end
    → ThenRead walked next value end
then_read (read first mark) next value end is = record { first = first; mark = mark; before = refl; behind = is }
then_read (broken fault) next value end is = cc

-- a test that a walk passed
pub passed : {A : Type 0} (test : Bool) (fault : Broken) (next : Unit {0} → Walked A) (value : A) (end : ℕ)
    → unless test fault next ≡ read value end → (test ≡ false) × (next tt ≡ read value end)
passed true fault next value end is = cc
passed false fault next value end is = (refl, is)

-- a part of this size stands at s, and this is its value
pub record PartSent (image : Image) (part : Part) (size s : ℕ) (value : Datum) : Type 0 where
  pub place : List PlaceStep
  pub mark : ℕ
  pub end : ℕ
  pub walked : view_part image part size s place mark ≡ read value end

-- a field of the record at `at`, of this shape, and its value
pub record FieldSent (image : Image) (all : Branches) (at : ℕ) (field : Field) (shape : Shape) (part : Part) (value : Datum) : Type 0 where
  pub place : List PlaceStep
  pub mark : ℕ
  pub end : ℕ
  pub walked : view_shaped image all field shape at place (λ offset place' after. view_part image part field.size offset place' after) mark
      ≡ read value end

-- a record with these fields stands at `at`
pub record RecordSent (image : Image) (from : Branches) (at : ℕ) (entries : Entries) : Type 0 where
  pub place : List PlaceStep
  pub mark : ℕ
  pub end : ℕ
  pub walked : view_branches image from from at 0 place mark ≡ read entries end

-- a record without fields stands anywhere
pub nothing_sent : (image : Image) (at : ℕ) → RecordSent image no_fields at empty_record
nothing_sent image at = record { place = []; mark = 0; end = 0; walked = refl }

-- the field of a name, and the value of that name
abbrev pub IsPartner : Image → Branches → ℕ → Option (Field × Part) → Option Datum → Type 0
IsPartner image all at None None = ⊤
IsPartner image all at None (Some value) = ⊥
IsPartner image all at (Some (field, part)) None = ⊥
IsPartner image all at (Some (field, part)) (Some value) = FieldSent image all at field field.shape part value

partner_by : (image : Image) (all rest : Branches) (at : ℕ) (name : List ℕ) (field : Field) (part : Part) (value : Datum) (others : Entries)
    (same : Bool)
    → FieldSent image all at field field.shape part value → IsPartner image all at (branch_named name rest) (named name others)
    → IsPartner image all at (if same then Some (field, part) else branch_named name rest) (if same then Some value else named name others)
partner_by image all rest at name field part value others true here behind = here
partner_by image all rest at name field part value others false here behind = behind

partner_among : (image : Image) (all from : Branches) (at k : ℕ) (place : List PlaceStep) (mark : ℕ) (entries : Entries) (end : ℕ)
    (name : List ℕ)
    → view_branches image all from at k place mark ≡ read entries end → IsPartner image all at (branch_named name from) (named name entries)
partner_among image all no_fields at k place mark entries end name walked =
    let none : empty_record ≡ entries = cc in
    let P : Entries → Type 0 = λ e. IsPartner image all at None (named name e) in
    subst P none tt
partner_among image all (branch field part rest) at k place mark entries end name walked =
    let shaped : Walked Datum = view_shaped image all field field.shape at (place ++ At k ∷ [])
    (λ offset place' m. view_part image part field.size offset place' m) mark in
    let others : ℕ → Walked Entries = λ after. view_branches image all rest at (suc k) place after in
    let one = then_read shaped (λ value after. then_walk (others after) (λ some last. read (entry field.name value some) last)) entries end
    walked in
    let more = then_read (others one.mark) (λ some last. read (entry field.name one.first some) last) entries end one.behind in
    let made : entry field.name one.first more.first ≡ entries = cc more.behind in
    let behind = partner_among image all rest at (suc k) place one.mark more.first more.mark name more.before in
    let P : Entries → Type 0 = λ e. IsPartner image all at (branch_named name (branch field part rest)) (named name e) in
    subst P made
    (partner_by image all rest at name field part one.first more.first (bytes_equal name field.name)
    (record { place = place ++ At k ∷ []; mark = mark; end = one.mark; walked = one.before }) behind)

pub partner : (image : Image) (from : Branches) (at : ℕ) (entries : Entries) (name : List ℕ) → RecordSent image from at entries
    → IsPartner image from at (branch_named name from) (named name entries)
partner image from at entries name sent = partner_among image from from at 0 sent.place sent.mark entries sent.end name sent.walked

-- ---- fields by name and number

abbrev pub known_of : Option (Field × Part) → Option (Field × Content)
known_of None = None
known_of (Some (field, part)) = Some (field, content_of part)

known_if : (same : Bool) (field : Field) (part : Part) (rest : Option (Field × Part)) (rest' : Option (Field × Content))
    → rest' ≡ known_of rest
    → (if same then Some (field, content_of part) else rest') ≡ known_of (if same then Some (field, part) else rest)
known_if true field part rest rest' same = refl
known_if false field part rest rest' same = same

pub known_named-branches : (name : List ℕ) (branches : Branches)
    → known_named name (known_branches branches) ≡ known_of (branch_named name branches)
known_named-branches name no_fields = refl
known_named-branches name (branch field part rest) =
    known_if (bytes_equal name field.name) field part (branch_named name rest) (known_named name (known_branches rest))
    (known_named-branches name rest)

pub slice_get-known : (branches : Branches) (k : ℕ) → slice_get (known_branches branches) k ≡ known_of (branch_at branches k)
slice_get-known no_fields k = refl
slice_get-known (branch field part rest) zero = refl
slice_get-known (branch field part rest) (suc k) = slice_get-known rest k

-- ---- single parts

pub number_sent : (image : Image) (kind : Kind) (size s : ℕ) (value : Datum) → PartSent image (number_part kind) size s value
    → num (number image.order kind (bytes_at s size image.bytes)) ≡ value
number_sent image kind size s value sent = let is = sent.walked in cc

ended_read : (place : List PlaceStep) (q : ℕ) (found : Option (List ℕ)) (value : Datum) (end : ℕ)
    → ended_text place q found ≡ read value end → ended found ≡ value
ended_read place q None value end is = cc
ended_read place q (Some bytes) value end is = cc

-- a text is what its pointer leads to
text_read : (image : Image) (place : List PlaceStep) (mark q : ℕ) (value : Datum) (end : ℕ)
    → view_string image place mark q ≡ read value end → text_from image q ≡ value
text_read image place mark zero value end is = cc
text_read image place mark (suc p) value end is =
    let found = until_zero (drop (suc p) image.bytes) in
    let ok = passed (nat_lt (suc p) mark || not (nat_lt (suc p) (length image.bytes))) (BlockPlace place)
    (λ _. ended_text place (suc p) found) value end is in
    ended_read place (suc p) found value end ok.1

pub text_sent : (image : Image) (size s : ℕ) (value : Datum) → PartSent image text_part size s value → text_by image s ≡ value
text_sent image size s value sent = text_read image sent.place sent.mark (pointer_at image s) value sent.end sent.walked

-- a record's entries
pub record EntriesSent (image : Image) (nested : Branches) (s : ℕ) (value : Datum) : Type 0 where
  pub entries : Entries
  pub made : value ≡ rec entries
  pub sent : RecordSent image nested s entries

pub record_sent : (image : Image) (length : ℕ) (nested : Branches) (size s : ℕ) (value : Datum)
    → PartSent image (tree_part (tree length nested)) size s value → EntriesSent image nested s value
record_sent image length nested size s value part_sent =
    let entered = then_read (view_branches image nested nested s 0 part_sent.place part_sent.mark)
    (λ entries after. read (rec entries) after) value part_sent.end part_sent.walked in
    let made : value ≡ rec entered.first = cc entered.behind in
    record {
      entries = entered.first;
      made = made;
      sent = record
          { place = part_sent.place; mark = part_sent.mark; end = entered.mark; walked = entered.before };
    }

-- a single field is its part
pub single_sent : (image : Image) (all : Branches) (at : ℕ) (field : Field) (part : Part) (value : Datum)
    → FieldSent image all at field One part value
    → PartSent image part field.size (at + field.offset) value
single_sent image all at field part value sent = record { place = sent.place; mark = sent.mark; end = sent.end; walked = sent.walked }

-- ---- arrays

-- elements k, k + 1 and so on stand at their places
abbrev pub EachSent : Image → Part → ℕ → (ℕ → ℕ) → ℕ → Elements → Type 0
EachSent image part size place k empty_list = ⊤
EachSent image part size place k (element value rest) = PartSent image part size (place k) value
    × EachSent image part size place (suc k) rest

elements_sent : (image : Image) (part : Part) (size start : ℕ) (place : List PlaceStep) (n k mark : ℕ) (elements : Elements) (end : ℕ)
    → view_elements (λ i after. view_part image part size (start + i * size) (place ++ Nth i ∷ []) after) n k mark ≡ read elements end
    → (n ≡ count_of elements) × EachSent image part size (λ i. start + i * size) k elements
elements_sent image part size start place zero k mark elements end walked =
    let none : empty_list ≡ elements = cc in
    let P : Elements → Type 0 = λ e. (0 ≡ count_of e) × EachSent image part size (λ i. start + i * size) k e in
    subst P none (refl, tt)
elements_sent image part size start place (suc n) k mark elements end walked =
    let one : ℕ → ℕ → Walked Datum = λ i after. view_part image part size (start + i * size) (place ++ Nth i ∷ []) after in
    let others : ℕ → Walked Elements = λ after. view_elements one n (suc k) after in
    let first = then_read (one k mark) (λ value after. then_walk (others after) (λ some last. read (element value some) last)) elements end
    walked in
    let more = then_read (others first.mark) (λ some last. read (element first.first some) last) elements end first.behind in
    let made : element first.first more.first ≡ elements = cc more.behind in
    let rest = elements_sent image part size start place n (suc k) first.mark more.first more.mark more.before in
    let P : Elements → Type 0 = λ e. (suc n ≡ count_of e) × EachSent image part size (λ i. start + i * size) k e in
    subst P made (ap suc rest.0, (record { place = place ++ Nth k ∷ []; mark = mark; end = first.mark; walked = first.before }, rest.1))

-- the elements of the sender's array
abbrev pub ArraySent : Image → ℕ → Part → ℕ → Option Run → Elements → Type 0
ArraySent image at part size None elements = ⊥
ArraySent image at part size (Some run) elements = (run_count image at run ≡ count_of elements)
    × EachSent image part size (λ k. element_place image at run k) 0 elements

pub record ElementsSent (image : Image) (at : ℕ) (part : Part) (size : ℕ) (run : Option Run) (value : Datum) : Type 0 where
  pub elements : Elements
  pub made : value ≡ list elements
  pub sent : ArraySent image at part size run elements

list_sent : (image : Image) (part : Part) (size start : ℕ) (place : List PlaceStep) (n mark : ℕ) (value : Datum) (end : ℕ)
    → as_list (view_elements (λ i after. view_part image part size (start + i * size) (place ++ Nth i ∷ []) after) n 0 mark)
    ≡ read value end
    → (elements : Elements) × (value ≡ list elements) × (n ≡ count_of elements)
    × EachSent image part size (λ i. start + i * size) 0 elements
list_sent image part size start place n mark value end walked =
    let inner = then_read (view_elements (λ i after. view_part image part size (start + i * size) (place ++ Nth i ∷ []) after) n 0 mark)
    (λ elements m. read (list elements) m) value end walked in
    let made : value ≡ list inner.first = cc inner.behind in
    let each = elements_sent image part size start place n 0 mark inner.first inner.mark inner.before in
    (inner.first, made, each.0, each.1)

-- the number of a count field
pub origin_of_count : (image : Image) (at : ℕ) (found : Option (Field × Part))
    → origin_number image at (number_origin (known_of found) (pos 0)) ≡ field_number image at found
origin_of_count image at None = refl
origin_of_count image at (Some (field, number_part kind)) = refl
origin_of_count image at (Some (field, text_part)) = refl
origin_of_count image at (Some (field, tree_part nested)) = refl

pub origin_of_own_count : (image : Image) (at : ℕ) (all : Branches) (c : ℕ)
    → origin_number image at (number_origin (slice_get (known_branches all) c) (pos 0)) ≡ field_number image at (branch_at all c)
origin_of_own_count image at all c =
    ap (λ (found : Option (Field × Content)). origin_number image at (number_origin found (pos 0))) (slice_get-known all c)
    ∙ origin_of_count image at (branch_at all c)

counted_sent : (image : Image) (part : Part) (size : ℕ) (place : List PlaceStep) (z : ℤ) (q mark : ℕ) (value : Datum) (end : ℕ)
    → view_counted image place z q size (λ offset k after. view_part image part size offset (place ++ Nth k ∷ []) after) mark
    ≡ read value end
    → (elements : Elements) × (value ≡ list elements) × (as_count z ≡ count_of elements)
    × EachSent image part size (λ i. q + i * size) 0 elements
counted_sent image part size place (negsuc n) q mark value end walked = cc
counted_sent image part size place (pos zero) q mark value end walked = let made : value
    ≡ list empty_list = cc in (empty_list, made, refl, tt)
counted_sent image part size place (pos (suc n)) q mark value end walked =
    let inside : Walked Datum = as_list (view_elements (λ k after. view_part image part size (q + k * size) (place ++ Nth k ∷ []) after)
    (suc n) 0 (q + suc n * size)) in
    let test : Bool = nat_lt q mark || nat_lt (length image.bytes) (q + suc n * size) in
    let first = passed (nat_eq q 0) (NullList place) (λ _. unless test (BlockPlace place) (λ _. inside)) value end walked in
    let second = passed test (BlockPlace place) (λ _. inside) value end first.1 in
    list_sent image part size q place (suc n) (q + suc n * size) value end second.1

pub array_sent : (image : Image) (all : Branches) (at : ℕ) (field : Field) (shape : Shape) (part : Part) (value : Datum)
    → is_array shape ≡ true → FieldSent image all at field shape part value
    → ElementsSent image at part field.size (run_by (known_branches all) field shape) value
array_sent image all at field One part value arrayed sent = cc
array_sent image all at field (Fixed n) part value arrayed sent =
    let given = list_sent image part field.size (at + field.offset) sent.place n sent.mark value sent.end sent.walked in
    record { elements = given.0; made = given.1; sent = (given.2, given.3) }
array_sent image all at field (Counted c) part value arrayed sent =
    let given = counted_sent image part field.size sent.place (field_number image at (branch_at all c))
    (pointer_at image (at + field.offset)) sent.mark value sent.end sent.walked in
    record { elements = given.0; made = given.1; sent = (ap as_count (origin_of_own_count image at all c) ∙ given.2, given.3) }
