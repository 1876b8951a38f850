-- What a record that is reached holds at its fields.
use Rattle.std.proofs.Common.{◌≡◌, ℕ, zero, suc, ◌+◌, ◌*◌, ◌<◌, ◌≤◌, ℤ, pos, negsuc, Bool, true, false, ◌||◌, nat_lt, nat_eq, List, [], ◌∷◌}
use Rattle.std.proofs.Common.{◌++◌, length, Option, Some, Result, Ok, refl, sym, ap, ◌∙◌, subst, arith}
use Rattle.std.specs.Prelude.{slice_get, option_map, IsOk}
use Rattle.std.proofs.Math.Nat.{mul-le-mul_left}
use Rattle.std.proofs.lemmas.Bool.Decides.{nat_tests}
use Rattle.evp_format.specs.declared.broken.Broken.{Broken}
use Rattle.evp_format.specs.declared.broken.Broken.TheVariants.{NullList, BlockPlace}
use Rattle.evp_format.specs.declared.field.Field.{Field}
use Rattle.evp_format.specs.declared.field.Base.{Base}
use Rattle.evp_format.specs.declared.field.Base.TheVariants.{Number, Text, Nested}
use Rattle.evp_format.specs.declared.field.Shape.{Shape}
use Rattle.evp_format.specs.declared.field.Shape.TheVariants.{One, Fixed, Counted}
use Rattle.evp_format.specs.declared.place.PlaceStep.{PlaceStep}
use Rattle.evp_format.specs.declared.place.PlaceStep.TheVariants.{At, Nth}
use Rattle.evp_format.specs.Datum.{Datum, text, list, rec, empty_list, Entries, empty_record, entry, entry_at}
use Rattle.evp_format.specs.Layout.{Layout}
use Rattle.evp_format.specs.Tree.{Tree, Branches, branch, Part, part_of, branches_of, resolved, trees}
use Rattle.evp_format.specs.Viewing.{Image, Walked, read, then_walk, unless, view_tree, view_branches, view_part, view_shaped, view_counted}
use Rattle.evp_format.specs.Viewing.{view_string, as_list, pointer_at, viewed, image_of}
use Rattle.evp_format.specs.WellLaid.{IsWellLaid}
use Rattle.evp_record.specs.Class.{type_fields, Class, Content, texts, field_at, class_at, class_of, content_of, shaped, IsSingle, IsArray}
use Rattle.evp_record.specs.Parts.{field_value, list_length, IsBelow}
use Rattle.evp_record.specs.Record.{Record, value_or_null}
use Rattle.evp_record.specs.Spots.{IsReached, walk_at, value_at, part_at, part_value, value_there, IsPartAt, start_by, elements_start}
use Rattle.evp_record.specs.Walks.{all_branches, branches_in, part_in, walk_field, walk_part, walk_elements, count_number}
use Rattle.evp_record.specs.declared.spot.Spot.{Spot}
use Rattle.evp_format.proofs.Trees.{tree_of-resolved, found_below}
use Rattle.evp_record.proofs.Entries.{name_at, entries_in, entries_count}
use Rattle.evp_format.proofs.LaidBases.{sized_among_all}
use Rattle.evp_record.proofs.Laid.{type_fields-found, LaidAt, laid_at, inside, extent_of_one, extent_of_fixed, nested_at, count_below}
use Rattle.evp_record.proofs.Lowered.{ReadsAlike-part, viewed-alike}
use Rattle.evp_record.proofs.ReadLists.{then_read, read_of_ok, ListRead, list_read}
use Rattle.evp_record.proofs.ReadLists.{list_length-read}

-- a field and the others
record BranchRead (image : Image) (all : Branches) (field : Field) (part : Part) (rest : Branches) (at j : ℕ) (place : List PlaceStep)
    (mark : ℕ) (entries : Entries) : Type 0 where
  value : Datum
  after : ℕ
  others : Entries
  last : ℕ
  made : entries ≡ entry field.name value others
  here : view_shaped image all field field.shape at (place ++ At j ∷ [])
      (λ offset place' m. view_part image part field.size offset place' m) mark ≡ read value after
  behind : view_branches image all rest at (suc j) place after ≡ read others last

branch_read : (image : Image) (all : Branches) (field : Field) (part : Part) (rest : Branches) (at j : ℕ) (place : List PlaceStep)
    (mark : ℕ) (entries : Entries) (end : ℕ)
    → view_branches image all (branch field part rest) at j place mark ≡ read entries end
    → BranchRead image all field part rest at j place mark entries
branch_read image all field part rest at j place mark entries end walked =
    let shaped : Walked Datum = view_shaped image all field field.shape at (place ++ At j ∷ [])
    (λ offset place' m. view_part image part field.size offset place' m) mark in
    let others : ℕ → Walked Entries = λ after. view_branches image all rest at (suc j) place after in
    let one = then_read shaped (λ value after. then_walk (others after) (λ some last. read (entry field.name value some) last)) entries end
    walked in
    let more = then_read (others one.mark) (λ some last. read (entry field.name one.first some) last) entries end one.behind in
    let made : entries ≡ entry field.name one.first more.first = cc more.behind in
    record {
      value = one.first;
      after = one.mark;
      others = more.first;
      last = more.mark;
      made = made;
      here = one.before;
      behind = more.before;
    }

-- the field of number k among these
record FieldRead (image : Image) (all : Branches) (at : ℕ) (field : Field) (part : Part) (entries : Entries) (k : ℕ) : Type 0 where
  value : Datum
  place : List PlaceStep
  mark : ℕ
  end : ℕ
  found : entry_at entries k ≡ Some value
  named : name_at entries k ≡ Some field.name
  walked : view_shaped image all field field.shape at place (λ offset place' m. view_part image part field.size offset place' m) mark
      ≡ read value end

field_read : (image : Image) (all : Branches) (earlier : List Tree) (fields : List Field) (at j : ℕ) (place : List PlaceStep) (mark : ℕ)
    (entries : Entries) (end : ℕ) (k : ℕ) (field : Field)
    → view_branches image all (branches_of earlier fields) at j place mark ≡ read entries end → slice_get fields k ≡ Some field
    → FieldRead image all at field (part_of earlier field.base) entries k
field_read image all earlier [] at j place mark entries end k field walked found = cc
field_read image all earlier (first ∷ fields) at j place mark entries end zero field walked found =
    let b = branch_read image all first (part_of earlier first.base) (branches_of earlier fields) at j place mark entries end walked in
    let same : first ≡ field = cc in
    let P : Field → Type 0 = λ f. FieldRead image all at f (part_of earlier f.base) entries zero in
    subst P same (record {
      value = b.value;
      place = place ++ At j ∷ [];
      mark = mark;
      end = b.after;
      found = ap (λ (e : Entries). entry_at e zero) b.made;
      named = ap (λ (e : Entries). name_at e zero) b.made;
      walked = b.here;
    })
field_read image all earlier (first ∷ fields) at j place mark entries end (suc k) field walked found =
    let b = branch_read image all first (part_of earlier first.base) (branches_of earlier fields) at j place mark entries end walked in
    let later = field_read image all earlier fields at (suc j) place b.after b.others b.last k field b.behind found in
    record {
      value = later.value;
      place = later.place;
      mark = later.mark;
      end = later.end;
      found = ap (λ (e : Entries). entry_at e (suc k)) b.made ∙ later.found;
      named = ap (λ (e : Entries). name_at e (suc k)) b.made ∙ later.named;
      walked = later.walked;
    }

-- field k of a record that is reached, as a walk read it
pub record PartRead (held : Record) (spot : Spot) (k : ℕ) (field : Field) : Type 0 where
  pub laid : LaidAt held.layout spot.type_number k field
  pub value : Datum
  pub place : List PlaceStep
  pub mark : ℕ
  pub end : ℕ
  pub part : part_at held spot k ≡ Some value
  pub named : name_at (entries_in (value_at held spot)) k ≡ Some field.name
  pub walked : walk_field held.layout held.bytes spot field place mark ≡ read value end

pub part_read : (held : Record) (spot : Spot) (k : ℕ) (field : Field) → IsWellLaid held.layout → IsReached held spot
    → field_at held.layout spot.type_number k ≡ Some field
    → PartRead held spot k field
part_read held spot k field laid reached there =
    let layout = held.layout in
    let image = image_of layout held.bytes in
    let at = laid_at layout spot.type_number k field laid there in
    let whole = read_of_ok (walk_at held spot) reached.walked in
    let branches = branches_of (trees layout.types) at.type.fields in
    let opened : view_tree image (resolved (trees layout.types) at.type) spot.at [] 0 ≡ read whole.value whole.end =
    ap (λ (t : Tree). view_tree image t spot.at [] 0) (sym at.tree) ∙ whole.is in
    let entered = then_read (view_branches image branches branches spot.at 0 [] 0) (λ entries after. read (rec entries) after) whole.value
    whole.end opened in
    let made : whole.value ≡ rec entered.first = cc entered.behind in
    let value : value_at held spot ≡ rec entered.first = ap (λ (w : Walked Datum). value_or_null (viewed w)) whole.is ∙ made in
    let one = field_read image branches (trees layout.types) at.type.fields spot.at 0 [] 0 entered.first entered.mark k field entered.before
    at.field_there in
    let all : branches ≡ all_branches layout spot.type_number = ap branches_in (sym at.tree) in
    record {
      laid = at;
      value = one.value;
      place = one.place;
      mark = one.mark;
      end = one.end;
      part = ap (λ (d : Datum). field_value d k) value ∙ one.found;
      named = ap (λ (d : Datum). name_at (entries_in d) k) value ∙ one.named;
      walked =
          ap (λ (b : Branches). view_shaped image b field field.shape spot.at one.place
          (λ offset place' m. walk_part layout held.bytes field offset place' m) one.mark) (sym all) ∙ one.walked;
    }

-- a single field holds its part
pub single_read : (held : Record) (spot : Spot) (k : ℕ) (field : Field) (read : PartRead held spot k field) → field.shape ≡ One
    → part_value held field (spot.at + field.offset) ≡ Ok read.value
single_read held spot k field r alone =
    let image = image_of held.layout held.bytes in
    let here = walk_part held.layout held.bytes field (spot.at + field.offset) r.place r.mark in
    let shaped : walk_field held.layout held.bytes spot field r.place r.mark ≡ here =
    ap (λ (shape : Shape). view_shaped image (all_branches held.layout spot.type_number) field shape spot.at r.place
    (λ offset place' m. walk_part held.layout held.bytes field offset place' m) r.mark) alone in
    viewed-alike here (walk_part held.layout held.bytes field (spot.at + field.offset) [] 0) r.value r.end
    (ReadsAlike-part image (part_in held.layout field) field.size (spot.at + field.offset) r.place [] r.mark 0 (omega arith))
    (sym shaped ∙ r.walked)

-- ---- arrays

-- a static array
pub fixed_read : (held : Record) (spot : Spot) (k : ℕ) (field : Field) (r : PartRead held spot k field) (n : ℕ) → field.shape ≡ Fixed n
    → ListRead held field r.value (spot.at + field.offset) n
fixed_read held spot k field r n fixed =
    let image = image_of held.layout held.bytes in
    let shaped = ap (λ (shape : Shape). view_shaped image (all_branches held.layout spot.type_number) field shape spot.at r.place
    (λ offset place' m. walk_part held.layout held.bytes field offset place' m) r.mark) fixed in
    list_read held field r.value (spot.at + field.offset) n r.mark r.end r.place (sym shaped ∙ r.walked)

-- a counted array: its count isn't negative, and a block that isn't empty is inside the bytes
pub record CountedRead (held : Record) (spot : Spot) (field : Field) (value : Datum) (count : ℕ) : Type 0 where
  pub n : ℕ
  pub counts : count_number held.layout held.bytes spot count ≡ pos n
  pub inside : 0 < n → pointer_at (image_of held.layout held.bytes) (spot.at + field.offset) + n * field.size ≤ length held.bytes
  pub listed : ListRead held field value (pointer_at (image_of held.layout held.bytes) (spot.at + field.offset)) n

-- the walk past a test that failed
past_test : {A : Type 0} (test : Bool) (fault : Broken) (next : Unit {0} → Walked A) (value : A) (end : ℕ)
    → unless test fault next ≡ read value end → (test ≡ false) × (next tt ≡ read value end)
past_test true fault next value end is = cc
past_test false fault next value end is = (refl, is)

counted_read_by : (held : Record) (spot : Spot) (field : Field) (place : List PlaceStep) (mark : ℕ) (value : Datum) (end count : ℕ) (z : ℤ)
    → count_number held.layout held.bytes spot count ≡ z
    → view_counted (image_of held.layout held.bytes) place z (pointer_at (image_of held.layout held.bytes) (spot.at + field.offset))
    field.size
    (λ offset k m. walk_part held.layout held.bytes field offset (place ++ Nth k ∷ []) m) mark ≡ read value end
    → CountedRead held spot field value count
counted_read_by held spot field place mark value end count (negsuc n) counts walked = cc
counted_read_by held spot field place mark value end count (pos zero) counts walked =
    let q = pointer_at (image_of held.layout held.bytes) (spot.at + field.offset) in
    let made : value ≡ list empty_list = cc in
    record {
      n = 0;
      counts = counts;
      inside = λ some. absurd (omega (arith, some));
      listed = record { elements = empty_list; made = made; place = place; mark = mark; end = mark; walked = refl };
    }
counted_read_by held spot field place mark value end count (pos (suc n)) counts walked =
    let bytes = held.bytes in
    let q = pointer_at (image_of held.layout bytes) (spot.at + field.offset) in
    let block : ℕ = q + suc n * field.size in
    let elements : Walked Datum = as_list (walk_elements held.layout bytes field q place (suc n) 0 block) in
    let present = past_test (nat_eq q 0) (NullList place) (λ _. unless (nat_lt q mark || nat_lt (length bytes) block) (BlockPlace place)
    (λ _. elements)) value end walked in
    let within = past_test (nat_lt q mark || nat_lt (length bytes) block) (BlockPlace place) (λ _. elements) value end present.1 in
    let fits : block ≤ length bytes = block_fits (nat_lt q mark) (length bytes) block within.0 in
    record { n = suc n; counts = counts; inside = λ _. fits; listed = list_read held field value q (suc n) block end place within.1 }
  where
    block_fits : (before : Bool) (room block : ℕ) → (before || nat_lt room block) ≡ false → block ≤ room
    block_fits true room block passed = cc
    block_fits false room block passed = grind (arith, nat_tests)

pub counted_read : (held : Record) (spot : Spot) (k : ℕ) (field : Field) (r : PartRead held spot k field) (count : ℕ)
    → field.shape ≡ Counted count → CountedRead held spot field r.value count
counted_read held spot k field r count counted =
    let image = image_of held.layout held.bytes in
    let shaped = ap (λ (shape : Shape). view_shaped image (all_branches held.layout spot.type_number) field shape spot.at r.place
    (λ offset place' m. walk_part held.layout held.bytes field offset place' m) r.mark) counted in
    counted_read_by held spot field r.place r.mark r.value r.end count (count_number held.layout held.bytes spot count) refl
    (sym shaped ∙ r.walked)

-- ---- by class

-- what is asked of a field's class, asked of the field that is there
pub class_found : (layout : Layout) (n k : ℕ) (field : Field) (P : Option Class → Type 0) → field_at layout n k ≡ Some field
    → P (class_at layout n k) → P (Some (class_of field))
class_found layout n k field P there holds = let Q : Option Field → Type 0 = λ o. P (option_map class_of o) in subst Q there holds

single_shape : (shape : Shape) (content : Content) → IsSingle (Some (shaped shape content)) → shape ≡ One
single_shape One content is = refl
single_shape (Fixed n) content is = absurd is
single_shape (Counted c) content is = absurd is

pub shape_of_single : (layout : Layout) (n k : ℕ) (field : Field) → field_at layout n k ≡ Some field → IsSingle (class_at layout n k)
    → field.shape ≡ One
shape_of_single layout n k field there is = single_shape field.shape (content_of field.base)
    (class_found layout n k field IsSingle there is)

-- a single field's part stands at its offset
pub single_stands : (held : Record) (spot : Spot) (k : ℕ) (field : Field) → PartRead held spot k field → IsReached held spot
    → field.shape ≡ One → IsPartAt held field (spot.at + field.offset)
single_stands held spot k field r reached alone =
    let fits = inside held.layout spot.type_number k field r.laid in
    let takes = extent_of_one held.layout.pointer field alone in
    let within = reached.inside in
    record {
      sized = sized_among_all held.layout.pointer held.layout.types spot.type_number field.base field.size r.laid.laid.size_allowed;
      inside = omega (arith, fits, takes, within);
      walked = rw (single_read held spot k field r alone) refl;
    }

pub single_value : (held : Record) (spot : Spot) (k : ℕ) (field : Field) (r : PartRead held spot k field) → field.shape ≡ One
    → part_at held spot k ≡ Some (value_there held field (spot.at + field.offset))
single_value held spot k field r alone = r.part ∙ ap (λ (result : Result Datum Broken). Some (value_or_null result))
    (sym (single_read held spot k field r alone))

-- an array of n elements
pub record ArrayRead (held : Record) (field : Field) (value : Datum) (from : ℕ) : Type 0 where
  pub n : ℕ
  pub inside : 0 < n → from + n * field.size ≤ length held.bytes
  pub listed : ListRead held field value from n

array_read_by : (held : Record) (spot : Spot) (k : ℕ) (field : Field) (r : PartRead held spot k field) (shape : Shape) (content : Content)
    → IsReached held spot → field.shape ≡ shape → IsArray (Some (shaped shape content))
    → ArrayRead held field r.value
    (start_by shape (spot.at + field.offset) (pointer_at (image_of held.layout held.bytes) (spot.at + field.offset)))
array_read_by held spot k field r One content reached is arrayed = absurd arrayed
array_read_by held spot k field r (Fixed n) content reached is arrayed =
    let fits = inside held.layout spot.type_number k field r.laid in
    let takes = extent_of_fixed held.layout.pointer field n is in
    let within = reached.inside in
    record { n = n; inside = λ _. omega (arith, fits, takes, within); listed = fixed_read held spot k field r n is }
array_read_by held spot k field r (Counted c) content reached is arrayed =
    let counted = counted_read held spot k field r c is in
    record { n = counted.n; inside = counted.inside; listed = counted.listed }

pub array_read : (held : Record) (spot : Spot) (k : ℕ) (field : Field) (r : PartRead held spot k field) → IsReached held spot
    → field_at held.layout spot.type_number k ≡ Some field → IsArray (class_at held.layout spot.type_number k)
    → ArrayRead held field r.value (elements_start held spot field)
array_read held spot k field r reached there arrayed =
    array_read_by held spot k field r field.shape (content_of field.base) reached refl
    (class_found held.layout spot.type_number k field IsArray there arrayed)

-- an index below the length of the list that was read
pub index_below : (held : Record) (spot : Spot) (index k : ℕ) (field : Field) (r : PartRead held spot index field) (from : ℕ)
    (a : ArrayRead held field r.value from)
    → IsBelow k (list_length (part_at held spot index)) → k < a.n
index_below held spot index k field r from a below =
    let P : Option ℕ → Type 0 = λ o. IsBelow k o in
    let length_is : list_length (part_at held spot index) ≡ Some a.n = ap list_length r.part
    ∙ list_length-read held field r.value from a.n a.listed in
    subst P length_is below

-- an element and what is before it is inside the list
pub element_inside : (from n size k room : ℕ) → k < n → from + n * size ≤ room → from + k * size + size ≤ room
element_inside from n size k room below fits =
    let up : k + 1 ≤ n = omega arith in
    let more = mul-le-mul_left size up in
    omega (arith, more)

-- no list is longer than the bytes
pub list_short : (n size from room : ℕ) → 0 < size → (0 < n → from + n * size ≤ room) → n ≤ room
list_short zero size from room some fits = omega arith
list_short (suc n) size from room some fits = let whole = fits (omega arith) in count_below (suc n) size room some (omega (arith, whole))

-- ---- texts and records

base_of_text : (base : Base) → content_of base ≡ texts → base ≡ Text
base_of_text (Number kind) is = cc
base_of_text Text is = refl
base_of_text (Nested n) is = cc

-- a text's part is its string
pub text_part_value : (held : Record) (field : Field) (at : ℕ) → content_of field.base ≡ texts
    → part_value held field at
    ≡ viewed (view_string (image_of held.layout held.bytes) [] 0 (pointer_at (image_of held.layout held.bytes) at))
text_part_value held field at is =
    ap (λ (base : Base). viewed (view_part (image_of held.layout held.bytes) (part_of (trees held.layout.types) base) field.size at [] 0))
    (base_of_text field.base is)

-- a record's part is the record that stands there
pub nested_part_value : (held : Record) (field : Field) (at m : ℕ) (spot : Spot) → field.base ≡ Nested m
    → spot ≡ record { type_number = m; at = at } → part_value held field at ≡ viewed (walk_at held spot)
nested_part_value held field at m spot is same =
    ap (λ (base : Base). viewed (view_part (image_of held.layout held.bytes) (part_of (trees held.layout.types) base) field.size at [] 0))
    is
    ∙ ap (λ (s : Spot). viewed (walk_at held s)) (sym same)

-- a record that stands there whole is reached
pub nested_reached : (held : Record) (field : Field) (at m : ℕ) → IsWellLaid held.layout → IsPartAt held field at → field.base ≡ Nested m
    → IsReached held (record { type_number = m; at = at })
nested_reached held field at m laid stands is =
    let nested = nested_at held.layout field.base field.size m laid stands.sized is in
    let long = nested.long in
    let within = stands.inside in
    let P : Result Datum Broken → Type 0 = λ r. IsOk r in
    record {
      type_there = nested.there;
      inside = omega (arith, long, within);
      walked = subst P (nested_part_value held field at m (record { type_number = m; at = at }) is refl) stands.walked;
    }

-- ---- a record as a whole

fields_count-read : (image : Image) (all : Branches) (earlier : List Tree) (fields : List Field) (at j : ℕ) (place : List PlaceStep)
    (mark : ℕ) (entries : Entries) (end : ℕ)
    → view_branches image all (branches_of earlier fields) at j place mark ≡ read entries end → entries_count entries ≡ length fields
fields_count-read image all earlier [] at j place mark entries end walked = let none : empty_record
    ≡ entries = cc in ap entries_count (sym none)
fields_count-read image all earlier (first ∷ fields) at j place mark entries end walked =
    let b = branch_read image all first (part_of earlier first.base) (branches_of earlier fields) at j place mark entries end walked in
    ap entries_count b.made ∙ ap suc (fields_count-read image all earlier fields at (suc j) place b.after b.others b.last b.behind)

-- a record that is reached has a record as its value, with as many entries as its type has fields
pub record RecordRead (held : Record) (spot : Spot) : Type 0 where
  pub value : value_at held spot ≡ rec (entries_in (value_at held spot))
  pub count : entries_count (entries_in (value_at held spot)) ≡ length (type_fields held.layout spot.type_number)

pub record_read : (held : Record) (spot : Spot) → IsWellLaid held.layout → IsReached held spot → RecordRead held spot
record_read held spot laid reached =
    let layout = held.layout in
    let image = image_of layout held.bytes in
    let found = found_below layout.types spot.type_number reached.type_there in
    let type = found.0 in
    let resolves = tree_of-resolved layout spot.type_number type laid found.1 in
    let whole = read_of_ok (walk_at held spot) reached.walked in
    let branches = branches_of (trees layout.types) type.fields in
    let opened : view_tree image (resolved (trees layout.types) type) spot.at [] 0 ≡ read whole.value whole.end =
    ap (λ (t : Tree). view_tree image t spot.at [] 0) (sym resolves) ∙ whole.is in
    let entered = then_read (view_branches image branches branches spot.at 0 [] 0) (λ entries after. read (rec entries) after) whole.value
    whole.end opened in
    let made : whole.value ≡ rec entered.first = cc entered.behind in
    let value : value_at held spot ≡ rec entered.first = ap (λ (w : Walked Datum). value_or_null (viewed w)) whole.is ∙ made in
    let entries : entries_in (value_at held spot) ≡ entered.first = ap entries_in value in
    let fields = type_fields-found layout spot.type_number type found.1 in
    record {
      value = value ∙ ap (λ (e : Entries). rec e) (sym entries);
      count = ap entries_count entries ∙ fields_count-read image branches (trees layout.types) type.fields spot.at 0 [] 0 entered.first
          entered.mark entered.before ∙ ap length (sym fields);
    }
