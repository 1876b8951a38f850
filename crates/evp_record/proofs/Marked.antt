-- The marks of a walk, step by step: a walk goes on from the mark behind what was read, or ends at its first fault.
use Rattle.std.proofs.Common.{◌≡◌, ℕ, zero, suc, ◌+◌, ◌-◌, ◌*◌, ◌<◌, ◌≤◌, ℤ, pos, false, nat_eq, nat_lt, List, [], ◌∷◌, ◌++◌, length, drop}
use Rattle.std.proofs.Common.{Result, Ok, Err, Some, refl, sym, ap, ◌∙◌, arith, add-one}
use Rattle.std.specs.Prelude.{slice_get}
use Rattle.std.proofs.lemmas.Bool.Decides.{nat_tests}
use Rattle.std.proofs.lemmas.List.{drop_all}
use Rattle.evp_format.specs.declared.broken.Broken.{Broken}
use Rattle.evp_format.specs.declared.field.Field.{Field}
use Rattle.evp_format.specs.declared.field.Shape.{Shape}
use Rattle.evp_format.specs.declared.field.Shape.TheVariants.{Fixed, Counted}
use Rattle.evp_format.specs.declared.place.PlaceStep.{PlaceStep}
use Rattle.evp_format.specs.declared.place.PlaceStep.TheVariants.{At, Nth}
use Rattle.evp_format.specs.declared.record_type.RecordType.{RecordType}
use Rattle.evp_format.specs.Datum.{Datum, Entries, Elements, rec, entry, element}
use Rattle.evp_format.specs.Layout.{Layout}
use Rattle.evp_format.specs.Tree.{Tree, Branches, branch, Part, branches_of, resolved, trees, tree_of}
use Rattle.evp_format.specs.Viewing.{Image, Walked, read, broken, then_walk, view_tree, view_branches, view_part, view_shaped}
use Rattle.evp_format.specs.Viewing.{view_elements, view_counted, as_list, image_of}
use Rattle.evp_record.specs.declared.spot.Spot.{Spot}
use Rattle.evp_record.specs.Class.{type_fields, field_at}
use Rattle.evp_record.specs.Marks.{marked}
use Rattle.evp_record.specs.Walks.{all_branches, branches_in, part_in, walk_field, walk_part, walk_elements, walk_counted}
use Rattle.evp_record.proofs.Laid.{type_fields-found, slice_get-type_fields}

-- goes on from a mark, or ends at the fault
abbrev pub goes_on : Result ℕ Broken → (ℕ → Result ℕ Broken) → Result ℕ Broken
goes_on (Ok mark) rest = rest mark
goes_on (Err fault) rest = Err fault

pub marked-then_walk : {A B : Type 0} (walked : Walked A) (next : A → ℕ → Walked B) (rest : ℕ → Result ℕ Broken)
    → ((value : A) (mark : ℕ) → marked (next value mark) ≡ rest mark) → marked (then_walk walked next) ≡ goes_on (marked walked) rest
marked-then_walk (read value mark) next rest same = same value mark
marked-then_walk (broken fault) next rest same = refl

-- what is made of the value leaves the mark
pub marked-made : {A B : Type 0} (walked : Walked A) (f : A → B)
    → marked (then_walk walked (λ value mark. read (f value) mark)) ≡ marked walked
marked-made (read value mark) f = refl
marked-made (broken fault) f = refl

pub marked-as_list : (walked : Walked Elements) → marked (as_list walked) ≡ marked walked
marked-as_list (read value mark) = refl
marked-as_list (broken fault) = refl

marked-branch : (image : Image) (all : Branches) (field : Field) (part : Part) (rest : Branches) (at k : ℕ) (place : List PlaceStep)
    (mark : ℕ)
    → marked (view_branches image all (branch field part rest) at k place mark)
    ≡ goes_on (marked (view_shaped image all field field.shape at (place ++ At k ∷ [])
    (λ offset place' after. view_part image part field.size offset place' after) mark))
    (λ after. marked (view_branches image all rest at (suc k) place after))
marked-branch image all field part rest at k place mark =
    marked-then_walk (view_shaped image all field field.shape at (place ++ At k ∷ [])
    (λ offset place' after. view_part image part field.size offset place' after) mark)
    (λ value after. then_walk (view_branches image all rest at (suc k) place after)
    (λ others end. read (entry field.name value others) end))
    (λ after. marked (view_branches image all rest at (suc k) place after))
    (λ value after. marked-made (view_branches image all rest at (suc k) place after) (λ others. entry field.name value others))

marked-element : (one : ℕ → ℕ → Walked Datum) (n k mark : ℕ)
    → marked (view_elements one (suc n) k mark) ≡ goes_on (marked (one k mark)) (λ after. marked (view_elements one n (suc k) after))
marked-element one n k mark =
    marked-then_walk (one k mark) (λ first after. then_walk (view_elements one n (suc k) after) (λ rest end. read (element first rest) end))
    (λ after. marked (view_elements one n (suc k) after))
    (λ first after. marked-made (view_elements one n (suc k) after) (λ rest. element first rest))

-- the fields from number k on, of the record at the spot
abbrev pub walk_fields : Layout → List ℕ → Spot → List PlaceStep → ℕ → ℕ → Walked Entries
walk_fields layout bytes spot place k mark =
    view_branches (image_of layout bytes) (all_branches layout spot.type_number)
    (branches_of (trees layout.types) (drop k (type_fields layout spot.type_number))) spot.at k place mark

-- a record is walked by its fields
pub marked-record : (layout : Layout) (bytes : List ℕ) (spot : Spot) (type : RecordType) (place : List PlaceStep) (mark : ℕ)
    → slice_get layout.types spot.type_number ≡ Some type → tree_of layout spot.type_number ≡ resolved (trees layout.types) type
    → marked (walk_fields layout bytes spot place 0 mark) ≡ marked
    (view_tree (image_of layout bytes) (tree_of layout spot.type_number) spot.at place mark)
marked-record layout bytes spot type place mark found is =
    let image = image_of layout bytes in
    let whole : Tree → Result ℕ Broken = λ t. marked (view_tree image t spot.at place mark) in
    let parts : Tree → List Field → Result ℕ Broken = λ t fields. marked
    (view_branches image (branches_in t) (branches_of (trees layout.types) fields) spot.at 0 place mark) in
    let own = branches_of (trees layout.types) type.fields in
    ap (λ (fields : List Field). parts (tree_of layout spot.type_number) fields) (type_fields-found layout spot.type_number type found)
    ∙ ap (λ (t : Tree). parts t type.fields) is
    ∙ sym (marked-made (view_branches image own own spot.at 0 place mark) (λ entries. rec entries)) ∙ sym (ap whole is)

drop_at : (fields : List Field) (k : ℕ) (field : Field) → slice_get fields k ≡ Some field → drop k fields ≡ field ∷ drop (suc k) fields
drop_at [] k field found = cc
drop_at (first ∷ fields) zero field found = let same : first ≡ field = cc in ap (λ (f : Field). f ∷ fields) same
drop_at (first ∷ fields) (suc k) field found = drop_at fields k field found

-- the walk of the fields from number k on, by the field of that number and the rest
pub marked-field : (layout : Layout) (bytes : List ℕ) (spot : Spot) (place : List PlaceStep) (k mark : ℕ) (field : Field)
    → field_at layout spot.type_number k ≡ Some field
    → marked (walk_fields layout bytes spot place k mark)
    ≡ goes_on (marked (walk_field layout bytes spot field (place ++ At k ∷ []) mark))
    (λ after. marked (walk_fields layout bytes spot place (k + 1) after))
marked-field layout bytes spot place k mark field found =
    let image = image_of layout bytes in
    let all = all_branches layout spot.type_number in
    let fields = type_fields layout spot.type_number in
    let here : List Field
    → Result ℕ Broken = λ some. marked (view_branches image all (branches_of (trees layout.types) some) spot.at k place mark) in
    ap here (drop_at fields k field (slice_get-type_fields layout spot.type_number k field found))
    ∙ marked-branch image all field (part_in layout field) (branches_of (trees layout.types) (drop (suc k) fields)) spot.at k place mark
    ∙ ap
    (λ (next : ℕ).
    goes_on (marked (walk_field layout bytes spot field (place ++ At k ∷ []) mark))
    (λ after. marked (view_branches image all (branches_of (trees layout.types) (drop next fields)) spot.at next place after)))
    (sym (add-one k))

-- behind the last field the mark stays
pub marked-no_fields : (layout : Layout) (bytes : List ℕ) (spot : Spot) (place : List PlaceStep) (k mark : ℕ)
    → length (type_fields layout spot.type_number) ≤ k
    → marked (walk_fields layout bytes spot place k mark) ≡ Ok mark
marked-no_fields layout bytes spot place k mark past =
    let image = image_of layout bytes in
    let all = all_branches layout spot.type_number in
    ap (λ (some : List Field). marked (view_branches image all (branches_of (trees layout.types) some) spot.at k place mark))
    (drop_all k (type_fields layout spot.type_number) past)

-- the walk of n elements from number k on, by the first and the rest
pub marked-elements : (layout : Layout) (bytes : List ℕ) (field : Field) (from : ℕ) (place : List PlaceStep) (n k mark : ℕ) → k < n
    → marked (walk_elements layout bytes field from place (n - k) k mark)
    ≡ goes_on (marked (walk_part layout bytes field (from + k * field.size) (place ++ Nth k ∷ []) mark))
    (λ after. marked (walk_elements layout bytes field from place (n - (k + 1)) (k + 1) after))
marked-elements layout bytes field from place n k mark below =
    let one : ℕ → ℕ → Walked Datum = λ i after. walk_part layout bytes field (from + i * field.size) (place ++ Nth i ∷ []) after in
    let left : n - k ≡ suc (n - (k + 1)) = omega arith in
    ap (λ (some : ℕ). marked (view_elements one some k mark)) left
    ∙ marked-element one (n - (k + 1)) k mark
    ∙ ap (λ (next : ℕ). goes_on (marked (one k mark)) (λ after. marked (view_elements one (n - (k + 1)) next after))) (sym (add-one k))

pub marked-no_elements : (layout : Layout) (bytes : List ℕ) (field : Field) (from : ℕ) (place : List PlaceStep) (n k mark : ℕ) → n ≤ k
    → marked (walk_elements layout bytes field from place (n - k) k mark) ≡ Ok mark
marked-no_elements layout bytes field from place n k mark past =
    let one : ℕ → ℕ → Walked Datum = λ i after. walk_part layout bytes field (from + i * field.size) (place ++ Nth i ∷ []) after in
    let none : n - k ≡ 0 = omega arith in
    ap (λ (some : ℕ). marked (view_elements one some k mark)) none

-- a block that starts behind the mark and ends inside the bytes is walked from its end on
pub marked-counted : (image : Image) (place : List PlaceStep) (z : ℤ) (n q size mark : ℕ) (one : ℕ → ℕ → ℕ → Walked Datum)
    → z ≡ pos n → 0 < n → 0 < q → mark ≤ q → q + n * size ≤ length image.bytes
    → marked (view_counted image place z q size one mark) ≡ marked
    (view_elements (λ k after. one (q + k * size) k after) n 0 (q + n * size))
marked-counted image place z zero q size mark one is some there behind within = absurd (omega arith)
marked-counted image place z (suc n) q size mark one is some there behind within =
    let present : nat_eq q 0 ≡ false = grind (arith, nat_tests) in
    let starts : nat_lt q mark ≡ false = grind (arith, nat_tests) in
    let ends : nat_lt (length image.bytes) (q + suc n * size) ≡ false = grind (arith, nat_tests) in
    let elements : Walked Elements = view_elements (λ k after. one (q + k * size) k after) (suc n) 0 (q + suc n * size) in
    ap (λ (count : ℤ). marked (view_counted image place count q size one mark)) is
    ∙ rw (present, starts, ends) (marked-as_list elements)

-- ---- steps of the loops, and their ends at a fault

pub field-read : (layout : Layout) (bytes : List ℕ) (spot : Spot) (place : List PlaceStep) (k mark after : ℕ) (field : Field)
    → field_at layout spot.type_number k ≡ Some field
    → Ok after ≡ marked (walk_field layout bytes spot field (place ++ At k ∷ []) mark)
    → marked (walk_fields layout bytes spot place (k + 1) after) ≡ marked (walk_fields layout bytes spot place k mark)
field-read layout bytes spot place k mark after field found here =
    ap (λ (r : Result ℕ Broken). goes_on r (λ end. marked (walk_fields layout bytes spot place (k + 1) end))) here
    ∙ sym (marked-field layout bytes spot place k mark field found)

pub field-broken : (layout : Layout) (bytes : List ℕ) (spot : Spot) (place : List PlaceStep) (k mark : ℕ) (fault : Broken) (field : Field)
    → field_at layout spot.type_number k ≡ Some field
    → Err fault ≡ marked (walk_field layout bytes spot field (place ++ At k ∷ []) mark)
    → Err fault ≡ marked (walk_fields layout bytes spot place k mark)
field-broken layout bytes spot place k mark fault field found here =
    ap (λ (r : Result ℕ Broken). goes_on r (λ end. marked (walk_fields layout bytes spot place (k + 1) end))) here
    ∙ sym (marked-field layout bytes spot place k mark field found)

pub element-read : (layout : Layout) (bytes : List ℕ) (field : Field) (from : ℕ) (place : List PlaceStep) (n k mark after : ℕ) → k < n
    → Ok after ≡ marked (walk_part layout bytes field (from + k * field.size) (place ++ Nth k ∷ []) mark)
    → marked (walk_elements layout bytes field from place (n - (k + 1)) (k + 1) after)
    ≡ marked (walk_elements layout bytes field from place (n - k) k mark)
element-read layout bytes field from place n k mark after below here =
    ap (λ (r : Result ℕ Broken). goes_on r (λ end. marked (walk_elements layout bytes field from place (n - (k + 1)) (k + 1) end))) here
    ∙ sym (marked-elements layout bytes field from place n k mark below)

pub element-broken : (layout : Layout) (bytes : List ℕ) (field : Field) (from : ℕ) (place : List PlaceStep) (n k mark : ℕ) (fault : Broken)
    → k < n
    → Err fault ≡ marked (walk_part layout bytes field (from + k * field.size) (place ++ Nth k ∷ []) mark)
    → Err fault ≡ marked (walk_elements layout bytes field from place (n - k) k mark)
element-broken layout bytes field from place n k mark fault below here =
    ap (λ (r : Result ℕ Broken). goes_on r (λ end. marked (walk_elements layout bytes field from place (n - (k + 1)) (k + 1) end))) here
    ∙ sym (marked-elements layout bytes field from place n k mark below)

-- ---- the walk of a field by its shape

pub marked-fixed : (layout : Layout) (bytes : List ℕ) (spot : Spot) (field : Field) (place : List PlaceStep) (n mark : ℕ)
    → field.shape ≡ Fixed n
    → marked (walk_field layout bytes spot field place mark) ≡ marked
    (walk_elements layout bytes field (spot.at + field.offset) place n 0 mark)
marked-fixed layout bytes spot field place n mark is =
    let image = image_of layout bytes in
    let all = all_branches layout spot.type_number in
    ap (λ (shape : Shape). marked
    (view_shaped image all field shape spot.at place (λ offset place' after. walk_part layout bytes field offset place' after) mark)) is
    ∙ marked-as_list (walk_elements layout bytes field (spot.at + field.offset) place n 0 mark)

pub marked-counted_field : (layout : Layout) (bytes : List ℕ) (spot : Spot) (field : Field) (place : List PlaceStep) (count mark : ℕ)
    → field.shape ≡ Counted count
    → marked (walk_field layout bytes spot field place mark) ≡ marked (walk_counted layout bytes spot field count place mark)
marked-counted_field layout bytes spot field place count mark is =
    let image = image_of layout bytes in
    let all = all_branches layout spot.type_number in
    ap (λ (shape : Shape). marked
    (view_shaped image all field shape spot.at place (λ offset place' after. walk_part layout bytes field offset place' after) mark)) is
