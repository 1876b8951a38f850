-- Numbers by the bytes at which they stand.
use Rattle.std.proofs.Common.{◌≡◌, ℕ, zero, suc, ◌+◌, ◌-◌, ◌*◌, ◌<◌, ◌≤◌, List, [], length, take, drop, Option, Some, Result, Ok, refl, sym}
use Rattle.std.proofs.Common.{ap, ◌∙◌, subst, arith}
use Rattle.std.proofs.Math.Nat.{mul-le-mul_left}
use Rattle.std.proofs.lemmas.List.{drop-drop, drop-take, take-take, length-take-le, length-drop}
use Rattle.evp_base.specs.declared.kind.Kind.{Kind}
use Rattle.evp_base.specs.Numbers.{number}
use Rattle.evp_format.specs.declared.broken.Broken.{Broken}
use Rattle.evp_format.specs.declared.field.Base.{Base}
use Rattle.evp_format.specs.declared.field.Base.TheVariants.{Number, Text, Nested}
use Rattle.evp_format.specs.declared.field.Field.{Field}
use Rattle.evp_format.specs.declared.field.Shape.{Shape}
use Rattle.evp_format.specs.declared.field.Shape.TheVariants.{One, Fixed, Counted}
use Rattle.evp_format.specs.Bytes.{bytes_at}
use Rattle.evp_format.specs.Class.{Content, numbers, array, content_of, shaped, field_at, class_at, IsArray}
use Rattle.evp_format.specs.Datum.{Datum, num}
use Rattle.evp_format.specs.Tree.{part_of, trees, tree_of}
use Rattle.evp_format.specs.Typed.{IsRecordOf, IsOfTree}
use Rattle.evp_format.specs.Viewing.{view_part, viewed, image_of}
use Rattle.evp_format.specs.WellLaid.{IsWellLaid}
use Rattle.evp_format.proofs.Trees.{found_below, laid_tree}
use Rattle.evp_record.specs.declared.spot.Spot.{Spot}
use Rattle.evp_record.specs.Laws.{ReachedIsOfType, NumberIsItsBytes}
use Rattle.evp_record.specs.NumberPieces.{ArePieces}
use Rattle.evp_record.specs.Parts.{element_value, list_length}
use Rattle.evp_record.specs.Record.{Record, value_or_null}
use Rattle.evp_record.specs.Spots.{IsReached, part_at, element_at, part_value, elements_start, walk_at}
use Rattle.evp_record.proofs.ReadLists.{element_at_index, list_length-read, read_of_ok}
use Rattle.evp_record.proofs.Reading.{PartRead, ArrayRead, part_read, array_read, class_found, single_value}
use Rattle.evp_record.proofs.ViewTypedAll.{tree_typed}

-- what is read of a number
number_value : (held : Record) (field : Field) (kind : Kind) (at : ℕ) → field.base ≡ Number kind
    → part_value held field at ≡ Ok (num (number held.layout.order kind (bytes_at at field.size held.bytes)))
number_value held field kind at is =
    ap (λ (base : Base). viewed (view_part (image_of held.layout held.bytes) (part_of (trees held.layout.types) base) field.size at [] 0))
    is

-- a single number field is the number of the bytes at its offset
pub number_is_its_bytes : NumberIsItsBytes
number_is_its_bytes held spot index field kind laid reached there alone is =
    let r = part_read held spot index field laid reached there in
    single_value held spot index field r alone
    ∙ ap (λ (outcome : Result Datum Broken). Some (value_or_null outcome)) (number_value held field kind (spot.at + field.offset) is)

-- the value of a record that is reached is of its type
pub reached_is_of_type : ReachedIsOfType
reached_is_of_type held spot laid are reached =
    let layout = held.layout in
    let found = found_below layout.types spot.type_number reached.type_there in
    let tree = (laid_tree layout spot.type_number found.0 laid found.1).1 in
    let read = read_of_ok (walk_at held spot) reached.walked in
    let typed = tree_typed (image_of layout held.bytes) _ spot.at [] 0 read.end read.value are tree reached.inside read.is in
    subst (λ (value : Datum). IsRecordOf (IsOfTree (tree_of layout spot.type_number)) value)
    (sym (ap (λ w. value_or_null (viewed w)) read.is)) typed

-- a piece of a block is what stands in the whole
pub piece_at : (bytes : List ℕ) (from n size k : ℕ) → k < n → bytes_at (k * size) size (take (n * size) (drop from bytes))
    ≡ bytes_at (from + k * size) size bytes
piece_at bytes from n size k below =
    let up : k + 1 ≤ n = omega arith in
    let more = mul-le-mul_left size up in
    let most : k * size + size ≤ n * size = omega (arith, more) in
    let split : n * size ≡ k * size + (n * size - k * size) = omega (arith, most) in
    ap (λ (m : ℕ). take size (drop (k * size) (take m (drop from bytes)))) split
    ∙ ap (take size) (drop-take (k * size) (n * size - k * size) (drop from bytes))
    ∙ take-take size (n * size - k * size) (drop (k * size) (drop from bytes)) (omega (arith, most))
    ∙ ap (take size) (drop-drop (k * size) from bytes)

number_base : (base : Base) → content_of base ≡ numbers → (kind : Kind) × (base ≡ Number kind)
number_base (Number kind) is = (kind, refl)
number_base Text is = cc
number_base (Nested m) is = cc

array_content : (shape : Shape) (content : Content) → Some (shaped shape content) ≡ Some (array numbers) → content ≡ numbers
array_content One content is = cc
array_content (Fixed n) content is = cc
array_content (Counted c) content is = cc

-- the bytes of an array of numbers, by where its elements stand
pub pieces_read : (held : Record) (spot : Spot) (index : ℕ) (field : Field) (bytes : List ℕ) (count from : ℕ) → IsWellLaid held.layout
    → IsReached held spot
    → field_at held.layout spot.type_number index ≡ Some field → class_at held.layout spot.type_number index ≡ Some (array numbers)
    → list_length (part_at held spot index) ≡ Some count → (0 < count → from ≡ elements_start held spot field)
    → bytes ≡ take (count * field.size) (drop from held.bytes)
    → ArePieces held spot index bytes
pieces_read held spot index field bytes count from laid reached there class long start is =
    record {
      field = field;
      kind = kind.0;
      count = count;
      there = there;
      is_number = kind.1;
      long = long;
      whole = whole count refl;
      each = each;
    }
  where
    content : content_of field.base ≡ numbers
    content = array_content field.shape (content_of field.base)
        (class_found held.layout spot.type_number index field (λ o. o ≡ Some (array numbers)) there class)

    kind : (kind : Kind) × (field.base ≡ Number kind)
    kind = number_base field.base content

    r : PartRead held spot index field
    r = part_read held spot index field laid reached there

    a : ArrayRead held field r.value (elements_start held spot field)
    a = array_read held spot index field r reached there (subst IsArray (sym class) tt)

    same_count : count ≡ a.n
    same_count = let read = ap list_length r.part ∙ list_length-read held field r.value (elements_start held spot field) a.n a.listed in cc

    each : (k : ℕ) → k < count → element_at held spot index k ≡ Some
        (num (number held.layout.order kind.0 (bytes_at (k * field.size) field.size bytes)))
    each k below =
        let place = elements_start held spot field in
        let e = element_at_index held field r.value place a.n k a.listed (omega (arith, same_count)) in
        let value : part_value held field (place + k * field.size)
        ≡ Ok (num (number held.layout.order kind.0 (bytes_at (place + k * field.size) field.size held.bytes))) =
        number_value held field kind.0 (place + k * field.size) kind.1 in
        let one : e.one ≡ num (number held.layout.order kind.0 (bytes_at (place + k * field.size) field.size held.bytes)) = let there
        = e.viewed_there in cc in
        let piece =
        ap (λ (b : List ℕ). bytes_at (k * field.size) field.size b) is ∙ piece_at held.bytes from count field.size k below
        ∙ ap (λ (q : ℕ). bytes_at (q + k * field.size) field.size held.bytes) (start (omega (arith, below))) in
        ap (λ (o : Option Datum). element_value o k) r.part ∙ e.found ∙ ap (λ (d : Datum). Some d) one
        ∙ ap (λ (b : List ℕ). Some (num (number held.layout.order kind.0 b))) (sym piece)

    whole : (n : ℕ) → count ≡ n → length bytes ≡ n * field.size
    whole zero none =
        let empty : count * field.size ≡ 0 = rw none (omega arith) in
        let left : 0 ≡ 0 * field.size = omega arith in
        ap length is ∙ ap (λ (m : ℕ). length (take m (drop from held.bytes))) empty ∙ left
    whole (suc n) some =
        let place = start (omega (arith, some)) in
        let Fits : ℕ → Type 0 = λ m. elements_start held spot field + m * field.size ≤ length held.bytes in
        let inside = subst Fits (sym same_count ∙ some) (a.inside (omega (arith, some, same_count))) in
        let left = length-drop from held.bytes in
        ap length is ∙ ap (λ (m : ℕ). length (take (m * field.size) (drop from held.bytes))) some
        ∙ length-take-le (suc n * field.size) (drop from held.bytes) (omega (arith, left, inside, place, some, same_count))

-- the block of an array that isn't empty is inside the bytes
pub block_inside : (held : Record) (spot : Spot) (index : ℕ) (field : Field) (count : ℕ) → IsWellLaid held.layout → IsReached held spot
    → field_at held.layout spot.type_number index ≡ Some field
    → class_at held.layout spot.type_number index ≡ Some (array numbers) → list_length (part_at held spot index) ≡ Some count → 0 < count
    → elements_start held spot field + count * field.size ≤ length held.bytes
block_inside held spot index field count laid reached there class long some =
    let r = part_read held spot index field laid reached there in
    let a = array_read held spot index field r reached there (subst IsArray (sym class) tt) in
    let read = ap list_length r.part ∙ list_length-read held field r.value (elements_start held spot field) a.n a.listed in
    let same : count ≡ a.n = cc in
    subst (λ (n : ℕ). elements_start held spot field + n * field.size ≤ length held.bytes) (sym same) (a.inside (omega (arith, same, some)))
