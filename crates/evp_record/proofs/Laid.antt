-- Where the fields of a well laid format stand.
use Rattle.std.proofs.Common.{◌≡◌, ℕ, zero, suc, ◌+◌, ◌-◌, ◌*◌, ◌^◌, ◌<◌, ◌≤◌, ℤ, pos, ◌≤ℤ◌, List, [], ◌∷◌, length, take, Option, Some}
use Rattle.std.proofs.Common.{None, refl, sym, ap, ◌∙◌, subst, arith, IsTrue, get_or, nat_abs, negsuc}
use Rattle.std.specs.Prelude.{slice_get, option_and_then}
use Rattle.std.proofs.lemmas.Int.{ints}
use Rattle.std.proofs.lemmas.Option.{option_and_then_some, slice_get_read}
use Rattle.std.proofs.Math.Nat.{mul-le-mul_left}
use Rattle.evp_base.specs.declared.kind.Kind.{Kind}
use Rattle.evp_base.specs.declared.kind.Kind.TheVariants.{Int, Unsigned, Char, Boolean, Enumeration}
use Rattle.evp_base.specs.Numbers.{is_size_of, number, greatest}
use Rattle.evp_base.proofs.Complement.{width}
use Rattle.evp_format.specs.declared.field.Base.{Base}
use Rattle.evp_format.specs.declared.field.Base.TheVariants.{Number, Text, Nested}
use Rattle.evp_format.specs.declared.field.Field.{Field}
use Rattle.evp_format.specs.declared.field.Shape.{Shape}
use Rattle.evp_format.specs.declared.field.Shape.TheVariants.{One, Fixed, Counted}
use Rattle.evp_format.specs.declared.record_type.RecordType.{RecordType}
use Rattle.evp_format.specs.Layout.{Layout}
use Rattle.evp_format.specs.Tree.{Tree, part_of, branches_of, resolved, trees, tree_of, branch_at, length_of}
use Rattle.evp_format.specs.WellLaid.{IsWellLaid, IsLaidField, HasBaseSize, HasShape, extent, shape_extent, depth, part_depth}
use Rattle.evp_format.specs.Bytes.{bytes_at}
use Rattle.evp_format.specs.Viewing.{field_number, image_of}
use Rattle.evp_format.proofs.Trees.{tree_of-resolved, slice_get-below, found_below}
use Rattle.evp_record.specs.Class.{field_at, fields_in, nested_number, type_fields}
use Rattle.std.proofs.lemmas.List.{length-take}
use Rattle.evp_record.specs.Walks.{all_branches, part_in, branches_in, count_number, IsCountAt, IsCountedAt}
use Rattle.evp_record.specs.declared.spot.Spot.{Spot}
use Rattle.evp_format.proofs.LaidBases.{field_depth}

-- field k of type n, and the tree of that type
pub record LaidAt (layout : Layout) (n k : ℕ) (field : Field) : Type 0 where
  pub type : RecordType
  pub type_there : slice_get layout.types n ≡ Some type
  pub field_there : slice_get type.fields k ≡ Some field
  pub laid : IsLaidField layout.pointer (take n layout.types) type.length type.fields k field
  pub tree : tree_of layout n ≡ resolved (trees layout.types) type

pub laid_at : (layout : Layout) (n k : ℕ) (field : Field) → IsWellLaid layout → field_at layout n k ≡ Some field → LaidAt layout n k field
laid_at layout n k field laid found =
    option_and_then_some (λ (type : RecordType). slice_get type.fields k) (slice_get layout.types n) field found
    (λ type type_there field_there.
    record {
      type = type;
      type_there = type_there;
      field_there = field_there;
      laid = (laid.each_type n type type_there).each_field k field field_there;
      tree = tree_of-resolved layout n type laid type_there;
    })

pub type_fields-found : (layout : Layout) (n : ℕ) (type : RecordType) → slice_get layout.types n ≡ Some type
    → type_fields layout n ≡ type.fields
type_fields-found layout n type found = ap fields_in found

slice_get-fields_in : (found : Option RecordType) (k : ℕ) → option_and_then (λ (type : RecordType). slice_get type.fields k) found
    ≡ slice_get (fields_in found) k
slice_get-fields_in None k = refl
slice_get-fields_in (Some type) k = refl

pub slice_get-type_fields : (layout : Layout) (n k : ℕ) (field : Field) → field_at layout n k ≡ Some field
    → slice_get (type_fields layout n) k ≡ Some field
slice_get-type_fields layout n k field found = sym (slice_get-fields_in (slice_get layout.types n) k) ∙ found

pub branch_at-branches_of : (earlier : List Tree) (fields : List Field) (k : ℕ) (field : Field) → slice_get fields k ≡ Some field
    → branch_at (branches_of earlier fields) k ≡ Some (field, part_of earlier field.base)
branch_at-branches_of earlier [] k field found = cc
branch_at-branches_of earlier (first ∷ fields) zero field found =
    let same : first ≡ field = cc in ap (λ (f : Field). Some (f, part_of earlier f.base)) same
branch_at-branches_of earlier (first ∷ fields) (suc k) field found = branch_at-branches_of earlier fields k field found

-- the field and its part among the branches of its type
pub branch_at-all : (layout : Layout) (n k : ℕ) (field : Field) → LaidAt layout n k field
    → branch_at (all_branches layout n) k ≡ Some (field, part_in layout field)
branch_at-all layout n k field at =
    ap (λ (t : Tree). branch_at (branches_in t) k) at.tree ∙ branch_at-branches_of (trees layout.types) at.type.fields k field
    at.field_there

-- the field is inside a record of its type
pub inside : (layout : Layout) (n k : ℕ) (field : Field) → LaidAt layout n k field
    → field.offset + extent layout.pointer field ≤ length_of (tree_of layout n)
inside layout n k field at =
    let long : length_of (tree_of layout n) ≡ at.type.length = ap length_of at.tree in
    let fits = at.laid.inside in
    omega (arith, long, fits)

-- a number's size is one that its kind may have
pub size_of_number : (pointer : ℕ) (earlier : List RecordType) (base : Base) (size : ℕ) (kind : Kind)
    → HasBaseSize pointer earlier base size → base ≡ Number kind
    → IsTrue (is_size_of kind size)
size_of_number pointer earlier base size kind sized is =
    let P : Base → Type 0 = λ b. HasBaseSize pointer earlier b size in subst P is sized

-- no number is above the greatest of eight bytes
pub greatest-le : (kind : Kind) (size : ℕ) → IsTrue (is_size_of kind size) → greatest kind size ≤ℤ pos (2 ^ 64 - 1)
greatest-le Int size allowed = let wide = width size allowed in omega (arith, ints, wide.greatest)
greatest-le Unsigned size allowed = let wide = width size allowed in omega (arith, ints, wide.greatest, wide.half)
greatest-le Char size allowed = omega (arith, ints)
greatest-le Boolean size allowed = omega (arith, ints)
greatest-le Enumeration size allowed = let wide = width size allowed in omega (arith, ints, wide.greatest)

-- a single field takes its size
pub extent_of_one : (pointer : ℕ) (field : Field) → field.shape ≡ One → extent pointer field ≡ field.size
extent_of_one pointer field single = ap (λ (shape : Shape). shape_extent pointer shape field.size) single

-- the number of a count field, by its bytes
pub count_number-number : (layout : Layout) (bytes : List ℕ) (spot : Spot) (count : ℕ) (field : Field) (kind : Kind)
    → LaidAt layout spot.type_number count field
    → field.base ≡ Number kind → count_number layout bytes spot count
    ≡ number layout.order kind (bytes_at (spot.at + field.offset) field.size bytes)
count_number-number layout bytes spot count field kind at is =
    ap (field_number (image_of layout bytes) spot.at) (branch_at-all layout spot.type_number count field at)
    ∙ ap (λ (base : Base). field_number (image_of layout bytes) spot.at (Some (field, part_of (trees layout.types) base))) is

-- an array takes a pointer
pub extent_of_counted : (pointer : ℕ) (field : Field) (count : ℕ) → field.shape ≡ Counted count → extent pointer field ≡ pointer
extent_of_counted pointer field count counted = ap (λ (shape : Shape). shape_extent pointer shape field.size) counted

pub extent_of_fixed : (pointer : ℕ) (field : Field) (n : ℕ) → field.shape ≡ Fixed n → extent pointer field ≡ n * field.size
extent_of_fixed pointer field n fixed = ap (λ (shape : Shape). shape_extent pointer shape field.size) fixed

-- the count of a counted array is a field of the same type
pub count_there : (layout : Layout) (n count : ℕ) (field : Field) → IsWellLaid layout → IsCountedAt layout n field count
    → IsCountAt layout n count
count_there layout n count field laid is =
    let at = laid_at layout n is.number field laid is.there in
    let Shaped : Shape → Type 0 = λ shape. HasShape at.type.fields shape in
    let counting = subst Shaped is.counted at.laid.shape_allowed in
    record {
      field = counting.0;
      there = ap (option_and_then (λ (type : RecordType). slice_get type.fields count)) at.type_there ∙ counting.1;
      single = counting.2;
      counts = counting.3;
    }

-- a nested type is there, of the size of the field's elements
pub record NestedAt (layout : Layout) (m size : ℕ) : Type 0 where
  pub there : m < length layout.types
  pub long : length_of (tree_of layout m) ≡ size

pub nested_at : (layout : Layout) (base : Base) (size m : ℕ) → IsWellLaid layout → HasBaseSize layout.pointer layout.types base size
    → base ≡ Nested m → NestedAt layout m size
nested_at layout base size m laid sized is =
    let Sized : Base → Type 0 = λ b. HasBaseSize layout.pointer layout.types b size in
    let inner = subst Sized is sized in
    record {
      there = slice_get-below layout.types m inner.0 inner.1;
      long = ap length_of (tree_of-resolved layout m inner.0 laid inner.1) ∙ sym inner.2;
    }

depth_of_nested_base : (layout : Layout) (base : Base) (m : ℕ) → base ≡ Nested m
    → part_depth (part_of (trees layout.types) base) ≡ depth (tree_of layout m)
depth_of_nested_base layout base m is = ap (λ (b : Base). part_depth (part_of (trees layout.types) b)) is

pub depth_of_nested : (layout : Layout) (field : Field) (m : ℕ) → field.base ≡ Nested m
    → part_depth (part_in layout field) ≡ depth (tree_of layout m)
depth_of_nested layout field m is = depth_of_nested_base layout field.base m is

-- a field leads less deep than its type
pub depth_of_part : (layout : Layout) (n k : ℕ) (field : Field) → IsWellLaid layout → LaidAt layout n k field
    → part_depth (part_in layout field) + 1 ≤ depth (tree_of layout n)
depth_of_part layout n k field laid at = field_depth layout n k at.type field laid at.type_there at.field_there

-- below the number of fields there is one
pub field_below : (layout : Layout) (n k : ℕ) → k < length (type_fields layout n) → (field : Field) × (field_at layout n k ≡ Some field)
field_below layout n k below =
    let found = found_below (type_fields layout n) k below in
    (found.0, slice_get-fields_in (slice_get layout.types n) k ∙ found.1)

-- the type that was read is the one of that number
pub type_read : (layout : Layout) (types : List RecordType) (n m : ℕ) (type : RecordType) → types ≡ layout.types → m ≡ n
    → n < length layout.types → type ≡ get_or types m type
    → slice_get layout.types n ≡ Some type
type_read layout types n m type same number below is =
    slice_get_read layout.types (length layout.types) n type refl below
    (is ∙ ap (λ (all : List RecordType). get_or all m type) same ∙ ap (λ (k : ℕ). get_or layout.types k type) number)

-- a number that isn't negative is that many
pub pos-nat_abs : (z : ℤ) → pos 0 ≤ℤ z → z ≡ pos (nat_abs z)
pos-nat_abs (pos n) above = refl
pos-nat_abs (negsuc n) above = absurd (omega (arith, ints))

-- as many elements as fit into 2^32 bytes
pub count_below : (n size room : ℕ) → 0 < size → n * size ≤ room → n ≤ room
count_below n size room some fits =
    let least = mul-le-mul_left n some in
    omega (arith, least)

-- a nested type is an earlier one
pub earlier_type : (layout : Layout) (n k : ℕ) (field : Field) (m : ℕ) → IsWellLaid layout → field_at layout n k ≡ Some field
    → nested_number field.base ≡ Some m → m < n
earlier_type layout n k field m laid found is = by_base field.base (laid_at layout n k field laid found).laid.size_allowed is
  where
    by_base : (base : Base) → HasBaseSize layout.pointer (take n layout.types) base field.size → nested_number base ≡ Some m → m < n
    by_base (Number kind) sized is = cc
    by_base Text sized is = cc
    by_base (Nested other) sized is =
        let same : other ≡ m = cc in
        let below = slice_get-below (take n layout.types) other sized.0 sized.1 in
        let kept = length-take n layout.types in
        omega (arith, same, below, kept)
