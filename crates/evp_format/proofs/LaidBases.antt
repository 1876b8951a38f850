-- What a well laid format says of the base of a field: its size, how deep it leads, and that a nested type is an earlier one.
use Rattle.std.proofs.Common.{◌≡◌, ℕ, suc, zero, ◌+◌, ◌-◌, ◌*◌, ◌<◌, ◌≤◌, List, [], ◌∷◌, length, take, Some, ap, arith, inl, inr}
use Rattle.std.specs.Prelude.{slice_get}
use Rattle.std.proofs.lemmas.Bool.Decides.{nat_tests}
use Rattle.std.proofs.lemmas.List.{length-take}
use Rattle.evp_base.specs.declared.kind.Kind.TheVariants.{Int, Unsigned, Char, Boolean, Enumeration}
use Rattle.evp_base.proofs.Complement.{width}
use Rattle.evp_format.specs.declared.field.Base.{Base}
use Rattle.evp_format.specs.declared.field.Base.TheVariants.{Number, Text, Nested}
use Rattle.evp_format.specs.declared.field.Field.{Field}
use Rattle.evp_format.specs.declared.record_type.RecordType.{RecordType}
use Rattle.evp_format.specs.Layout.{Layout}
use Rattle.evp_format.specs.Tree.{Tree, part_in, part_of, trees, tree_of, root_of, length_of, branches_of}
use Rattle.evp_format.specs.WellLaid.{IsWellLaid, HasBaseSize, depth, part_depth, branches_depth}
use Rattle.evp_format.proofs.Trees.{slice_get-below, slice_get-take, tree_of-resolved}

-- a measure of how deep the types of a field may lead
abbrev pub rank : Base → ℕ
rank (Number kind) = 0
rank Text = 0
rank (Nested type_number) = 8 * type_number + 8

pub rank-le : (pointer : ℕ) (types : List RecordType) (n : ℕ) (base : Base) (size : ℕ) → HasBaseSize pointer (take n types) base size
    → rank base ≤ 8 * n
rank-le pointer types n (Number kind) size sized = omega arith
rank-le pointer types n Text size sized = omega arith
rank-le pointer types n (Nested m) size sized =
    let below = slice_get-below (take n types) m sized.0 sized.1 in
    let kept = length-take n types in
    omega (arith, below, kept)

-- what an earlier type allows, the types allow
pub sized_among_all : (pointer : ℕ) (types : List RecordType) (k : ℕ) (base : Base) (size : ℕ) → HasBaseSize pointer (take k types) base size
    → HasBaseSize pointer types base size
sized_among_all pointer types k (Number kind) size sized = sized
sized_among_all pointer types k Text size sized = sized
sized_among_all pointer types k (Nested n) size sized = (sized.0, slice_get-take types k n sized.0 sized.1, sized.2)

-- no element is empty
pub size_above : (layout : Layout) (base : Base) (size : ℕ) → IsWellLaid layout → HasBaseSize layout.pointer layout.types base size → 0 < size
size_above layout (Number Int) size laid sized = (width size sized).some
size_above layout (Number Unsigned) size laid sized = (width size sized).some
size_above layout (Number Char) size laid sized = grind (arith, nat_tests)
size_above layout (Number Boolean) size laid sized = (width size sized).some
size_above layout (Number Enumeration) size laid sized = (width size sized).some
size_above layout Text size laid sized = elim laid.pointer_allowed [ inl four ↦ omega arith | inr eight ↦ omega arith ]
size_above layout (Nested m) size laid sized =
    let long = (laid.each_type m sized.0 sized.1).length_allowed.0 in
    omega (arith, long, sized.2)

part_depth-branches_of : (all : List Tree) (fields : List Field) (k : ℕ) (field : Field) → slice_get fields k ≡ Some field
    → part_depth (part_of all field.base) ≤ branches_depth (branches_of all fields)
part_depth-branches_of all [] k field found = cc
part_depth-branches_of all (first ∷ fields) zero field found =
    let same : first ≡ field = cc in
    let equal : part_depth (part_of all first.base) ≡ part_depth (part_of all field.base) =
    ap (λ (f : Field). part_depth (part_of all f.base)) same in
    omega (arith, equal)
part_depth-branches_of all (first ∷ fields) (suc k) field found =
    let rest = part_depth-branches_of all fields k field found in
    omega (arith, rest)

-- a field leads less deep than its type
pub field_depth : (layout : Layout) (n k : ℕ) (type : RecordType) (field : Field) → IsWellLaid layout → slice_get layout.types n ≡ Some type
    → slice_get type.fields k ≡ Some field → part_depth (part_in layout field) + 1 ≤ depth (tree_of layout n)
field_depth layout n k type field laid there found =
    let whole : depth (tree_of layout n) ≡ suc (branches_depth (branches_of (trees layout.types) type.fields)) =
    ap depth (tree_of-resolved layout n type laid there) in
    let part = part_depth-branches_of (trees layout.types) type.fields k field found in
    omega (arith, whole, part)

-- the record's length is that of the last type
pub root_length : (layout : Layout) (type : RecordType) → IsWellLaid layout → slice_get layout.types (length layout.types - 1) ≡ Some type
    → length_of (root_of layout) ≡ type.length
root_length layout type laid there = ap length_of (tree_of-resolved layout (length layout.types - 1) type laid there)
