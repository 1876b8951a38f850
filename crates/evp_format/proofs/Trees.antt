-- The tree of a type: it doesn't depend on later types, and a well laid type's is resolved against the trees of all types.
use Rattle.std.proofs.Common.{◌≡◌, ℕ, zero, suc, ◌+◌, ◌-◌, ◌<◌, ◌≤◌, List, [], ◌∷◌, ◌++◌, length, get_or, take, drop, Some, refl, sym, ap}
use Rattle.std.proofs.Common.{◌∙◌, subst, arith, length-append, take-append-drop}
use Rattle.std.specs.Prelude.{slice_get}
use Rattle.evp_format.specs.declared.field.Base.{Base}
use Rattle.evp_format.specs.declared.field.Base.TheVariants.{Number, Text, Nested}
use Rattle.evp_format.specs.declared.field.Field.{Field}
use Rattle.evp_format.specs.declared.record_type.RecordType.{RecordType}
use Rattle.evp_format.specs.LaidTree.{Matches, IsLaidRecord, IsLaidTree, AreLaidBranches, IsLaidPart}
use Rattle.evp_format.specs.Layout.{Layout}
use Rattle.evp_format.specs.Tree.{Tree, tree_part, empty_tree, part_of, branches_of, resolved, trees_behind, trees, tree_of, root_of}
use Rattle.evp_format.specs.Tree.{fields_of, tree, length_of}
use Rattle.evp_format.specs.WellLaid.{IsWellLaid, HasBaseSize}

pub trees_behind-append : (earlier : List Tree) (types more : List RecordType)
    → trees_behind earlier (types ++ more) ≡ trees_behind (trees_behind earlier types) more
trees_behind-append earlier [] more = refl
trees_behind-append earlier (type ∷ types) more = trees_behind-append (earlier ++ resolved earlier type ∷ []) types more

pub length-trees_behind : (earlier : List Tree) (types : List RecordType)
    → length (trees_behind earlier types) ≡ length earlier + length types
length-trees_behind earlier [] = omega arith
length-trees_behind earlier (type ∷ types) =
    let rest = length-trees_behind (earlier ++ resolved earlier type ∷ []) types in
    let grown = length-append earlier (resolved earlier type ∷ []) in
    omega (arith, rest, grown)

-- an element of the first of two lists
get_or-append_left : {A : Type 0} (xs ys : List A) (k : ℕ) (d : A) → k < length xs → get_or (xs ++ ys) k d ≡ get_or xs k d
get_or-append_left [] ys k d below = absurd (omega arith)
get_or-append_left (x ∷ xs) ys zero d below = refl
get_or-append_left (x ∷ xs) ys (suc k) d below = get_or-append_left xs ys k d (omega arith)

get_or-append_at : {A : Type 0} (xs ys : List A) (x : A) (d : A) → get_or (xs ++ x ∷ ys) (length xs) d ≡ x
get_or-append_at [] ys x d = refl
get_or-append_at (y ∷ xs) ys x d = get_or-append_at xs ys x d

pub get_or-trees_behind : (earlier : List Tree) (types : List RecordType) (k : ℕ) (d : Tree) → k < length earlier
    → get_or (trees_behind earlier types) k d ≡ get_or earlier k d
get_or-trees_behind earlier [] k d below = refl
get_or-trees_behind earlier (type ∷ types) k d below =
    let grown = length-append earlier (resolved earlier type ∷ []) in
    get_or-trees_behind (earlier ++ resolved earlier type ∷ []) types k d (omega (arith, grown))
    ∙ get_or-append_left earlier (resolved earlier type ∷ []) k d below

-- the tree of an earlier type doesn't depend on later types
pub get_or-trees-append : (types more : List RecordType) (k : ℕ) (d : Tree) → k < length types
    → get_or (trees (types ++ more)) k d ≡ get_or (trees types) k d
get_or-trees-append types more k d below =
    let count = length-trees_behind [] types in
    ap (λ (all : List Tree). get_or all k d) (trees_behind-append [] types more)
    ∙ get_or-trees_behind (trees types) more k d (omega (arith, count))

-- a list split round the element at k
split_at : (types : List RecordType) (k : ℕ) (type : RecordType) → slice_get types k ≡ Some type
    → types ≡ take k types ++ type ∷ drop (suc k) types
split_at [] k type found = cc
split_at (first ∷ types) zero type found = let same : first ≡ type = cc in ap (λ (t : RecordType). t ∷ types) same
split_at (first ∷ types) (suc k) type found = ap (λ (rest : List RecordType). first ∷ rest) (split_at types k type found)

pub slice_get-below : {A : Type 0} (xs : List A) (k : ℕ) (x : A) → slice_get xs k ≡ Some x → k < length xs
slice_get-below [] k x found = cc
slice_get-below (y ∷ xs) zero x found = omega arith
slice_get-below (y ∷ xs) (suc k) x found = let below = slice_get-below xs k x found in omega (arith, below)

length-take_below : {A : Type 0} (xs : List A) (k : ℕ) → k ≤ length xs → length (take k xs) ≡ k
length-take_below xs zero below = refl
length-take_below [] (suc k) below = absurd (omega arith)
length-take_below (x ∷ xs) (suc k) below = ap suc (length-take_below xs k (omega arith))

-- the tree of type k, resolved against the trees of the types before it
pub get_or-trees : (types : List RecordType) (k : ℕ) (type : RecordType) (d : Tree) → slice_get types k ≡ Some type
    → get_or (trees types) k d ≡ resolved (trees (take k types)) type
get_or-trees types k type d found =
    let below = slice_get-below types k type found in
    let before = length-trees_behind [] (take k types) in
    let taken = length-take_below types k (omega (arith, below)) in
    let here : length (trees (take k types)) ≡ k = omega (arith, before, taken) in
    let split = split_at types k type found in
    let first = trees (take k types) in
    let one = resolved first type in
    let all : trees types ≡ trees_behind (first ++ one ∷ []) (drop (suc k) types) =
    ap trees split ∙ trees_behind-append [] (take k types) (type ∷ drop (suc k) types) in
    let grown = length-append first (one ∷ []) in
    ap (λ (some : List Tree). get_or some k d) all
    ∙ get_or-trees_behind (first ++ one ∷ []) (drop (suc k) types) k d (omega (arith, grown, here))
    ∙ ap (λ (i : ℕ). get_or (first ++ one ∷ []) i d) (sym here) ∙ get_or-append_at first [] one d

-- an element of a prefix is one of the whole list
pub slice_get-take : {A : Type 0} (xs : List A) (k n : ℕ) (x : A) → slice_get (take k xs) n ≡ Some x → slice_get xs n ≡ Some x
slice_get-take xs zero n x found = cc
slice_get-take [] (suc k) n x found = cc
slice_get-take (y ∷ xs) (suc k) zero x found = found
slice_get-take (y ∷ xs) (suc k) (suc n) x found = slice_get-take xs k n x found

-- the fields of a resolved type are its own
pub fields_of-branches_of : (earlier : List Tree) (fields : List Field) → fields_of (branches_of earlier fields) ≡ fields
fields_of-branches_of earlier [] = refl
fields_of-branches_of earlier (field ∷ fields) = ap (λ (rest : List Field). field ∷ rest) (fields_of-branches_of earlier fields)

-- a base that names a type before k is resolved alike by the trees of all types
part_of-trees : (pointer : ℕ) (types : List RecordType) (k : ℕ) (base : Base) (size : ℕ) → HasBaseSize pointer (take k types) base size
    → part_of (trees (take k types)) base ≡ part_of (trees types) base
part_of-trees pointer types k (Number kind) size sized = refl
part_of-trees pointer types k Text size sized = refl
part_of-trees pointer types k (Nested n) size sized =
    let below = slice_get-below (take k types) n sized.0 sized.1 in
    ap tree_part (sym (get_or-trees-append (take k types) (drop k types) n empty_tree below)
    ∙ ap (λ (all : List RecordType). get_or (trees all) n empty_tree) (take-append-drop k types))

branches_of-trees : (pointer : ℕ) (types : List RecordType) (k : ℕ) (fields : List Field)
    → ((i : ℕ) (field : Field) → slice_get fields i ≡ Some field → HasBaseSize pointer (take k types) field.base field.size)
    → branches_of (trees (take k types)) fields ≡ branches_of (trees types) fields
branches_of-trees pointer types k [] sized = refl
branches_of-trees pointer types k (field ∷ fields) sized =
    let part = part_of-trees pointer types k field.base field.size (sized 0 field refl) in
    let rest = branches_of-trees pointer types k fields (λ i other found. sized (suc i) other found) in
    rw (part, rest) refl

-- the tree of type k of a well laid format is resolved against the trees of all types
pub tree_of-resolved : (layout : Layout) (k : ℕ) (type : RecordType) → IsWellLaid layout → slice_get layout.types k ≡ Some type
    → tree_of layout k ≡ resolved (trees layout.types) type
tree_of-resolved layout k type laid found =
    let here = get_or-trees layout.types k type empty_tree found in
    let each = laid.each_type k type found in
    here ∙ ap (tree type.length) (branches_of-trees layout.pointer layout.types k type.fields
    (λ i field at. (each.each_field i field at).size_allowed))

-- the parts of fields whose bases name types that are well laid as trees
laid_branches : (pointer : ℕ) (earlier : List RecordType) (all : List Tree) (fields : List Field)
    → ((n : ℕ) (type : RecordType) → slice_get earlier n ≡ Some type → (type.length ≡ length_of (get_or all n empty_tree))
    × IsLaidTree pointer (get_or all n empty_tree))
    → ((i : ℕ) (field : Field) → slice_get fields i ≡ Some field → HasBaseSize pointer earlier field.base field.size)
    → AreLaidBranches pointer (branches_of all fields)
laid_branches pointer earlier all [] nested sized = tt
laid_branches pointer earlier all (field ∷ fields) nested sized =
    let first = laid_part pointer earlier all field.base field.size nested (sized 0 field refl) in
    let rest = laid_branches pointer earlier all fields nested (λ i other found. sized (suc i) other found) in
    (first.0, first.1, rest)
  where
    laid_part : (pointer : ℕ) (earlier : List RecordType) (all : List Tree) (base : Base) (size : ℕ)
        → ((n : ℕ) (type : RecordType) → slice_get earlier n ≡ Some type → (type.length ≡ length_of (get_or all n empty_tree))
        × IsLaidTree pointer (get_or all n empty_tree))
        → HasBaseSize pointer earlier base size → Matches base (part_of all base) × IsLaidPart pointer size (part_of all base)
    laid_part pointer earlier all (Number kind) size nested sized = (refl, sized)
    laid_part pointer earlier all Text size nested sized = (tt, sized)
    laid_part pointer earlier all (Nested n) size nested sized =
        let inside = nested n sized.0 sized.1 in (tt, (sized.2 ∙ inside.0, inside.1))

length-take_le : {A : Type 0} (k : ℕ) (xs : List A) → length (take k xs) ≤ k
length-take_le zero xs = omega arith
length-take_le (suc k) [] = omega arith
length-take_le (suc k) (x ∷ xs) = let rest = length-take_le k xs in omega (arith, rest)

-- the tree of type k is well laid where those of the earlier types are
laid_tree_step : (layout : Layout) (k : ℕ) (type : RecordType) → IsWellLaid layout → slice_get layout.types k ≡ Some type
    → ((n : ℕ) (inner : RecordType) → slice_get (take k layout.types) n ≡ Some inner
    → (inner.length ≡ length_of (get_or (trees layout.types) n empty_tree))
    × IsLaidTree layout.pointer (get_or (trees layout.types) n empty_tree))
    → IsLaidTree layout.pointer (resolved (trees layout.types) type)
laid_tree_step layout k type laid found nested =
    let each = laid.each_type k type found in
    let record_laid : IsLaidRecord layout.pointer type.length (branches_of (trees layout.types) type.fields) =
    record {
      earlier = take k layout.types;
      type = type;
      laid = each;
      has_length = refl;
      has_fields = sym (fields_of-branches_of (trees layout.types) type.fields);
    } in (
      record_laid,
      laid_branches layout.pointer (take k layout.types) (trees layout.types) type.fields nested
          (λ i field at. (each.each_field i field at).size_allowed),
    )

-- the tree of each type of a well laid format is well laid, and of the type's length
laid_tree_below : (layout : Layout) → IsWellLaid layout → (n k : ℕ) (type : RecordType) → k < n → slice_get layout.types k ≡ Some type
    → (type.length ≡ length_of (tree_of layout k)) × IsLaidTree layout.pointer (tree_of layout k)
laid_tree_below layout laid zero k type below found = absurd (omega arith)
laid_tree_below layout laid (suc n) k type below found =
    let same = tree_of-resolved layout k type laid found in
    let step =
    laid_tree_step layout k type laid found
    (λ m inner at.
    let inside = slice_get-below (take k layout.types) m inner at in
    let kept = length-take_le k layout.types in
    laid_tree_below layout laid n m inner (omega arith) (slice_get-take layout.types k m inner at)) in
    let Laid : Tree → Type 0 = λ t. (type.length ≡ length_of t) × IsLaidTree layout.pointer t in
    subst Laid (sym same) (refl, step)

pub laid_tree : (layout : Layout) (k : ℕ) (type : RecordType) → IsWellLaid layout → slice_get layout.types k ≡ Some type
    → (type.length ≡ length_of (tree_of layout k)) × IsLaidTree layout.pointer (tree_of layout k)
laid_tree layout k type laid found = laid_tree_below layout laid (suc k) k type (omega arith) found

-- there is an element below the length
pub found_below : {A : Type 0} (xs : List A) (k : ℕ) → k < length xs → (x : A) × (slice_get xs k ≡ Some x)
found_below [] k below = absurd (omega arith)
found_below (x ∷ xs) zero below = (x, refl)
found_below (x ∷ xs) (suc k) below = found_below xs k (omega arith)

-- the record of a well laid format is well laid
pub laid_root : (layout : Layout) → IsWellLaid layout → IsLaidTree layout.pointer (root_of layout)
laid_root layout laid =
    let some = laid.types_allowed.0 in
    let last = found_below layout.types (length layout.types - 1) (omega arith) in
    (laid_tree layout (length layout.types - 1) last.0 laid last.1).1
