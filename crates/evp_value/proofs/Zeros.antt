-- The zero of a well laid type, field by field.
use Rattle.std.proofs.Common.{◌≡◌, ℕ, zero, suc, ◌+◌, ◌<◌, pos, List, [], ◌∷◌, ◌++◌, length, take, get_or, map, Option, Some, refl, sym, ap}
use Rattle.std.proofs.Common.{◌∙◌, ◌⊎◌, inl, inr, add-one}
use Rattle.std.proofs.lemmas.List.{map-append, take_more}
use Rattle.std.specs.Prelude.{slice_get}
use Rattle.evp_format.specs.Datum.{Datum, list, element, entry, copies}
use Rattle.evp_format.specs.declared.field.Field.{Field}
use Rattle.evp_format.specs.declared.field.Shape.{Shape}
use Rattle.evp_format.specs.declared.field.Shape.TheVariants.{One, Fixed, Counted}
use Rattle.evp_format.specs.declared.record_type.RecordType.{RecordType}
use Rattle.evp_format.specs.declared.value.Value.{Value}
use Rattle.evp_format.specs.Tree.{Tree, Branches, Part, branches_of, branch_at, part_of}
use Rattle.evp_format.specs.ValueView.{datum_of, elements_from, elements_of_values, entries_from}
use Rattle.evp_format.specs.WellLaid.{IsLaidType, IsCountField, HasShape, StatesDefault}
use Rattle.evp_format.specs.Zero.{zero_branches, zero_shaped, zero_part, default_of, as_count}
use Rattle.evp_value.specs.ZeroField.{zero_of_field, zero_at}

-- names and values, each value seen
abbrev pub seen_pairs : List (List ℕ × Value) → List (List ℕ × Datum)
seen_pairs pairs = map (λ (pair : List ℕ × Value). (pair.0, datum_of pair.1)) pairs

-- the fields' names and zeros
abbrev pub zero_pair : List Tree → Field → List ℕ × Datum
zero_pair trees field = (field.name, zero_of_field trees field)

abbrev pub zero_pairs : List Tree → List Field → List (List ℕ × Datum)
zero_pairs trees fields = map (zero_pair trees) fields

-- one value more of the same
copies_more : (some : List Datum) (datum : Datum) (n : ℕ) → elements_from some ≡ copies n datum
    → elements_from (some ++ datum ∷ []) ≡ copies (suc n) datum
copies_more [] datum zero same = refl
copies_more [] datum (suc n) same = cc
copies_more (first ∷ some) datum zero same = cc
copies_more (first ∷ some) datum (suc n) same =
    let first_same : first ≡ datum = cc in
    let rest : elements_from some ≡ copies n datum = cc in
    ap (λ (d : Datum). element d (elements_from (some ++ datum ∷ []))) first_same ∙ ap (element datum) (copies_more some datum n rest)

-- the field of this number of a resolved type
branch_at-branches_of : (trees : List Tree) (fields : List Field) (k : ℕ) (field : Field) → slice_get fields k ≡ Some field
    → branch_at (branches_of trees fields) k ≡ Some (field, part_of trees field.base)
branch_at-branches_of trees [] k field found = cc
branch_at-branches_of trees (first ∷ fields) zero field found = let same : first
    ≡ field = cc in ap (λ (f : Field). Some (f, part_of trees f.base)) same
branch_at-branches_of trees (first ∷ fields) (suc k) field found = branch_at-branches_of trees fields k field found

-- a count has no default other than 0
count_is_zero : (pointer : ℕ) (earlier : List RecordType) (type : RecordType) (trees : List Tree) (i c : ℕ) (field : Field)
    → IsLaidType pointer earlier type
    → slice_get type.fields i ≡ Some field → field.shape ≡ Counted c → IsCountField type.fields c
    → as_count (default_of (branch_at (branches_of trees type.fields) c)) ≡ 0
count_is_zero pointer earlier type trees i c field laid found counted count =
    ap (λ (here : Option (Field × Part)). as_count (default_of here)) (branch_at-branches_of trees type.fields c count.0 count.1)
    ∙ ap as_count (zero_default type.fields c count.0 i field found counted (laid.each_field c count.0 count.1).default_allowed)
  where
    zero_default : (fields : List Field) (c : ℕ) (counting : Field) (i : ℕ) (field : Field) → slice_get fields i ≡ Some field
        → field.shape ≡ Counted c
        → (counting.fallback ≡ pos 0) ⊎ StatesDefault fields c counting → counting.fallback ≡ pos 0
    zero_default fields c counting i field found counted (inl none) = none
    zero_default fields c counting i field found counted (inr stated) = absurd (stated.counts_nothing i field found counted)

-- a field of a well laid type has the zero in which its count is 0
zero_shaped-laid : (pointer : ℕ) (earlier : List RecordType) (type : RecordType) (trees : List Tree) (i : ℕ) (field : Field) (shape : Shape)
    (part : Part) → IsLaidType pointer earlier type
    → slice_get type.fields i ≡ Some field → field.shape ≡ shape → HasShape type.fields shape
    → zero_shaped (branches_of trees type.fields) field shape part (zero_part part) ≡ zero_at field shape part
zero_shaped-laid pointer earlier type trees i field One part laid found is shaped = refl
zero_shaped-laid pointer earlier type trees i field (Fixed n) part laid found is shaped = refl
zero_shaped-laid pointer earlier type trees i field (Counted c) part laid found is shaped =
    ap (λ (n : ℕ). list (copies n (zero_part part))) (count_is_zero pointer earlier type trees i c field laid found is shaped)

zero_branches-pairs : (all : Branches) (trees : List Tree) (fields : List Field)
    → ((i : ℕ) (field : Field) → slice_get fields i ≡ Some field
    → zero_shaped all field field.shape (part_of trees field.base) (zero_part (part_of trees field.base)) ≡ zero_of_field trees field)
    → zero_branches all (branches_of trees fields) ≡ entries_from (zero_pairs trees fields)
zero_branches-pairs all trees [] each = refl
zero_branches-pairs all trees (field ∷ fields) each =
    ap (λ (datum : Datum). entry field.name datum (zero_branches all (branches_of trees fields))) (each 0 field refl)
    ∙ ap (entry field.name (zero_of_field trees field)) (zero_branches-pairs all trees fields (λ i other found. each (suc i) other found))

-- the zero of a well laid type, as its fields' names and zeros
pub zero_branches-laid : (pointer : ℕ) (earlier : List RecordType) (type : RecordType) (trees : List Tree) → IsLaidType pointer earlier type
    → zero_branches (branches_of trees type.fields) (branches_of trees type.fields) ≡ entries_from (zero_pairs trees type.fields)
zero_branches-laid pointer earlier type trees laid =
    zero_branches-pairs (branches_of trees type.fields) trees type.fields
    (λ i field found. zero_shaped-laid pointer earlier type trees i field field.shape (part_of trees field.base) laid found refl
    (laid.each_field i field found).shape_allowed)

-- one element more
pub elements_of_values-more : (values : List Value) (value : Value) (datum : Datum) (n : ℕ) → elements_of_values values ≡ copies n datum
    → datum_of value ≡ datum
    → elements_of_values (values ++ value ∷ []) ≡ copies (n + 1) datum
elements_of_values-more values value datum n same is =
    rw (add-one, map-append datum_of values (value ∷ []), is) (copies_more (map datum_of values) datum n same)

-- one field more
pub seen_pairs-more : (trees : List Tree) (fields : List Field) (pairs : List (List ℕ × Value)) (name : List ℕ) (value : Value) (k : ℕ)
    (d : Field) → k < length fields
    → seen_pairs pairs ≡ zero_pairs trees (take k fields) → name ≡ (get_or fields k d).name
    → datum_of value ≡ zero_of_field trees (get_or fields k d)
    → seen_pairs (pairs ++ (name, value) ∷ []) ≡ zero_pairs trees (take (k + 1) fields)
seen_pairs-more trees fields pairs name value k d below same named is =
    let grown : seen_pairs (pairs ++ (name, value) ∷ []) ≡ seen_pairs pairs ++ (name, datum_of value)
    ∷ [] = map-append _ pairs ((name, value) ∷ []) in
    let more : zero_pairs trees (take (k + 1) fields) ≡ zero_pairs trees (take k fields) ++ zero_pair trees (get_or fields k d) ∷ [] =
    ap (zero_pairs trees) (take_more fields k d below) ∙ map-append (zero_pair trees) (take k fields) (get_or fields k d ∷ []) in
    let here : (name, datum_of value) ≡ zero_pair trees (get_or fields k d) = λ j. (named j, is j) in
    grown ∙ ap (λ (done : List (List ℕ × Datum)). done ++ (name, datum_of value) ∷ []) same
    ∙ ap (λ (pair : List ℕ × Datum). zero_pairs trees (take k fields) ++ pair ∷ []) here ∙ sym more
