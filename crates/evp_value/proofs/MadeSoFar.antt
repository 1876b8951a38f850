-- A record that is being made: what was made so far, followed by what is left.
use Rattle.std.proofs.Common.{◌≡◌, ℕ, suc, ◌+◌, ◌≤◌, ◌<◌, ℤ, Bool, List, [], ◌∷◌, ◌++◌, Some, refl, sym, ap, ◌∙◌}
use Rattle.std.proofs.Common.{subst, arith, add-one, Result, Ok, Err}
use Rattle.std.proofs.lemmas.Bool.{lt-ltb, le-ltb}
use Rattle.std.specs.Prelude.{slice_get}
use Rattle.evp_format.specs.declared.field.Field.{Field}
use Rattle.evp_format.specs.declared.place.PlaceStep.{PlaceStep}
use Rattle.evp_format.specs.declared.place.PlaceStep.TheVariants.{At}
use Rattle.evp_format.specs.declared.record_type.RecordType.{RecordType}
use Rattle.evp_format.specs.declared.value.Value.{Value}
use Rattle.evp_format.specs.Converting.{convert, Made, made, unfit, large, then_make, unless_large, make_elements, make_tree, make_branches}
use Rattle.evp_format.specs.Converting.{numbers_from}
use Rattle.evp_format.specs.Datum.{Datum, rec, Elements, empty_list, element, Entries, empty_record, entry, named, entries_of}
use Rattle.evp_format.specs.Layout.{Layout}
use Rattle.evp_format.specs.Tree.{Tree, trees, tree_of, root_of, length_of, branches_of}
use Rattle.evp_format.specs.ValueView.{datum_of, elements_from, elements_of_values, entries_from}
use Rattle.evp_format.specs.WellLaid.{IsWellLaid, depth, branches_depth}
use Rattle.evp_format.proofs.Trees.{tree_of-resolved}
use Rattle.evp_value.specs.declared.refused.Refused.{Refused}
use Rattle.evp_value.specs.declared.refused.Refused.TheVariants.{Unfit, Large, Memory}
use Rattle.evp_value.specs.Making.{Gives, IsMadeSomehow, IsRefusal, make_field}

-- a refusal is that of all that goes on from it
pub refused_then : {A B : Type 0} (refused : Refused) (said : Made A) (next : A → ℕ → Made B) → IsRefusal refused said
    → IsRefusal refused (then_make said next)
refused_then {A = A} (Unfit place) said next is = ap (λ (m : Made A). then_make m next) is
refused_then {A = A} (Large place) said next is = ap (λ (m : Made A). then_make m next) is
refused_then Memory said next is = tt

pub refused_as : {A : Type 0} (refused : Refused) (said other : Made A) → said ≡ other → IsRefusal refused said → IsRefusal refused other
refused_as refused said other same is = subst (IsRefusal refused) same is

-- ---- elements

abbrev pub behind : List Datum → Elements → Elements
behind [] rest = rest
behind (datum ∷ done) rest = element datum (behind done rest)

pub behind-none : (done : List Datum) → behind done empty_list ≡ elements_from done
behind-none [] = refl
behind-none (datum ∷ done) = ap (element datum) (behind-none done)

behind-more : (done : List Datum) (datum : Datum) (rest : Elements) → behind done (element datum rest) ≡ behind (done ++ datum ∷ []) rest
behind-more [] datum rest = refl
behind-more (first ∷ done) datum rest = ap (element first) (behind-more done datum rest)

-- what was made so far, followed by what is made of those that are left
abbrev pub elements_left : (ℕ → Datum → ℕ → Made Datum) → List Datum → ℕ → ℕ → List Value → Made Elements
elements_left one done k size left = then_make (make_elements one (elements_of_values left) k size)
    (λ rest end. made (behind done rest) end)

element_joined : (done : List Datum) (datum : Datum) (rest : Made Elements)
    → then_make (then_make rest (λ others last. made (element datum others) last)) (λ all end. made (behind done all) end)
    ≡ then_make rest (λ others end. made (behind (done ++ datum ∷ []) others) end)
element_joined done datum (made others size) = ap (λ (es : Elements). made es size) (behind-more done datum others)
element_joined done datum (unfit place) = refl
element_joined done datum (large place) = refl

pub element_made : (one : ℕ → Datum → ℕ → Made Datum) (done : List Datum) (k size : ℕ) (value : Value) (left : List Value) (datum : Datum)
    (after : ℕ) → one k (datum_of value) size ≡ made datum after
    → elements_left one done k size (value ∷ left) ≡ elements_left one (done ++ datum ∷ []) (k + 1) after left
element_made one done k size value left datum after is =
    ap (λ (m : Made Datum). then_make
    (then_make m (λ first end. then_make (make_elements one (elements_of_values left) (suc k) end)
    (λ rest last. made (element first rest) last))) (λ rest end. made (behind done rest) end)) is
    ∙ element_joined done datum (make_elements one (elements_of_values left) (suc k) after)
    ∙ ap (λ (n : ℕ). elements_left one (done ++ datum ∷ []) n after left) (sym (add-one k))

-- ---- fields

abbrev pub entries_behind : List (List ℕ × Datum) → Entries → Entries
entries_behind [] rest = rest
entries_behind (pair ∷ done) rest = entry pair.0 pair.1 (entries_behind done rest)

pub entries_behind-none : (done : List (List ℕ × Datum)) → entries_behind done empty_record ≡ entries_from done
entries_behind-none [] = refl
entries_behind-none (pair ∷ done) = ap (entry pair.0 pair.1) (entries_behind-none done)

entries_behind-more : (done : List (List ℕ × Datum)) (name : List ℕ) (datum : Datum) (rest : Entries)
    → entries_behind done (entry name datum rest) ≡ entries_behind (done ++ (name, datum) ∷ []) rest
entries_behind-more [] name datum rest = refl
entries_behind-more (pair ∷ done) name datum rest = ap (entry pair.0 pair.1) (entries_behind-more done name datum rest)

-- what a record is made of
pub record Making : Type 0 where
  pub limit : ℕ
  pub layout : Layout
  pub numbers : List ℤ
  pub place : List PlaceStep
  pub partner : Entries

abbrev pub fields_left : Making → List (List ℕ × Datum) → ℕ → ℕ → List Field → Made Entries
fields_left m done k size left =
    then_make (make_branches m.limit (branches_of (trees m.layout.types) left) m.numbers k m.place m.partner size)
    (λ rest end. made (entries_behind done rest) end)

-- a field of it
abbrev pub field_of : Making → ℕ → ℕ → Field → Made Datum
field_of m k size field = make_field m.limit m.layout field m.numbers k (m.place ++ At k ∷ []) (named field.name m.partner) size

field_joined : (done : List (List ℕ × Datum)) (name : List ℕ) (datum : Datum) (rest : Made Entries)
    → then_make (then_make rest (λ others last. made (entry name datum others) last)) (λ all end. made (entries_behind done all) end)
    ≡ then_make rest (λ others end. made (entries_behind (done ++ (name, datum) ∷ []) others) end)
field_joined done name datum (made others size) = ap (λ (es : Entries). made es size) (entries_behind-more done name datum others)
field_joined done name datum (unfit place) = refl
field_joined done name datum (large place) = refl

pub field_made : (m : Making) (done : List (List ℕ × Datum)) (k size : ℕ) (field : Field) (left : List Field) (datum : Datum) (after : ℕ)
    → field_of m k size field ≡ made datum after
    → fields_left m done k size (field ∷ left) ≡ fields_left m (done ++ (field.name, datum) ∷ []) (k + 1) after left
field_made m done k size field left datum after is =
    let others = λ (end : ℕ). make_branches m.limit (branches_of (trees m.layout.types) left) m.numbers (suc k) m.place m.partner end in
    ap (λ (first : Made Datum). then_make
    (then_make first (λ value end. then_make (others end) (λ rest last. made (entry field.name value rest) last)))
    (λ rest end. made (entries_behind done rest) end)) is
    ∙ field_joined done field.name datum (others after)
    ∙ ap (λ (n : ℕ). fields_left m (done ++ (field.name, datum) ∷ []) n after left) (sym (add-one k))

pub field_refused : (m : Making) (done : List (List ℕ × Datum)) (k size : ℕ) (field : Field) (left : List Field) (refused : Refused)
    → IsRefusal refused (field_of m k size field)
    → IsRefusal refused (fields_left m done k size (field ∷ left))
field_refused m done k size field left refused is =
    let others = λ (end : ℕ). make_branches m.limit (branches_of (trees m.layout.types) left) m.numbers (suc k) m.place m.partner end in
    refused_then refused (make_branches m.limit (branches_of (trees m.layout.types) (field ∷ left)) m.numbers k m.place m.partner size)
    (λ rest end. made (entries_behind done rest) end)
    (refused_then refused (field_of m k size field)
    (λ value end. then_make (others end) (λ rest last. made (entry field.name value rest) last)) is)

-- ---- a record

abbrev pub whole_record : Made Entries → Made Datum
whole_record fields = then_make fields (λ entries after. made (rec entries) after)

-- a record of a type: its numbers, then its fields
pub record_as : (limit : ℕ) (layout : Layout) (n : ℕ) (type : RecordType) (fields : List Field) (place : List PlaceStep) (partner : Entries)
    (size : ℕ) → IsWellLaid layout → slice_get layout.types n ≡ Some type
    → fields ≡ type.fields → make_tree limit (tree_of layout n) place partner size
    ≡ then_make (numbers_from place 0 (branches_of (trees layout.types) fields) partner)
    (λ numbers none. whole_record (make_branches limit (branches_of (trees layout.types) fields) numbers 0 place partner size))
record_as limit layout n type fields place partner size laid there are =
    let made_of = λ (some : List Field). then_make (numbers_from place 0 (branches_of (trees layout.types) some) partner)
    (λ numbers none. whole_record (make_branches limit (branches_of (trees layout.types) some) numbers 0 place partner size)) in
    ap (λ (t : Tree). make_tree limit t place partner size) (tree_of-resolved layout n type laid there) ∙ ap made_of (sym are)

-- where its numbers are made
pub record_behind : (limit : ℕ) (layout : Layout) (n : ℕ) (type : RecordType) (fields : List Field) (place : List PlaceStep)
    (partner : Entries) (size : ℕ) (numbers : List ℤ) (none : ℕ) → IsWellLaid layout
    → slice_get layout.types n ≡ Some type → fields ≡ type.fields
    → numbers_from place 0 (branches_of (trees layout.types) fields) partner ≡ made numbers none
    → make_tree limit (tree_of layout n) place partner size ≡ whole_record
    (make_branches limit (branches_of (trees layout.types) fields) numbers 0 place partner size)
record_behind limit layout n type fields place partner size numbers none laid there are is =
    record_as limit layout n type fields place partner size laid there are
    ∙ ap (λ (m : Made (List ℤ)). then_make m
    (λ ns none'. whole_record (make_branches limit (branches_of (trees layout.types) fields) ns 0 place partner size))) is

pub depth_some : (layout : Layout) (n : ℕ) (type : RecordType) → IsWellLaid layout → slice_get layout.types n ≡ Some type
    → 1 ≤ depth (tree_of layout n)
depth_some layout n type laid there =
    let whole : depth (tree_of layout n) ≡ suc (branches_depth (branches_of (trees layout.types) type.fields)) = ap depth
    (tree_of-resolved layout n type laid there) in
    omega (arith, whole)

-- ---- the whole

pub convert_large : (layout : Layout) (value : Datum) (limit : ℕ) → limit < length_of (root_of layout)
    → convert layout value limit ≡ large []
convert_large layout value limit over =
    ap (λ (t : Bool). unless_large t [] (λ _. make_tree limit (root_of layout) [] (entries_of (Some value)) (length_of (root_of layout))))
    (lt-ltb limit (length_of (root_of layout)) over)

pub convert_within : (layout : Layout) (value : Datum) (limit : ℕ) → length_of (root_of layout) ≤ limit
    → convert layout value limit ≡ make_tree limit (root_of layout) [] (entries_of (Some value)) (length_of (root_of layout))
convert_within layout value limit within =
    ap (λ (t : Bool). unless_large t [] (λ _. make_tree limit (root_of layout) [] (entries_of (Some value)) (length_of (root_of layout))))
    (le-ltb limit (length_of (root_of layout)) within)

-- of some size
pub made_somehow : (result : Result Value Refused) (size : ℕ) (said : Made Datum) → Gives datum_of result size said
    → IsMadeSomehow result said
made_somehow (Ok value) size said gives = (size, gives)
made_somehow (Err refused) size said gives = gives
