-- What a conversion makes is of the receiver's format, and of the packed size that it says.
use Rattle.std.proofs.Common.{◌≡◌, ℕ, zero, suc, ◌+◌, ◌*◌, ◌≤◌, ℤ, pos, negsuc, false, not, nat_lt, nat_eq, List, [], ◌∷◌, ◌++◌, length}
use Rattle.std.proofs.Common.{Option, Some, None, refl, sym, ap, ◌∙◌, subst, arith}
use Rattle.std.proofs.lemmas.Bool.{eqb-true, ltb-false, not-false}
use Rattle.std.specs.Prelude.{slice_get}
use Rattle.evp_base.specs.declared.kind.Kind.{Kind}
use Rattle.evp_base.specs.Numbers.{is_in_range, InRange}
use Rattle.evp_format.specs.declared.field.Field.{Field}
use Rattle.evp_format.specs.declared.field.Shape.{Shape}
use Rattle.evp_format.specs.declared.field.Shape.TheVariants.{One, Fixed, Counted}
use Rattle.evp_format.specs.declared.place.PlaceStep.{PlaceStep}
use Rattle.evp_format.specs.declared.place.PlaceStep.TheVariants.{At, Nth}
use Rattle.evp_format.specs.Bytes.{next_block}
use Rattle.evp_format.specs.Converting.{Made, made, then_make, has_other_length, take_block, list_block, make_or_zero, make_list}
use Rattle.evp_format.specs.Converting.{make_elements, elements_of, entries_of, as_number, numbers_from, number_at, make_single}
use Rattle.evp_format.specs.Converting.{make_shaped, make_tree, make_branches, make_part}
use Rattle.evp_format.specs.Datum.{Datum, num, null, text, list, rec, Elements, empty_list, element, Entries, empty_record, entry, entry_at}
use Rattle.evp_format.specs.Datum.{named, copies, count_of}
use Rattle.evp_format.specs.LaidTree.{IsLaidRecord, IsLaidTree, AreLaidBranches, IsLaidPart}
use Rattle.evp_format.specs.Laws.{ConvertedIsReceivers}
use Rattle.evp_format.specs.Packing.{Machine, Pieces, machine_of, pack_elements, pack_counted, pack_shaped, pack_tree, pack_branches}
use Rattle.evp_format.specs.Packing.{pack_part}
use Rattle.evp_format.specs.Tree.{Tree, tree, Branches, no_fields, branch, branch_at, Part, number_part, text_part, tree_part, fields_of}
use Rattle.evp_format.specs.Tree.{length_of, root_of}
use Rattle.evp_format.specs.Typed.{EachElement, IsListOf, IsShaped, IsRecordOf, IsOfTree, IsOfBranches, IsOfPart, count_in}
use Rattle.evp_format.specs.Zero.{zero_part}
use Rattle.evp_format.proofs.Made.{IsMade, MakesEach, went_on, fitted, within, block_taken, made_text, made_elements}
use Rattle.evp_format.proofs.MadeNumbers.{numbers_ranged, number_made}
use Rattle.evp_format.proofs.TextsInside.{HasTexts, EachHasTexts, EntriesHaveTexts, HasTextsWhereSome, named_texts, part_texts}
use Rattle.evp_format.proofs.Trees.{laid_root}
use Rattle.evp_format.proofs.WellLaidTypes.{in_range_is}
use Rattle.evp_format.proofs.ZeroSizes.{zero_part_size, copies_size}
use Rattle.evp_format.proofs.Zeros.{counter_found, copies_typed, count_of-copies, zero_part_typed}

-- what an array is made of
pub record MakesElements (P : Datum → Type 0) (packs : ℕ → Datum → ℕ → Pieces) (limit : ℕ) (one : List PlaceStep → Datum → ℕ → Made Datum)
    (zero_element : Datum) : Type 0 where
  pub each : MakesEach P packs limit one
  pub zero_typed : P zero_element
  pub zero_packed : (at size : ℕ) → (packs at zero_element size).size ≡ size

-- the texts of a partner's list
abbrev HasTextsInList : Option Elements → Type 0
HasTextsInList None = Unit {0}
HasTextsInList (Some elements) = EachHasTexts elements

elements_texts : (partner : Option Datum) → HasTextsWhereSome partner → HasTextsInList (elements_of partner)
elements_texts None texts = tt
elements_texts (Some (num z)) texts = tt
elements_texts (Some null) texts = tt
elements_texts (Some (text bytes)) texts = tt
elements_texts (Some (list elements)) texts = texts
elements_texts (Some (rec entries)) texts = tt

-- a list of n elements, and their pieces behind the list's own block
record IsListMade (P : Datum → Type 0) (packs : ℕ → Datum → ℕ → Pieces) (limit n size : ℕ) (value : Datum) (after : ℕ) : Type 0 where
  elements : Elements
  is : list elements ≡ value
  typed : EachElement P elements
  count : count_of elements ≡ n
  packed : (base element_size : ℕ) → (pack_elements (λ i. packs (base + i * element_size)) elements 0 size).size ≡ after
  within : after ≤ limit

list_made : (P : Datum → Type 0) (packs : ℕ → Datum → ℕ → Pieces) (limit : ℕ) (one : List PlaceStep → Datum → ℕ → Made Datum)
    (places : ℕ → List PlaceStep) (zero_element : Datum) → MakesElements P packs limit one zero_element
    → (n : ℕ) (partners : Option Elements) (size after : ℕ) (value : Datum) → HasTextsInList partners → has_other_length n partners ≡ false
    → size ≤ limit
    → make_or_zero (λ i. one (places i)) zero_element n partners size ≡ made value after → IsListMade P packs limit n size value after
list_made P packs limit one places zero_element makes n None size after value texts counted fits is =
    let same : list (copies n zero_element) ≡ value = cc in
    let end : size ≡ after = cc in
    let typed = copies_typed P n zero_element makes.zero_typed in
    record {
      elements = copies n zero_element;
      is = same;
      typed = typed.1;
      count = count_of-copies n zero_element;
      packed = λ base element_size. copies_size (λ i. packs (base + i * element_size)) zero_element
          (λ i s. makes.zero_packed (base + i * element_size) s) n 0 size ∙ end;
      within = omega (arith, end, fits);
    }
list_made P packs limit one places zero_element makes n (Some partners) size after value texts counted fits is =
    let elements = went_on (make_elements (λ i. one (places i)) partners 0 size) (λ elements end. made (list elements) end) value after is
    in
    let good = made_elements P packs limit one places makes.each partners 0 size elements.size elements.value_first texts fits
    elements.makes in
    let same : list elements.value_first ≡ value = (let h = elements.rest in cc) in
    let end : elements.size ≡ after = (let h = elements.rest in cc) in
    let equal = eqb-true (count_of partners) n (not-false (nat_eq (count_of partners) n) counted) in
    record {
      elements = elements.value_first;
      is = same;
      typed = good.typed;
      count = good.count ∙ equal;
      packed = λ base element_size. good.packed base element_size ∙ end;
      within = subst (λ (m : ℕ). m ≤ limit) end good.within;
    }

-- the entries of a partner
entries_texts : (partner : Option Datum) → HasTextsWhereSome partner → EntriesHaveTexts (entries_of partner)
entries_texts None texts = tt
entries_texts (Some (num z)) texts = tt
entries_texts (Some null) texts = tt
entries_texts (Some (text bytes)) texts = tt
entries_texts (Some (list elements)) texts = tt
entries_texts (Some (rec entries)) texts = texts

-- how a field is packed
abbrev packs_field : Machine → Field → Shape → Part → ℕ → Datum → ℕ → Pieces
packs_field machine field shape part at datum size = pack_shaped machine field shape at datum
    (λ offset value after. pack_part machine part field.size offset value after) size

-- how a part is made and packed
abbrev makes_part : ℕ → Part → ℕ → List PlaceStep → Datum → ℕ → Made Datum
makes_part limit part element_size place datum size = make_part limit part element_size place datum size

abbrev packs_part : Machine → Part → ℕ → ℕ → Datum → ℕ → Pieces
packs_part machine part element_size at datum size = pack_part machine part element_size at datum size

abbrev MakesPart : Machine → ℕ → Part → ℕ → Type 0
MakesPart machine limit part element_size = MakesElements (IsOfPart part element_size) (packs_part machine part element_size) limit
    (makes_part limit part element_size) (zero_part part)

-- an array inside the record
fixed_made : (machine : Machine) (limit : ℕ) (field : Field) (part : Part) (n : ℕ) (place : List PlaceStep) (partner : Option Datum)
    (size after : ℕ) (value : Datum) → field.shape ≡ Fixed n → MakesPart machine limit part field.size
    → HasTextsWhereSome partner → size ≤ limit → make_list limit field place (pos n) (elements_of partner) (zero_part part)
    (λ i. make_part limit part field.size (place ++ Nth i ∷ [])) size ≡ made value after
    → IsMade (IsListOf (IsOfPart part field.size) (Some (pos n))) (packs_field machine field (Fixed n) part) limit size value after
fixed_made machine limit field part n place partner size after value shape makes texts fits is =
    let makes_all = λ (end : ℕ). make_or_zero (λ i. make_part limit part field.size (place ++ Nth i ∷ [])) (zero_part part) n
    (elements_of partner) end in
    let counted = fitted (has_other_length n (elements_of partner)) place
    (λ _. list_block field.shape limit field.size place n size makes_all) value after is in
    let here : makes_all size ≡ made value after = ap (λ (s : Shape). list_block s limit field.size place n size makes_all) (sym shape)
    ∙ counted.1 in
    let good =
    list_made (IsOfPart part field.size) (packs_part machine part field.size) limit (makes_part limit part field.size)
    (λ i. place ++ Nth i ∷ []) (zero_part part) makes n (elements_of partner) size after value
    (elements_texts partner texts) counted.0 fits here in
    let Right : Datum → Type 0 = λ v. IsMade (IsListOf (IsOfPart part field.size) (Some (pos n))) (packs_field machine field (Fixed n) part)
    limit size v after in
    subst Right good.is (record {
      typed = (ap (λ (m : ℕ). Some (pos m)) (sym good.count), good.typed);
      packed = λ at. good.packed (at + field.offset) field.size;
      within = good.within;
    })

-- what a counted array's block and elements take
counted_size : (machine : Machine) (at element_size : ℕ) (packs : ℕ → Datum → ℕ → Pieces) (n size : ℕ) (elements : Elements) (after : ℕ)
    → count_of elements ≡ suc n
    → ((base step : ℕ) → (pack_elements (λ i. packs (base + i * step)) elements 0 (next_block size + suc n * element_size)).size ≡ after)
    → (pack_counted machine at element_size elements packs size).size ≡ after
counted_size machine at element_size packs n size empty_list after count packed = absurd (omega arith)
counted_size machine at element_size packs n size (element datum rest) after count packed =
    let q = next_block size in
    ap (λ (m : ℕ). (pack_elements (λ i. packs (q + i * element_size)) (element datum rest) 0 (q + m * element_size)).size) count
    ∙ packed q element_size

none_counted : (machine : Machine) (at element_size : ℕ) (packs : ℕ → Datum → ℕ → Pieces) (size : ℕ) (elements : Elements) (after : ℕ)
    → count_of elements ≡ 0
    → (pack_elements (λ i. packs (0 + i * 0)) elements 0 size).size ≡ after
    → (pack_counted machine at element_size elements packs size).size ≡ after
none_counted machine at element_size packs size empty_list after count packed = packed
none_counted machine at element_size packs size (element datum rest) after count packed = absurd (omega arith)

counted_made : (machine : Machine) (limit : ℕ) (field : Field) (part : Part) (c : ℕ) (z : ℤ) (place : List PlaceStep)
    (partner : Option Datum) (size after : ℕ) (value : Datum) → field.shape ≡ Counted c
    → MakesPart machine limit part field.size → HasTextsWhereSome partner → size ≤ limit
    → make_list limit field place z (elements_of partner) (zero_part part) (λ i. make_part limit part field.size (place ++ Nth i ∷ [])) size
    ≡ made value after
    → IsMade (IsListOf (IsOfPart part field.size) (Some z)) (packs_field machine field (Counted c) part) limit size value after
counted_made machine limit field part c (negsuc n) place partner size after value shape makes texts fits is = cc
counted_made machine limit field part c (pos zero) place partner size after value shape makes texts fits is =
    let makes_all = λ (end : ℕ). make_or_zero (λ i. make_part limit part field.size (place ++ Nth i ∷ [])) (zero_part part) 0
    (elements_of partner) end in
    let counted = fitted (has_other_length 0 (elements_of partner)) place
    (λ _. list_block field.shape limit field.size place 0 size makes_all) value after is in
    let here : makes_all size ≡ made value after = ap (λ (s : Shape). list_block s limit field.size place 0 size makes_all) (sym shape)
    ∙ counted.1 in
    let good =
    list_made (IsOfPart part field.size) (packs_part machine part field.size) limit (makes_part limit part field.size)
    (λ i. place ++ Nth i ∷ []) (zero_part part) makes 0 (elements_of partner) size after value
    (elements_texts partner texts) counted.0 fits here in
    let Right : Datum → Type 0 = λ v. IsMade (IsListOf (IsOfPart part field.size) (Some (pos 0)))
    (packs_field machine field (Counted c) part) limit size v after in
    subst Right good.is (record {
      typed = (ap (λ (m : ℕ). Some (pos m)) (sym good.count), good.typed);
      packed = λ at. none_counted machine (at + field.offset) field.size (packs_part machine part field.size) size good.elements after
          good.count (good.packed 0 0);
      within = good.within;
    })
counted_made machine limit field part c (pos (suc n)) place partner size after value shape makes texts fits is =
    let makes_all = λ (end : ℕ). make_or_zero (λ i. make_part limit part field.size (place ++ Nth i ∷ [])) (zero_part part) (suc n)
    (elements_of partner) end in
    let counted = fitted (has_other_length (suc n) (elements_of partner)) place
    (λ _. list_block field.shape limit field.size place (suc n) size makes_all) value after is in
    let here : take_block limit place (suc n * field.size) size makes_all
    ≡ made value after = ap (λ (s : Shape). list_block s limit field.size place (suc n) size makes_all) (sym shape) ∙ counted.1 in
    let taken = block_taken limit place (suc n * field.size) size makes_all value after here in
    let good =
    list_made (IsOfPart part field.size) (packs_part machine part field.size) limit (makes_part limit part field.size)
    (λ i. place ++ Nth i ∷ []) (zero_part part) makes (suc n) (elements_of partner)
    (next_block size + suc n * field.size) after value (elements_texts partner texts) counted.0 taken.0 taken.1 in
    let Right : Datum → Type 0 = λ v. IsMade (IsListOf (IsOfPart part field.size) (Some (pos (suc n))))
    (packs_field machine field (Counted c) part) limit size v after in
    subst Right good.is (record {
      typed = (ap (λ (m : ℕ). Some (pos m)) (sym good.count), good.typed);
      packed = λ at. counted_size machine (at + field.offset) field.size (packs_part machine part field.size) n size good.elements after
          good.count good.packed;
      within = good.within;
    })

-- the number that an array counts by stands in the record
abbrev Counts : List ℤ → Entries → Shape → Type 0
Counts numbers all One = Unit {0}
Counts numbers all (Fixed n) = Unit {0}
Counts numbers all (Counted c) = count_in (entry_at all c) ≡ Some (number_at numbers c)

single_field_made : (machine : Machine) (limit : ℕ) (field : Field) (part : Part) (numbers : List ℤ) (k : ℕ) (place : List PlaceStep)
    (partner : Option Datum) (size after : ℕ) (value : Datum) → MakesPart machine limit part field.size
    → HasTextsWhereSome partner → ((kind : Kind) → part ≡ number_part kind → InRange kind field.size (number_at numbers k)) → size ≤ limit
    → make_single limit part place (number_at numbers k) partner (makes_part limit part field.size place) size ≡ made value after
    → IsMade (IsOfPart part field.size) (packs_field machine field One part) limit size value after
single_field_made machine limit field (number_part kind) numbers k place partner size after value makes texts ranged fits is =
    let same : num (number_at numbers k) ≡ value = cc in
    let end : size ≡ after = cc in
    let Right : Datum → Type 0 = λ v. IsMade (IsOfPart (number_part kind) field.size) (packs_field machine field One (number_part kind))
    limit size v after in
    subst Right same (record { typed = ranged kind refl; packed = λ at. end; within = omega (arith, end, fits) })
single_field_made machine limit field text_part numbers k place partner size after value makes texts ranged fits is =
    let good = made_text machine limit place partner size after value texts fits is in
    record { typed = good.typed; packed = λ at. good.packed (at + field.offset); within = good.within }
single_field_made machine limit field (tree_part nested) numbers k place partner size after value makes texts ranged fits is =
    let good = makes.each place (rec (entries_of partner)) size after value (entries_texts partner texts) fits is in
    record { typed = good.typed; packed = λ at. good.packed (at + field.offset); within = good.within }

shaped_made : (machine : Machine) (limit : ℕ) (field : Field) (shape : Shape) (part : Part) (numbers : List ℤ) (k : ℕ) (all : Entries)
    (place : List PlaceStep) (partner : Option Datum) (size after : ℕ) (value : Datum)
    → field.shape ≡ shape → MakesPart machine limit part field.size → HasTextsWhereSome partner
    → ((kind : Kind) → part ≡ number_part kind → shape ≡ One → InRange kind field.size (number_at numbers k))
    → Counts numbers all shape → size ≤ limit → make_shaped limit field shape part numbers k place partner
    (λ place' datum end. make_part limit part field.size place' datum end) size ≡ made value after
    → IsMade (IsShaped all shape (λ datum. IsOfPart part field.size datum)) (packs_field machine field shape part) limit size value after
shaped_made machine limit field One part numbers k all place partner size after value shape makes texts ranged counts fits is =
    single_field_made machine limit field part numbers k place partner size after value makes texts (λ kind number. ranged kind number refl)
    fits is
shaped_made machine limit field (Fixed n) part numbers k all place partner size after value shape makes texts ranged counts fits is =
    fixed_made machine limit field part n place partner size after value shape makes texts fits is
shaped_made machine limit field (Counted c) part numbers k all place partner size after value shape makes texts ranged counts fits is =
    let Right : Option ℤ → Type 0 = λ z. IsMade (IsListOf (IsOfPart part field.size) z) (packs_field machine field (Counted c) part) limit
    size value after in
    subst Right (sym counts) (counted_made machine limit field part c (number_at numbers c) place partner size after value shape makes texts
    fits is)

-- the counts of a well laid record's arrays stand in it
counts_made : (limit pointer length : ℕ) (branches : Branches) (numbers : List ℤ) (place : List PlaceStep) (partner : Entries)
    (size after : ℕ) (entries : Entries) → IsLaidRecord pointer length branches
    → AreLaidBranches pointer branches → make_branches limit branches numbers 0 place partner size ≡ made entries after
    → (k : ℕ) (field : Field) → slice_get (fields_of branches) k ≡ Some field
    → Counts numbers entries field.shape
counts_made limit pointer length branches numbers place partner size after entries record_laid laid is k field found = by_shape field.shape
    refl
  where
    by_shape : (shape : Shape) → field.shape ≡ shape → Counts numbers entries shape
    by_shape One shape = tt
    by_shape (Fixed n) shape = tt
    by_shape (Counted c) shape =
        let counter = counter_found pointer length branches k c field record_laid laid found shape in
        ap count_in (number_made limit branches numbers 0 place partner size after entries is c counter.0 counter.1 counter.2 counter.3)
        ∙ ap (λ (i : ℕ). Some (number_at numbers i)) (omega arith)

-- fields that were made, from number k on
record AreFieldsMade (machine : Machine) (limit : ℕ) (all : Entries) (branches : Branches) (size : ℕ) (entries : Entries) (after : ℕ) : Type
    0 where
  typed : IsOfBranches all branches entries
  packed : (at : ℕ) → (pack_branches machine branches at entries size).size ≡ after
  within : after ≤ limit

-- what holds of the fields that are left
record FieldsAllow (numbers : List ℤ) (all : Entries) (k : ℕ) (branches : Branches) : Type 0 where
  counts : (j : ℕ) (field : Field) → slice_get (fields_of branches) j ≡ Some field → Counts numbers all field.shape
  ranged : (i j : ℕ) (field : Field) (kind : Kind) → i ≡ k + j → branch_at branches j ≡ Some (field, number_part kind) → field.shape ≡ One
      → InRange kind field.size (number_at numbers i)

mutual
  -- a record
  made_tree : (machine : Machine) (limit pointer : ℕ) (t : Tree) (place : List PlaceStep) (partner : Entries) (size after : ℕ)
      (value : Datum) → IsLaidTree pointer t → EntriesHaveTexts partner → size ≤ limit
      → make_tree limit t place partner size ≡ made value after
      → IsMade (IsRecordOf (IsOfTree t)) (λ at datum s. pack_tree machine t at (entries_of (Some datum)) s) limit size value after
  made_tree machine limit pointer (tree length branches) place partner size after value laid texts fits is =
      let numbers =
      went_on (numbers_from place 0 branches partner) (λ numbers none. then_make (make_branches limit branches numbers 0 place partner size)
      (λ entries end. made (rec entries) end)) value after is in
      let fields = went_on (make_branches limit branches numbers.value_first 0 place partner size) (λ entries end. made (rec entries) end)
      value after numbers.rest in
      let entries = fields.value_first in
      let allow : FieldsAllow numbers.value_first entries 0 branches =
      record {
        counts = counts_made limit pointer length branches numbers.value_first place partner size fields.size entries laid.0 laid.1
            fields.makes;
        ranged = λ i j field kind same found single.
            let Ranges : ℕ → Type 0 = λ n. InRange kind field.size (number_at numbers.value_first n) in
            subst Ranges (omega arith) (numbers_ranged place 0 branches partner numbers.value_first numbers.size numbers.makes j field kind
            found single);
      } in
      let good = made_branches machine limit pointer branches numbers.value_first 0 place partner size fields.size entries entries laid.1
      texts allow fits fields.makes in
      let same : rec entries ≡ value = (let h = fields.rest in cc) in
      let end : fields.size ≡ after = (let h = fields.rest in cc) in
      let Right : Datum → Type 0 = λ v. IsMade (IsRecordOf (IsOfTree (tree length branches)))
      (λ at datum s. pack_tree machine (tree length branches) at (entries_of (Some datum)) s) limit size v after in
      subst Right same
      (record { typed = good.typed; packed = λ at. good.packed at ∙ end; within = subst (λ (n : ℕ). n ≤ limit) end good.within })

  -- the fields from number k on of a record whose fields and values are `all`
  made_branches : (machine : Machine) (limit pointer : ℕ) (branches : Branches) (numbers : List ℤ) (k : ℕ) (place : List PlaceStep)
      (partner : Entries) (size after : ℕ) (all entries : Entries)
      → AreLaidBranches pointer branches → EntriesHaveTexts partner → FieldsAllow numbers all k branches → size ≤ limit
      → make_branches limit branches numbers k place partner size ≡ made entries after
      → AreFieldsMade machine limit all branches size entries after
  made_branches machine limit pointer no_fields numbers k place partner size after all entries laid texts allow fits is =
      let same : empty_record ≡ entries = cc in
      let end : size ≡ after = cc in
      let Right : Entries → Type 0 = λ es. AreFieldsMade machine limit all no_fields size es after in
      subst Right same (record { typed = tt; packed = λ at. end; within = omega (arith, end, fits) })
  made_branches machine limit pointer (branch field part rest) numbers k place partner size after all entries laid texts allow fits is =
      let one = λ (place' : List PlaceStep) (datum : Datum) (end : ℕ). make_part limit part field.size place' datum end in
      let here =
      went_on (make_shaped limit field field.shape part numbers k (place ++ At k ∷ []) (named field.name partner) one size)
      (λ value after'. then_make (make_branches limit rest numbers (suc k) place partner after')
      (λ others end. made (entry field.name value others) end)) entries after is in
      let others = went_on (make_branches limit rest numbers (suc k) place partner here.size)
      (λ others end. made (entry field.name here.value_first others) end) entries after here.rest in
      let makes : MakesPart machine limit part field.size =
      record {
        each = λ place' datum size' after' value' texts' fits' is'. made_part machine limit pointer part field.size place' datum size'
            after' value' laid.1 texts' fits' is';
        zero_typed = zero_part_typed pointer field.size part laid.1;
        zero_packed = λ at s. zero_part_size machine pointer field.size part laid.1 at s;
      } in
      let first =
      shaped_made machine limit field field.shape part numbers k all (place ++ At k ∷ []) (named field.name partner) size here.size
      here.value_first refl makes (named_texts field.name partner texts)
      (λ kind number single. allow.ranged k 0 field kind (omega arith) (ap (λ (p : Part). Some (field, p)) number) single)
      (allow.counts 0 field refl) fits here.makes in
      let left : FieldsAllow numbers all (suc k) rest =
      record {
        counts = λ j other found. allow.counts (suc j) other found;
        ranged = λ i j other kind same found single. allow.ranged i (suc j) other kind (omega arith) found single;
      } in
      let more = made_branches machine limit pointer rest numbers (suc k) place partner here.size others.size all others.value_first laid.2
      texts left first.within others.makes in
      let same : entry field.name here.value_first others.value_first ≡ entries = (let h = others.rest in cc) in
      let end : others.size ≡ after = (let h = others.rest in cc) in
      let Right : Entries → Type 0 = λ es. AreFieldsMade machine limit all (branch field part rest) size es after in
      subst Right same (record {
        typed = (refl, first.typed, more.typed);
        packed = λ at. ap (λ (s : ℕ). (pack_branches machine rest at others.value_first s).size) (first.packed at) ∙ more.packed at ∙ end;
        within = subst (λ (n : ℕ). n ≤ limit) end more.within;
      })

  -- an element, or a single nested record
  made_part : (machine : Machine) (limit pointer : ℕ) (part : Part) (element_size : ℕ) (place : List PlaceStep) (partner : Datum)
      (size after : ℕ) (value : Datum) → IsLaidPart pointer element_size part
      → HasTexts partner → size ≤ limit → make_part limit part element_size place partner size ≡ made value after
      → IsMade (IsOfPart part element_size) (λ at datum s. pack_part machine part element_size at datum s) limit size value after
  made_part machine limit pointer (number_part kind) element_size place partner size after value laid texts fits is =
      let n = as_number partner in
      let through = fitted (not (is_in_range kind element_size n)) place (λ _. made (num n) size) value after is in
      let same : num n ≡ value = (let h = through.1 in cc) in
      let end : size ≡ after = (let h = through.1 in cc) in
      let ranged = in_range_is kind element_size n (not-false (is_in_range kind element_size n) through.0) in
      let Right : Datum → Type 0 = λ v. IsMade (IsOfPart (number_part kind) element_size)
      (λ at datum s. pack_part machine (number_part kind) element_size at datum s) limit size v after in
      subst Right same (record { typed = ranged; packed = λ at. end; within = omega (arith, end, fits) })
  made_part machine limit pointer text_part element_size place partner size after value laid texts fits is = made_text machine limit place
      (Some partner) size after value texts fits is
  made_part machine limit pointer (tree_part nested) element_size place partner size after value laid texts fits is =
      let good = made_tree machine limit pointer nested place (entries_of (Some partner)) size after value laid.1
      (entries_texts (Some partner) texts) fits is in
      record { typed = good.typed; packed = good.packed; within = good.within }

-- what a value is converted to is the receiver's
pub converted-receivers : ConvertedIsReceivers
converted-receivers from to value result limit size laid laid' apart typed is =
    let root = root_of to in
    let through = within (nat_lt limit (length_of root)) [] (λ _. make_tree limit root [] (entries_of (Some value)) (length_of root)) result
    size is in
    let texts = part_texts (tree_part (root_of from)) 0 value typed in
    let good =
    made_tree (machine_of to) limit to.pointer root [] (entries_of (Some value)) (length_of root) size result (laid_root to laid')
    (entries_texts (Some value) texts) (ltb-false limit (length_of root) through.0) through.1 in
    record { of_format = good.typed; packed = good.packed 0; within = good.within }
