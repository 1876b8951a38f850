-- A value converted to its own format is that value.
use Rattle.std.proofs.Common.{◌≡◌, ℕ, suc, ◌+◌, ◌*◌, ◌≤◌, ℤ, pos, Bool, not, List, [], ◌∷◌, ◌++◌, Option, Some, refl, sym, ap, ◌∙◌, subst}
use Rattle.std.proofs.Common.{arith}
use Rattle.std.proofs.lemmas.Bool.{eq-eqb, le-ltb}
use Rattle.std.specs.Prelude.{slice_get}
use Rattle.evp_base.specs.declared.kind.Kind.{Kind}
use Rattle.evp_format.specs.declared.field.Field.{Field}
use Rattle.evp_format.specs.declared.field.Shape.{Shape}
use Rattle.evp_format.specs.declared.field.Shape.TheVariants.{One, Fixed, Counted}
use Rattle.evp_format.specs.declared.place.PlaceStep.{PlaceStep}
use Rattle.evp_format.specs.declared.place.PlaceStep.TheVariants.{At, Nth}
use Rattle.evp_format.specs.Bytes.{next_block}
use Rattle.evp_format.specs.Converting.{Made, made, then_make, unless_unfit, unless_large, take_block, list_block, make_or_zero, make_list}
use Rattle.evp_format.specs.Converting.{make_elements, number_at, make_text, make_shaped, make_tree, make_branches, make_part}
use Rattle.evp_format.specs.Datum.{Datum, num, null, text, list, rec, Elements, empty_list, element, Entries, empty_record, entry, entry_at}
use Rattle.evp_format.specs.Datum.{named, count_of}
use Rattle.evp_format.specs.LaidTree.{IsLaidRecord, IsLaidTree, AreLaidBranches, IsLaidPart}
use Rattle.evp_format.specs.Laws.{ConvertedToItself}
use Rattle.evp_format.specs.Packing.{Machine, Pieces, machine_of, pack_text, pack_elements, pack_counted, pack_shaped, pack_tree}
use Rattle.evp_format.specs.Packing.{pack_branches, pack_part}
use Rattle.evp_format.specs.Tree.{Tree, tree, Branches, no_fields, branch, branch_at, Part, number_part, text_part, tree_part, fields_of}
use Rattle.evp_format.specs.Tree.{length_of, root_of}
use Rattle.evp_format.specs.Typed.{EachElement, IsShaped, IsOfTree, IsOfBranches, IsOfPart, count_in}
use Rattle.evp_format.specs.Zero.{zero_part}
use Rattle.evp_format.proofs.Grown.{GrowsEach, grows_elements, grows_branches, grows_part}
use Rattle.evp_format.proofs.Partners.{NamesDiffer, entry_found, receiver_numbers, numbers_fit, own_fits, own_ready}
use Rattle.evp_format.proofs.StatedFields.{range_test}
use Rattle.evp_format.proofs.Trees.{laid_root}
use Rattle.evp_format.proofs.Zeros.{counter_found}

-- each part is made again from itself, where the limit allows what it packs to
abbrev SameEach : (Datum → Type 0) → (ℕ → Datum → ℕ → Pieces) → ℕ → (List PlaceStep → Datum → ℕ → Made Datum) → Type 0
SameEach P packs limit one =
    (at : ℕ) (place : List PlaceStep) (value : Datum) (size : ℕ) → P value → (packs at value size).size ≤ limit
    → one place value size ≡ made value (packs at value size).size

-- elements
same_elements : (P : Datum → Type 0) (packs : ℕ → Datum → ℕ → Pieces) (limit : ℕ) (one : List PlaceStep → Datum → ℕ → Made Datum)
    (places : ℕ → List PlaceStep) → SameEach P packs limit one → GrowsEach packs
    → (base step : ℕ) (elements : Elements) (k size : ℕ) → EachElement P elements
    → (pack_elements (λ i. packs (base + i * step)) elements k size).size ≤ limit
    → make_elements (λ i. one (places i)) elements k size ≡ made elements
    (pack_elements (λ i. packs (base + i * step)) elements k size).size
same_elements P packs limit one places same grows base step empty_list k size typed small = refl
same_elements P packs limit one places same grows base step (element datum rest) k size typed small =
    let end = (packs (base + k * step) datum size).size in
    let more = grows_elements packs base step grows rest (suc k) end in
    let here = same (base + k * step) (places k) datum size typed.0 (omega (arith, more, small)) in
    let others = same_elements P packs limit one places same grows base step rest (suc k) end typed.1 small in
    ap (λ (m : Made Datum). then_make m (λ first after. then_make (make_elements (λ i. one (places i)) rest (suc k) after)
    (λ rest' last. made (element first rest') last))) here
    ∙ ap (λ (m : Made Elements). then_make m (λ rest' last. made (element datum rest') last)) others

-- a list by its wanted length, where its block is known
same_list : (limit : ℕ) (field : Field) (place : List PlaceStep) (elements : Elements) (zero_element : Datum)
    (one : ℕ → Datum → ℕ → Made Datum) (size : ℕ) (answer : Made Datum)
    → list_block field.shape limit field.size place (count_of elements) size
    (λ after. make_or_zero one zero_element (count_of elements) (Some elements) after) ≡ answer
    → make_list limit field place (pos (count_of elements)) (Some elements) zero_element one size ≡ answer
same_list limit field place elements zero_element one size answer is =
    let n = count_of elements in
    ap (λ (t : Bool). unless_unfit (not t) place (λ _. list_block field.shape limit field.size place n size
    (λ after. make_or_zero one zero_element n (Some elements) after))) (eq-eqb n n refl) ∙ is

-- the elements of a list
same_inside : (P : Datum → Type 0) (packs : ℕ → Datum → ℕ → Pieces) (limit : ℕ) (one : List PlaceStep → Datum → ℕ → Made Datum)
    (places : ℕ → List PlaceStep) (zero_element : Datum) → SameEach P packs limit one → GrowsEach packs
    → (base step : ℕ) (elements : Elements) (size : ℕ) → EachElement P elements
    → (pack_elements (λ i. packs (base + i * step)) elements 0 size).size ≤ limit
    → make_or_zero (λ i. one (places i)) zero_element (count_of elements) (Some elements) size
    ≡ made (list elements) (pack_elements (λ i. packs (base + i * step)) elements 0 size).size
same_inside P packs limit one places zero_element same grows base step elements size typed small =
    ap (λ (m : Made Elements). then_make m (λ made_elements after. made (list made_elements) after))
    (same_elements P packs limit one places same grows base step elements 0 size typed small)

-- a block that the limit allows
block_allowed : {A : Type 0} (limit : ℕ) (place : List PlaceStep) (k size : ℕ) (next : ℕ → Made A) → next_block size + k ≤ limit
    → take_block limit place k size next ≡ next (next_block size + k)
block_allowed limit place k size next small = ap (λ (t : Bool). unless_large t place (λ _. next (next_block size + k)))
    (le-ltb limit (next_block size + k) small)

-- a text
same_text : (machine : Machine) (limit at : ℕ) (place : List PlaceStep) (value : Datum) (size : ℕ) → IsOfPart text_part 0 value
    → (pack_text machine at value size).size ≤ limit
    → make_text limit place (Some value) size ≡ made value (pack_text machine at value size).size
same_text machine limit at place (text bytes) size typed small = block_allowed limit place _ size (λ after. made (text bytes) after)
    (omega (arith, small)) ∙ ap (λ (n : ℕ). made (text bytes) n) (omega arith)
same_text machine limit at place null size typed small = refl
same_text machine limit at place (num n) size typed small = absurd typed
same_text machine limit at place (list elements) size typed small = absurd typed
same_text machine limit at place (rec entries) size typed small = absurd typed

-- a counted array
same_counted : (machine : Machine) (P : Datum → Type 0) (packs : ℕ → Datum → ℕ → Pieces) (limit : ℕ) (one : List PlaceStep → Datum → ℕ
    → Made Datum) (zero_element : Datum) → SameEach P packs limit one → GrowsEach packs
    → (field : Field) (c at : ℕ) (place : List PlaceStep) (elements : Elements) (size : ℕ) → field.shape ≡ Counted c
    → EachElement P elements → (pack_counted machine at field.size elements packs size).size ≤ limit
    → make_list limit field place (pos (count_of elements)) (Some elements) zero_element (λ i. one (place ++ Nth i ∷ [])) size
    ≡ made (list elements) (pack_counted machine at field.size elements packs size).size
same_counted machine P packs limit one zero_element same grows field c at place empty_list size shape typed small =
    same_list limit field place empty_list zero_element (λ i. one (place ++ Nth i ∷ [])) size (made (list empty_list) size)
    (ap (λ (s : Shape). list_block s limit field.size place 0 size
    (λ after. make_or_zero (λ i. one (place ++ Nth i ∷ [])) zero_element 0 (Some empty_list) after)) shape)
same_counted machine P packs limit one zero_element same grows field c at place (element datum rest) size shape typed small =
    let elements = element datum rest in
    let q = next_block size in
    let n = count_of elements in
    let makes = λ (after : ℕ). make_or_zero (λ i. one (place ++ Nth i ∷ [])) zero_element n (Some elements) after in
    let more = grows_elements packs q field.size grows elements 0 (q + n * field.size) in
    same_list limit field place elements zero_element (λ i. one (place ++ Nth i ∷ [])) size
    (made (list elements) (pack_counted machine at field.size elements packs size).size)
    (ap (λ (s : Shape). list_block s limit field.size place n size makes) shape
    ∙ block_allowed limit place (n * field.size) size makes (omega (arith, more, small))
    ∙ same_inside P packs limit one (λ i. place ++ Nth i ∷ []) zero_element same grows q field.size elements (q + n * field.size) typed
    small)

-- the number that stands ready for a field
abbrev Ready : List ℤ → ℕ → Part → Datum → Type 0
Ready numbers k part value = (kind : Kind) → part ≡ number_part kind → value ≡ num (number_at numbers k)

abbrev CountsBy : List ℤ → Entries → Shape → Type 0
CountsBy numbers all One = Unit {0}
CountsBy numbers all (Fixed n) = Unit {0}
CountsBy numbers all (Counted c) = count_in (entry_at all c) ≡ Some (number_at numbers c)

-- a part as one makes it and packs it
abbrev makes_part : ℕ → Part → ℕ → List PlaceStep → Datum → ℕ → Made Datum
makes_part limit part element_size place datum size = make_part limit part element_size place datum size

abbrev packs_part : Machine → Part → ℕ → ℕ → Datum → ℕ → Pieces
packs_part machine part element_size at datum size = pack_part machine part element_size at datum size

-- a field that is no array
same_single : (machine : Machine) (limit : ℕ) (field : Field) (part : Part) (numbers : List ℤ) (k at : ℕ) (place : List PlaceStep)
    (value : Datum) (size : ℕ)
    → SameEach (IsOfPart part field.size) (packs_part machine part field.size) limit (makes_part limit part field.size)
    → IsOfPart part field.size value → Ready numbers k part value
    → (pack_part machine part field.size at value size).size ≤ limit
    → make_shaped limit field One part numbers k place (Some value) (makes_part limit part field.size) size
    ≡ made value (pack_part machine part field.size at value size).size
same_single machine limit field (number_part kind) numbers k at place value size same typed ready small = ap (λ (v : Datum). made v size)
    (sym (ready kind refl))
same_single machine limit field text_part numbers k at place value size same typed ready small = same_text machine limit at place value size
    typed small
same_single machine limit field (tree_part nested) numbers k at place (rec entries) size same typed ready small = same at place
    (rec entries) size typed small
same_single machine limit field (tree_part nested) numbers k at place (num z) size same typed ready small = absurd typed
same_single machine limit field (tree_part nested) numbers k at place null size same typed ready small = absurd typed
same_single machine limit field (tree_part nested) numbers k at place (text bytes) size same typed ready small = absurd typed
same_single machine limit field (tree_part nested) numbers k at place (list elements) size same typed ready small = absurd typed

-- a field, by its shape
same_shaped : (machine : Machine) (limit : ℕ) (all : Entries) (field : Field) (shape : Shape) (part : Part) (numbers : List ℤ) (k at : ℕ)
    (place : List PlaceStep) (value : Datum) (size : ℕ) → field.shape ≡ shape
    → SameEach (IsOfPart part field.size) (packs_part machine part field.size) limit (makes_part limit part field.size)
    → IsShaped all shape (λ datum. IsOfPart part field.size datum) value
    → (shape ≡ One → Ready numbers k part value) → CountsBy numbers all shape
    → (pack_shaped machine field shape at value (packs_part machine part field.size) size).size ≤ limit
    → make_shaped limit field shape part numbers k place (Some value) (makes_part limit part field.size) size
    ≡ made value (pack_shaped machine field shape at value (packs_part machine part field.size) size).size
same_shaped machine limit all field One part numbers k at place value size shape same typed ready counts small =
    same_single machine limit field part numbers k (at + field.offset) place value size same typed (ready refl) small
same_shaped machine limit all field (Fixed n) part numbers k at place (list elements) size shape same typed ready counts small =
    let counted : n ≡ count_of elements = cc (typed.0) in
    let grows : GrowsEach (packs_part machine part field.size) = λ at' v s. grows_part machine part field.size at' v s in
    let one = λ (i : ℕ). makes_part limit part field.size (place ++ Nth i ∷ []) in
    let answer = made (list elements) (pack_elements (λ i. packs_part machine part field.size (at + field.offset + i * field.size)) elements
    0 size).size in
    ap (λ (m : ℕ). make_list limit field place (pos m) (Some elements) (zero_part part) one size) counted
    ∙ same_list limit field place elements (zero_part part) one size answer
    (ap (λ (s : Shape). list_block s limit field.size place (count_of elements) size
    (λ after. make_or_zero one (zero_part part) (count_of elements) (Some elements) after)) shape
    ∙ same_inside (IsOfPart part field.size) (packs_part machine part field.size) limit (makes_part limit part field.size)
    (λ i. place ++ Nth i ∷ []) (zero_part part) same grows (at + field.offset) field.size elements size typed.1 small)
same_shaped machine limit all field (Fixed n) part numbers k at place (num z) size shape same typed ready counts small = absurd typed
same_shaped machine limit all field (Fixed n) part numbers k at place null size shape same typed ready counts small = absurd typed
same_shaped machine limit all field (Fixed n) part numbers k at place (text bytes) size shape same typed ready counts small = absurd typed
same_shaped machine limit all field (Fixed n) part numbers k at place (rec entries) size shape same typed ready counts small = absurd typed
same_shaped machine limit all field (Counted c) part numbers k at place (list elements) size shape same typed ready counts small =
    let number_is : number_at numbers c ≡ pos (count_of elements) = cc (counts, typed.0) in
    let grows : GrowsEach (packs_part machine part field.size) = λ at' v s. grows_part machine part field.size at' v s in
    ap (λ (z : ℤ). make_list limit field place z (Some elements) (zero_part part)
    (λ i. makes_part limit part field.size (place ++ Nth i ∷ [])) size) number_is
    ∙ same_counted machine (IsOfPart part field.size) (packs_part machine part field.size) limit (makes_part limit part field.size)
    (zero_part part) same grows field c (at + field.offset) place elements size shape typed.1 small
same_shaped machine limit all field (Counted c) part numbers k at place (num z) size shape same typed ready counts small = absurd typed
same_shaped machine limit all field (Counted c) part numbers k at place null size shape same typed ready counts small = absurd typed
same_shaped machine limit all field (Counted c) part numbers k at place (text bytes) size shape same typed ready counts small = absurd typed
same_shaped machine limit all field (Counted c) part numbers k at place (rec entries) size shape same typed ready counts small = absurd
    typed

-- what holds of the fields that are left, of a record whose fields are `all`
record FieldsFind (numbers : List ℤ) (all : Entries) (k : ℕ) (branches : Branches) (entries : Entries) : Type 0 where
  by_name : (j : ℕ) (field : Field) (part : Part) (value : Datum) → branch_at branches j ≡ Some (field, part)
      → entry_at entries j ≡ Some value → named field.name all ≡ Some value
  ready : (i j : ℕ) (field : Field) (part : Part) (value : Datum) → i ≡ k + j → branch_at branches j ≡ Some (field, part)
      → entry_at entries j ≡ Some value → field.shape ≡ One → Ready numbers i part value
  counts : (j : ℕ) (field : Field) → slice_get (fields_of branches) j ≡ Some field → CountsBy numbers all field.shape

fields_find : (pointer length : ℕ) (branches : Branches) (all : Entries) → IsLaidRecord pointer length branches
    → AreLaidBranches pointer branches → IsOfBranches all branches all
    → FieldsFind (receiver_numbers branches all) all 0 branches all
fields_find pointer length branches all record_laid laid typed =
    let differ : NamesDiffer (fields_of branches) = subst NamesDiffer record_laid.has_fields record_laid.laid.names_differ in
    record {
      by_name = λ j field part value found at. let here = entry_found all branches all typed differ j field part found in by_name j field
          here.value value here.by_name here.at at;
      ready = λ i j field part value is found at single kind number.
          let found' : branch_at branches j ≡ Some (field, number_part kind) = found ∙ ap (λ (p : Part). Some (field, p)) number in
          let here = entry_found all branches all typed differ j field (number_part kind) found' in
          let own = own_ready all branches j field kind found' single here in
          let same : value ≡ here.value = same_value value here.value (sym at ∙ here.at) in
          let place : i ≡ j = omega (arith, is) in
          same ∙ own.1 ∙ ap num (sym own.2 ∙ ap (number_at (receiver_numbers branches all)) (sym place));
      counts = λ j field found. by_shape j field found field.shape refl;
    }
  where
    same_value : (value other : Datum) → Some value ≡ Some other → value ≡ other
    same_value value other is = cc

    by_name : (j : ℕ) (field : Field) (value other : Datum) → named field.name all ≡ Some value → entry_at all j ≡ Some value
        → entry_at all j ≡ Some other → named field.name all ≡ Some other
    by_name j field value other found at at' = found ∙ sym at ∙ at'

    by_shape : (j : ℕ) (field : Field) → slice_get (fields_of branches) j ≡ Some field → (shape : Shape) → field.shape ≡ shape
        → CountsBy (receiver_numbers branches all) all shape
    by_shape j field found One shape = tt
    by_shape j field found (Fixed n) shape = tt
    by_shape j field found (Counted c) shape =
        let differ : NamesDiffer (fields_of branches) = subst NamesDiffer record_laid.has_fields record_laid.laid.names_differ in
        let counter = counter_found pointer length branches j c field record_laid laid found shape in
        let here = entry_found all branches all typed differ c counter.0 (number_part counter.1) counter.2 in
        let own = own_ready all branches c counter.0 counter.1 counter.2 counter.3 here in
        ap count_in here.at ∙ ap (λ (v : Datum). count_in (Some v)) own.1 ∙ ap Some (sym own.2)

mutual
  -- a record
  same_tree : (machine : Machine) (limit pointer : ℕ) (t : Tree) (at : ℕ) (place : List PlaceStep) (entries : Entries) (size : ℕ)
      → IsLaidTree pointer t → IsOfTree t entries
      → (pack_tree machine t at entries size).size ≤ limit → make_tree limit t place entries size
      ≡ made (rec entries) (pack_tree machine t at entries size).size
  same_tree machine limit pointer (tree length branches) at place entries size laid typed small =
      let differ : NamesDiffer (fields_of branches) = subst NamesDiffer laid.0.has_fields laid.0.laid.names_differ in
      let fits =
      numbers_fit place 0 branches entries
      (λ j field part found.
      let here = entry_found entries branches entries typed differ j field part found in
      own_fits entries entries field field.shape part here.value here.by_name here.typed) in
      let find = fields_find pointer length branches entries laid.0 laid.1 typed in
      let numbers = receiver_numbers branches entries in
      let fields = same_branches machine limit pointer branches numbers 0 at place entries entries size laid.1 typed find small in
      ap (λ (m : Made (List ℤ)). then_make m (λ ns none. then_make (make_branches limit branches ns 0 place entries size)
      (λ es after. made (rec es) after))) fits
      ∙ ap (λ (m : Made Entries). then_make m (λ es after. made (rec es) after)) fields

  -- the fields from number k on of a record whose fields are `all`
  same_branches : (machine : Machine) (limit pointer : ℕ) (branches : Branches) (numbers : List ℤ) (k at : ℕ) (place : List PlaceStep)
      (all entries : Entries) (size : ℕ) → AreLaidBranches pointer branches
      → IsOfBranches all branches entries → FieldsFind numbers all k branches entries
      → (pack_branches machine branches at entries size).size ≤ limit
      → make_branches limit branches numbers k place all size ≡ made entries (pack_branches machine branches at entries size).size
  same_branches machine limit pointer no_fields numbers k at place all empty_record size laid typed find small = refl
  same_branches machine limit pointer no_fields numbers k at place all (entry name datum rest) size laid typed find small = absurd typed
  same_branches machine limit pointer (branch field part rest) numbers k at place all empty_record size laid typed find small = absurd typed
  same_branches machine limit pointer (branch field part rest) numbers k at place all (entry name datum others) size laid typed find small =
      let one = makes_part limit part field.size in
      let after = (pack_shaped machine field field.shape at datum (packs_part machine part field.size) size).size in
      let more = grows_branches machine rest at others after in
      let same : SameEach (IsOfPart part field.size) (packs_part machine part field.size) limit one =
      λ at' place' value size' typed' small'. same_part machine limit pointer part field.size at' place' value size' laid.1 typed' small' in
      let first =
      same_shaped machine limit all field field.shape part numbers k at (place ++ At k ∷ []) datum size refl same typed.1
      (λ single. find.ready k 0 field part datum (omega arith) refl refl single)
      (find.counts 0 field refl) (omega (arith, more, small)) in
      let left : FieldsFind numbers all (suc k) rest others =
      record {
        by_name = λ j other part' value found there. find.by_name (suc j) other part' value found there;
        ready = λ i j other part' value is found there single. find.ready i (suc j) other part' value (omega (arith, is)) found there
            single;
        counts = λ j other found. find.counts (suc j) other found;
      } in
      let rest_made = same_branches machine limit pointer rest numbers (suc k) at place all others after laid.2 typed.2 left small in
      let goes_on = λ (value : Datum) (after' : ℕ). then_make (make_branches limit rest numbers (suc k) place all after')
      (λ (others' : Entries) (end : ℕ). made (entry field.name value others') end) in
      let end = (pack_branches machine rest at others after).size in
      ap (λ (o : Option Datum). then_make (make_shaped limit field field.shape part numbers k (place ++ At k ∷ []) o one size) goes_on)
      (find.by_name 0 field part datum refl refl)
      ∙ ap (λ (m : Made Datum). then_make m goes_on) first
      ∙ ap (λ (m : Made Entries). then_make m (λ others' last. made (entry field.name datum others') last)) rest_made
      ∙ ap (λ (n : List ℕ). made (entry n datum others) end) (sym typed.0)

  -- an element, or a single nested record
  same_part : (machine : Machine) (limit pointer : ℕ) (part : Part) (element_size at : ℕ) (place : List PlaceStep) (value : Datum)
      (size : ℕ) → IsLaidPart pointer element_size part → IsOfPart part element_size value
      → (pack_part machine part element_size at value size).size ≤ limit
      → make_part limit part element_size place value size ≡ made value (pack_part machine part element_size at value size).size
  same_part machine limit pointer (number_part kind) element_size at place (num n) size laid typed small =
      ap (λ (t : Bool). unless_unfit (not t) place (λ _. made (num n) size)) (range_test kind element_size n typed)
  same_part machine limit pointer (number_part kind) element_size at place null size laid typed small = absurd typed
  same_part machine limit pointer (number_part kind) element_size at place (text bytes) size laid typed small = absurd typed
  same_part machine limit pointer (number_part kind) element_size at place (list elements) size laid typed small = absurd typed
  same_part machine limit pointer (number_part kind) element_size at place (rec entries) size laid typed small = absurd typed
  same_part machine limit pointer text_part element_size at place value size laid typed small = same_text machine limit at place value size
      typed small
  same_part machine limit pointer (tree_part nested) element_size at place (rec entries) size laid typed small = same_tree machine limit
      pointer nested at place entries size laid.1 typed small
  same_part machine limit pointer (tree_part nested) element_size at place (num z) size laid typed small = absurd typed
  same_part machine limit pointer (tree_part nested) element_size at place null size laid typed small = absurd typed
  same_part machine limit pointer (tree_part nested) element_size at place (text bytes) size laid typed small = absurd typed
  same_part machine limit pointer (tree_part nested) element_size at place (list elements) size laid typed small = absurd typed

-- a value converted to its own format is that value
pub converted-itself : ConvertedToItself
converted-itself layout value limit laid typed small =
    let root = root_of layout in
    let size = length_of root in
    let machine = machine_of layout in
    let grows = grows_part machine (tree_part root) 0 0 value size in
    ap (λ (t : Bool). unless_large t [] (λ _. make_part limit (tree_part root) 0 [] value size))
    (le-ltb limit size (omega (arith, grows, small)))
    ∙ same_part machine limit layout.pointer (tree_part root) size 0 [] value size (refl, laid_root layout laid) typed small
