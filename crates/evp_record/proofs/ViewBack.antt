-- A packed value is viewed as it was: arrays, fields, records.
use Rattle.std.proofs.Common.{◌≡◌, ℕ, ◌+◌, ◌*◌, ◌^◌, ◌≤◌, ◌<◌, ℤ, pos, ◌||◌, nat_lt, nat_eq, List, [], ◌∷◌, ◌++◌, length, Some, refl, sym}
use Rattle.std.proofs.Common.{ap, ◌∙◌, subst, arith}
use Rattle.std.proofs.lemmas.Bool.{le-ltb}
use Rattle.evp_format.specs.Bytes.{next_block}
use Rattle.evp_format.specs.Datum.{Datum, num, null, text, list, rec, Elements, empty_list, element, Entries, entry_at, count_of}
use Rattle.evp_format.specs.declared.field.Field.{Field}
use Rattle.evp_format.specs.declared.field.Shape.{Shape}
use Rattle.evp_format.specs.declared.field.Shape.TheVariants.{One, Fixed, Counted}
use Rattle.evp_format.specs.declared.place.PlaceStep.{PlaceStep}
use Rattle.evp_format.specs.declared.place.PlaceStep.TheVariants.{Nth}
use Rattle.evp_format.specs.Packing.{Pieces, Machine, pack_elements, pack_counted, pack_shaped}
use Rattle.evp_format.specs.Tree.{Branches, branch_at}
use Rattle.evp_format.specs.Typed.{EachElement, IsShaped, count_in}
use Rattle.evp_format.specs.Viewing.{Image, Walked, read, field_number, pointer_at, view_elements, as_list, view_counted, view_shaped}
use Rattle.evp_format.specs.WellLaid.{shape_extent}
use Rattle.evp_record.proofs.Held.{Holds}
use Rattle.evp_record.proofs.Pieces.{Each}
use Rattle.evp_record.proofs.Placed.{PlacesEach, placed_elements, next_block-behind}
use Rattle.evp_record.proofs.ReadBack.{image_on, ReadsBack, ReadsEach, IsPointer, pointer_reads, not_zero, goes_on, neither, then_reads}
use Rattle.evp_record.proofs.ReadBack.{elements_read}

list_reads : (walked : Walked Elements) (elements : Elements) (size : ℕ) → ReadsBack walked elements size
    → ReadsBack (as_list walked) (list elements) size
list_reads walked elements size reads = (
  reads.0,
  then_reads walked (λ elements mark. read (list elements) mark) elements reads.0 reads.1,
  reads.2,
)

-- a counted array is read back by its count
counted_reads : (machine : Machine) (bytes : List ℕ) (P : Datum → Type 0) (element_size : ℕ) (packs : ℕ → Datum → ℕ → Pieces)
    (views : ℕ → List PlaceStep → ℕ → Walked Datum) → PlacesEach P element_size packs
    → ReadsEach bytes P element_size packs views → (places : ℕ → List PlaceStep) (place : List PlaceStep) (elements : Elements)
    (at size mark : ℕ) → IsPointer machine.pointer → EachElement P elements → 0 < size
    → mark ≤ size → (pack_counted machine at element_size elements packs size).size ≤ length bytes → length bytes < 2 ^ 32
    → Each (Holds bytes) (pack_counted machine at element_size elements packs size).all
    → ReadsBack (view_counted (image_on machine bytes) place (pos (count_of elements)) (pointer_at (image_on machine bytes) at) element_size
    (λ offset k after. views offset (places k) after) mark) (list elements)
    (pack_counted machine at element_size elements packs size).size
counted_reads machine bytes P element_size packs views placed reads places place empty_list at size mark pointer each some behind fits small
    held = (mark, refl, behind)
counted_reads machine bytes P element_size packs views placed reads places place (element datum rest) at size mark pointer each some behind
    fits small held =
    let elements = element datum rest in
    let q = next_block size in
    let after = next_block-behind size in
    let last = q + count_of elements * element_size in
    let lies = placed_elements P element_size packs placed elements q 0 last each (omega arith) in
    let found : pointer_at (image_on machine bytes) at ≡ q = pointer_reads machine at q bytes pointer
    (omega (arith, fits, small, lies.grows)) held.0 in
    let one = λ (offset k after : ℕ). views offset (places k) after in
    let walk = view_elements (λ k after. views (q + k * element_size) (places k) after) (count_of elements) 0 last in
    let inner : ReadsBack walk elements (pack_elements (λ i. packs (q + i * element_size)) elements 0 last).size =
    elements_read bytes P element_size packs views placed reads places elements q 0 last last each (omega arith)
    (omega (arith, after, some)) (omega arith) fits held.1 in
    let whole = list_reads walk elements (pack_elements (λ i. packs (q + i * element_size)) elements 0 last).size inner in (
      whole.0,
      ap (λ (p : ℕ). view_counted (image_on machine bytes) place (pos (count_of elements)) p element_size one mark) found
          ∙ goes_on (nat_eq q 0) _ _ (not_zero q (λ (none : q ≡ 0). omega (arith, after, some)))
          ∙ goes_on (nat_lt q mark || nat_lt (length bytes) last) _ _
          (neither (nat_lt q mark) (nat_lt (length bytes) last) (le-ltb q mark (omega (arith, after, behind)))
          (le-ltb (length bytes) last (omega (arith, fits, lies.grows))))
          ∙ whole.1,
      whole.2,
    )

-- a static array is read back
fixed_reads : (bytes : List ℕ) (P : Datum → Type 0) (element_size : ℕ) (packs : ℕ → Datum → ℕ → Pieces) (views : ℕ → List PlaceStep → ℕ
    → Walked Datum) → PlacesEach P element_size packs
    → ReadsEach bytes P element_size packs views → (places : ℕ → List PlaceStep) (n : ℕ) (elements : Elements) (base size mark : ℕ)
    → n ≡ count_of elements → EachElement P elements → base + n * element_size ≤ size
    → 0 < size → mark ≤ size → (pack_elements (λ i. packs (base + i * element_size)) elements 0 size).size ≤ length bytes
    → Each (Holds bytes) (pack_elements (λ i. packs (base + i * element_size)) elements 0 size).all
    → ReadsBack (as_list (view_elements (λ i after. views (base + i * element_size) (places i) after) n 0 mark)) (list elements)
    (pack_elements (λ i. packs (base + i * element_size)) elements 0 size).size
fixed_reads bytes P element_size packs views placed reads places n elements base size mark count each inside some behind fits held =
    let same : n * element_size ≡ count_of elements * element_size = ap (λ (m : ℕ). m * element_size) count in
    let Reads : ℕ → Type 0 =
    λ m. ReadsBack (as_list (view_elements (λ i after. views (base + i * element_size) (places i) after) m 0 mark)) (list elements)
    (pack_elements (λ i. packs (base + i * element_size)) elements 0 size).size in
    subst Reads (sym count)
    (list_reads _ elements _ (elements_read bytes P element_size packs views placed reads places elements base 0 size mark each
    (omega (arith, same, inside)) some behind fits held))

-- the count of a counted array is read back
abbrev pub CountReads : Image → ℕ → Entries → Branches → Shape → Type 0
CountReads image at all branches One = Unit {0}
CountReads image at all branches (Fixed n) = Unit {0}
CountReads image at all branches (Counted c) = (z : ℤ) → count_in (entry_at all c) ≡ Some z
    → field_number image at (branch_at branches c) ≡ z

pub shaped_reads : (machine : Machine) (bytes : List ℕ) (all : Entries) (branches : Branches) (field : Field) (shape : Shape)
    (P : Datum → Type 0) (packs : ℕ → Datum → ℕ → Pieces)
    (views : ℕ → List PlaceStep → ℕ → Walked Datum) → PlacesEach P field.size packs → ReadsEach bytes P field.size packs views
    → (at : ℕ) (place : List PlaceStep) (datum : Datum) (size mark : ℕ)
    → IsPointer machine.pointer → IsShaped all shape P datum → CountReads (image_on machine bytes) at all branches shape
    → at + field.offset + shape_extent machine.pointer shape field.size ≤ size → 0 < size
    → mark ≤ size → (pack_shaped machine field shape at datum packs size).size ≤ length bytes → length bytes < 2 ^ 32
    → Each (Holds bytes) (pack_shaped machine field shape at datum packs size).all
    → ReadsBack (view_shaped (image_on machine bytes) branches field shape at place views mark) datum
    (pack_shaped machine field shape at datum packs size).size
shaped_reads machine bytes all branches field One P packs views placed reads at place datum size mark pointer typed count inside some behind
    fits small held =
    reads (at + field.offset) place datum size mark typed inside some behind fits held
shaped_reads machine bytes all branches field (Fixed n) P packs views placed reads at place (list elements) size mark pointer typed count
    inside some behind fits small held =
    let same : n ≡ count_of elements = cc (typed.0) in
    fixed_reads bytes P field.size packs views placed reads (λ k. place ++ Nth k ∷ []) n elements (at + field.offset) size mark same typed.1
    inside some behind fits held
shaped_reads machine bytes all branches field (Fixed n) P packs views placed reads at place (num z) size mark pointer typed count inside
    some behind fits small held = absurd typed
shaped_reads machine bytes all branches field (Fixed n) P packs views placed reads at place null size mark pointer typed count inside some
    behind fits small held = absurd typed
shaped_reads machine bytes all branches field (Fixed n) P packs views placed reads at place (text text') size mark pointer typed count
    inside some behind fits small held = absurd typed
shaped_reads machine bytes all branches field (Fixed n) P packs views placed reads at place (rec members) size mark pointer typed count
    inside some behind fits small held = absurd typed
shaped_reads machine bytes all branches field (Counted c) P packs views placed reads at place (list elements) size mark pointer typed count
    inside some behind fits small held =
    let counted : field_number (image_on machine bytes) at (branch_at branches c)
    ≡ pos (count_of elements) = count (pos (count_of elements)) typed.0 in
    let image = image_on machine bytes in
    let Reads : ℤ → Type 0 =
    λ z. ReadsBack (view_counted image place z (pointer_at image (at + field.offset)) field.size
    (λ offset k after. views offset (place ++ Nth k ∷ []) after) mark) (list elements)
    (pack_counted machine (at + field.offset) field.size elements packs size).size in
    subst Reads (sym counted)
    (counted_reads machine bytes P field.size packs views placed reads (λ k. place ++ Nth k ∷ []) place elements (at + field.offset) size
    mark pointer typed.1 some behind fits small held)
shaped_reads machine bytes all branches field (Counted c) P packs views placed reads at place (num z) size mark pointer typed count inside
    some behind fits small held = absurd typed
shaped_reads machine bytes all branches field (Counted c) P packs views placed reads at place null size mark pointer typed count inside some
    behind fits small held = absurd typed
shaped_reads machine bytes all branches field (Counted c) P packs views placed reads at place (text text') size mark pointer typed count
    inside some behind fits small held = absurd typed
shaped_reads machine bytes all branches field (Counted c) P packs views placed reads at place (rec members) size mark pointer typed count
    inside some behind fits small held = absurd typed
