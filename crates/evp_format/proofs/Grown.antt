-- Packing a part never makes the record shorter.
use Rattle.std.proofs.Common.{ℕ, suc, ◌+◌, ◌*◌, ◌≤◌, length, Some, arith}
use Rattle.evp_format.specs.declared.field.Field.{Field}
use Rattle.evp_format.specs.declared.field.Shape.{Shape}
use Rattle.evp_format.specs.declared.field.Shape.TheVariants.{One, Fixed, Counted}
use Rattle.evp_format.specs.Bytes.{next_block}
use Rattle.evp_format.specs.Converting.{elements_of, entries_of}
use Rattle.evp_format.specs.Datum.{Datum, num, null, text, list, rec, Elements, empty_list, element, Entries, empty_record, entry, count_of}
use Rattle.evp_format.specs.Packing.{Machine, Pieces, listed, pack_text, pack_elements, pack_counted, pack_shaped, pack_tree, pack_branches}
use Rattle.evp_format.specs.Packing.{pack_part}
use Rattle.evp_format.specs.Tree.{Tree, tree, Branches, no_fields, branch, Part, number_part, text_part, tree_part}

-- how a part is packed at each offset
abbrev pub GrowsEach : (ℕ → Datum → ℕ → Pieces) → Type 0
GrowsEach packs = (at : ℕ) (value : Datum) (size : ℕ) → size ≤ (packs at value size).size

grows_text : (machine : Machine) (at : ℕ) (datum : Datum) (size : ℕ) → size ≤ (pack_text machine at datum size).size
grows_text machine at (text bytes) size = omega arith
grows_text machine at null size = omega arith
grows_text machine at (num n) size = omega arith
grows_text machine at (list elements) size = omega arith
grows_text machine at (rec entries) size = omega arith

pub grows_elements : (packs : ℕ → Datum → ℕ → Pieces) (base step : ℕ) → GrowsEach packs → (elements : Elements) (k size : ℕ)
    → size ≤ (pack_elements (λ i. packs (base + i * step)) elements k size).size
grows_elements packs base step grows empty_list k size = omega arith
grows_elements packs base step grows (element datum rest) k size =
    let first = grows (base + k * step) datum size in
    let others = grows_elements packs base step grows rest (suc k) (packs (base + k * step) datum size).size in
    omega (arith, first, others)

grows_counted : (machine : Machine) (packs : ℕ → Datum → ℕ → Pieces) (at element_size : ℕ) → GrowsEach packs
    → (elements : Elements) (size : ℕ) → size ≤ (pack_counted machine at element_size elements packs size).size
grows_counted machine packs at element_size grows empty_list size = omega arith
grows_counted machine packs at element_size grows (element datum rest) size =
    let elements = element datum rest in
    let q = next_block size in
    let inside = grows_elements packs q element_size grows elements 0 (q + count_of elements * element_size) in
    omega (arith, inside)

pub grows_shaped : (machine : Machine) (field : Field) (shape : Shape) (packs : ℕ → Datum → ℕ → Pieces) → GrowsEach packs
    → (at : ℕ) (datum : Datum) (size : ℕ) → size ≤ (pack_shaped machine field shape at datum packs size).size
grows_shaped machine field One packs grows at datum size = grows (at + field.offset) datum size
grows_shaped machine field (Fixed n) packs grows at datum size = grows_elements packs (at + field.offset) field.size grows
    (listed (elements_of (Some datum))) 0 size
grows_shaped machine field (Counted c) packs grows at datum size = grows_counted machine packs (at + field.offset) field.size grows
    (listed (elements_of (Some datum))) size

mutual
  pub grows_tree : (machine : Machine) (t : Tree) (at : ℕ) (entries : Entries) (size : ℕ)
      → size ≤ (pack_tree machine t at entries size).size
  grows_tree machine (tree length branches) at entries size = grows_branches machine branches at entries size

  pub grows_branches : (machine : Machine) (branches : Branches) (at : ℕ) (entries : Entries) (size : ℕ)
      → size ≤ (pack_branches machine branches at entries size).size
  grows_branches machine no_fields at entries size = omega arith
  grows_branches machine (branch field part rest) at empty_record size = omega arith
  grows_branches machine (branch field part rest) at (entry name datum others) size =
      let packs = λ (offset : ℕ) (value : Datum) (after : ℕ). pack_part machine part field.size offset value after in
      let first = grows_shaped machine field field.shape packs (λ offset value after. grows_part machine part field.size offset value after)
      at datum size in
      let more = grows_branches machine rest at others (pack_shaped machine field field.shape at datum packs size).size in
      omega (arith, first, more)

  pub grows_part : (machine : Machine) (part : Part) (element_size at : ℕ) (datum : Datum) (size : ℕ)
      → size ≤ (pack_part machine part element_size at datum size).size
  grows_part machine (number_part kind) element_size at datum size = omega arith
  grows_part machine text_part element_size at datum size = grows_text machine at datum size
  grows_part machine (tree_part nested) element_size at datum size = grows_tree machine nested at (entries_of (Some datum)) size
