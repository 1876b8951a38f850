-- The compiled steps stay inside a well laid receiver's record.
use Rattle.std.proofs.Common.{◌≡◌, ℕ, suc, ◌+◌, ◌-◌, ◌≤◌, List, Option, Some, None, refl, sym, ap, ◌∙◌, subst}
use Rattle.std.proofs.Common.{arith}
use Rattle.std.specs.Prelude.{slice_get}
use Rattle.evp_format.specs.declared.field.Field.{Field}
use Rattle.evp_format.specs.declared.field.Shape.{Shape}
use Rattle.evp_format.specs.declared.field.Shape.TheVariants.{One, Fixed, Counted}
use Rattle.evp_format.specs.Clashing.{branch_named}
use Rattle.evp_format.specs.LaidTree.{IsLaidRecord, IsLaidTree, AreLaidBranches, IsLaidPart}
use Rattle.evp_format.specs.Tree.{Tree, tree, Branches, no_fields, branch, Part, number_part, text_part, tree_part, fields_of, length_of}
use Rattle.evp_format.specs.WellLaid.{extent, shape_extent, depth, branches_depth, part_depth}
use Rattle.evp_plan.specs.Matching.{Content, numbers, texts, records, content_of, known_branches, known_named, part_for, op_for}
use Rattle.evp_plan.specs.Matching.{inside_partner, compiled_tree, compiled, compiled_part}
use Rattle.evp_plan.specs.Sound.{IsSoundPart, IsSoundOp, IsSound}

-- a record has a byte
some_bytes : (pointer size : ℕ) (nested : Tree) → size ≡ length_of nested → IsLaidTree pointer nested → 1 ≤ size
some_bytes pointer size (tree length branches) same laid =
    let allowed = laid.0.laid.length_allowed.0 in
    let long = laid.0.has_length in
    omega (arith, allowed, long, same)

sound_part : (pointer size : ℕ) (part : Part) (partner : Option (Field × Content)) (Inside : ℕ → Type 0) → IsLaidPart pointer size part
    → Inside size
    → IsSoundPart pointer size (part_for size (content_of part) partner) Inside
sound_part pointer size (number_part kind) None Inside laid inside = laid
sound_part pointer size (number_part kind) (Some (field, numbers other)) Inside laid inside = laid
sound_part pointer size (number_part kind) (Some (field, texts)) Inside laid inside = laid
sound_part pointer size (number_part kind) (Some (field, records)) Inside laid inside = laid
sound_part pointer size text_part partner Inside laid inside = laid
sound_part pointer size (tree_part nested) partner Inside laid inside = (some_bytes pointer size nested laid.0 laid.1, inside)

sound_op : (pointer length : ℕ) (from all : List (Field × Content)) (field : Field) (shape : Shape) (part : Part)
    (partner : Option (Field × Content)) (Inside : ℕ → Type 0)
    → field.offset + shape_extent pointer shape field.size ≤ length → IsLaidPart pointer field.size part → Inside field.size
    → IsSoundOp pointer length field.offset field.size (op_for from all field shape (content_of part) partner) Inside
sound_op pointer length from all field One (number_part kind) partner Inside fits laid inside = (fits, laid)
sound_op pointer length from all field One text_part partner Inside fits laid inside = omega (arith, fits, laid)
sound_op pointer length from all field One (tree_part nested) partner Inside fits laid inside = (fits, inside)
sound_op pointer length from all field (Fixed n) part partner Inside fits laid inside
    = (fits, sound_part pointer field.size part partner Inside laid inside)
sound_op pointer length from all field (Counted c) part partner Inside fits laid inside
    = (fits, sound_part pointer field.size part partner Inside laid inside)

-- each of these fields is inside a record of this length
abbrev pub AreWithin : ℕ → ℕ → List Field → Type 0
AreWithin pointer length fields = (k : ℕ) (field : Field) → slice_get fields k ≡ Some field → field.offset + extent pointer field ≤ length

pub within_laid : (pointer length : ℕ) (branches : Branches) → IsLaidRecord pointer length branches
    → AreWithin pointer length (fields_of branches)
within_laid pointer length branches laid k field found =
    let there : slice_get laid.type.fields k ≡ Some field = ap (λ (fields : List Field). slice_get fields k) laid.has_fields ∙ found in
    let inside = (laid.laid.each_field k field there).inside in
    let same = laid.has_length in
    omega (arith, inside, same)

mutual
  pub sound_tree : (pointer : ℕ) (from : Branches) (nested : Tree) (levels : ℕ) → IsLaidTree pointer nested → depth nested ≤ levels
      → IsSound pointer (compiled_tree from nested) levels (length_of nested)
  sound_tree pointer from (tree length branches) levels laid deep =
      sound_branches pointer from branches branches 0 levels length laid.1 (within_laid pointer length branches laid.0)
      (omega (arith, deep))

  sound_branches : (pointer : ℕ) (from all branches : Branches) (k levels length : ℕ) → AreLaidBranches pointer branches
      → AreWithin pointer length (fields_of branches) → suc (branches_depth branches) ≤ levels
      → IsSound pointer (compiled from all branches k) levels length
  sound_branches pointer from all no_fields k levels length laid within deep = tt
  sound_branches pointer from all (branch field part rest) k levels length laid within deep = (
    omega (arith, deep),
    sound_op pointer length (known_branches from) (known_branches all) field field.shape part (known_named field.name (known_branches from))
        (λ size. IsSound pointer (compiled_part (inside_partner (branch_named field.name from)) part) (levels - 1) size)
        (within 0 field refl) laid.1
        (sound_inside pointer (inside_partner (branch_named field.name from)) field.size part (levels - 1) laid.1 (omega (arith, deep))),
    sound_branches pointer from all rest (suc k) levels length laid.2 (λ i other found. within (suc i) other found) (omega (arith, deep)),
  )

  sound_inside : (pointer : ℕ) (from : Branches) (size : ℕ) (part : Part) (levels : ℕ) → IsLaidPart pointer size part
      → part_depth part ≤ levels → IsSound pointer (compiled_part from part) levels size
  sound_inside pointer from size (number_part kind) levels laid deep = tt
  sound_inside pointer from size text_part levels laid deep = tt
  sound_inside pointer from size (tree_part nested) levels laid deep =
      let Sound : ℕ → Type 0 = λ s. IsSound pointer (compiled_tree from nested) levels s in
      subst Sound (sym laid.0) (sound_tree pointer from nested levels laid.1 deep)
