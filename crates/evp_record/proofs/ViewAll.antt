-- A packed record is viewed as it was: its counts, its fields, and the records inside it.
use Rattle.std.proofs.Common.{◌≡◌, ℕ, zero, suc, ◌+◌, ◌^◌, ◌≤◌, ◌<◌, ℤ, List, [], ◌∷◌, ◌++◌, length, Some, refl, sym, ap, ◌∙◌, subst, arith}
use Rattle.std.specs.Prelude.{slice_get}
use Rattle.evp_format.specs.Datum.{Datum, num, null, text, list, rec, Entries, empty_record, entry, entry_at}
use Rattle.evp_format.specs.declared.field.Base.{Base}
use Rattle.evp_format.specs.declared.field.Base.TheVariants.{Number, Text, Nested}
use Rattle.evp_format.specs.declared.field.Field.{Field}
use Rattle.evp_format.specs.declared.field.Shape.{Shape}
use Rattle.evp_format.specs.declared.field.Shape.TheVariants.{One, Fixed, Counted}
use Rattle.evp_format.specs.declared.place.PlaceStep.{PlaceStep}
use Rattle.evp_format.specs.declared.place.PlaceStep.TheVariants.{At}
use Rattle.evp_format.specs.LaidTree.{Matches, IsLaidRecord, IsLaidTree, AreLaidBranches, IsLaidPart}
use Rattle.evp_format.specs.Packing.{Machine, pack_shaped, pack_tree, pack_branches, pack_part}
use Rattle.evp_format.specs.Tree.{Tree, tree, Branches, no_fields, branch, branch_at, Part, number_part, text_part, tree_part, fields_of}
use Rattle.evp_format.specs.Tree.{length_of}
use Rattle.evp_format.specs.Typed.{IsShaped, IsOfTree, IsOfBranches, IsOfPart, count_in}
use Rattle.evp_format.specs.Viewing.{read, then_walk, field_number, view_shaped, view_tree, view_branches, view_part}
use Rattle.evp_format.specs.WellLaid.{CountsElements, HasShape}
use Rattle.evp_record.proofs.Held.{Holds}
use Rattle.evp_record.proofs.Pieces.{Each}
use Rattle.evp_record.proofs.Placed.{placed_shaped, placed_branches, placed_part, AreInPlace, in_place-laid}
use Rattle.evp_record.proofs.ReadBack.{image_on, ReadsBack, each_split, IsPointer, number_reads, string_reads, then_reads}
use Rattle.evp_record.proofs.ViewBack.{CountReads, shaped_reads}

-- the number of a single number field that counts elements
count_reads_here : (machine : Machine) (bytes : List ℕ) (at : ℕ) (field : Field) (part : Part) (base : Base) (datum : Datum) (size : ℕ)
    (z : ℤ) → Matches base part → CountsElements base
    → IsLaidPart machine.pointer field.size part → IsOfPart part field.size datum
    → Each (Holds bytes) (pack_part machine part field.size (at + field.offset) datum size).all
    → count_in (Some datum) ≡ Some z → field_number (image_on machine bytes) at (Some (field, part)) ≡ z
count_reads_here machine bytes at field (number_part kind) base (num n) size z matches counts laid typed held is =
    let same : n ≡ z = cc in number_reads machine kind field.size (at + field.offset) n bytes laid typed held.0 ∙ same
count_reads_here machine bytes at field (number_part kind) base null size z matches counts laid typed held is = absurd typed
count_reads_here machine bytes at field (number_part kind) base (text text') size z matches counts laid typed held is = absurd typed
count_reads_here machine bytes at field (number_part kind) base (list elements) size z matches counts laid typed held is = absurd typed
count_reads_here machine bytes at field (number_part kind) base (rec members) size z matches counts laid typed held is = absurd typed
count_reads_here machine bytes at field text_part (Number kind) datum size z matches counts laid typed held is = absurd matches
count_reads_here machine bytes at field text_part Text datum size z matches counts laid typed held is = absurd counts
count_reads_here machine bytes at field text_part (Nested n) datum size z matches counts laid typed held is = absurd counts
count_reads_here machine bytes at field (tree_part nested) (Number kind) datum size z matches counts laid typed held is = absurd matches
count_reads_here machine bytes at field (tree_part nested) Text datum size z matches counts laid typed held is = absurd counts
count_reads_here machine bytes at field (tree_part nested) (Nested n) datum size z matches counts laid typed held is = absurd counts

-- the number of any such field of a record
count_reads : (machine : Machine) (bytes : List ℕ) (at : ℕ) (all entries : Entries) (branches : Branches) (size c : ℕ) (field : Field)
    (z : ℤ) → AreLaidBranches machine.pointer branches
    → IsOfBranches all branches entries → Each (Holds bytes) (pack_branches machine branches at entries size).all
    → slice_get (fields_of branches) c ≡ Some field → field.shape ≡ One
    → CountsElements field.base → count_in (entry_at entries c) ≡ Some z
    → field_number (image_on machine bytes) at (branch_at branches c) ≡ z
count_reads machine bytes at all entries no_fields size c field z laid typed held found single counts is = cc
count_reads machine bytes at all empty_record (branch first part rest) size c field z laid typed held found single counts is = absurd typed
count_reads machine bytes at all (entry name datum others) (branch first part rest) size zero field z laid typed held found single counts is
    =
    let same : first ≡ field = cc in
    let one = λ (offset : ℕ) (value : Datum) (after : ℕ). pack_part machine part first.size offset value after in
    let shape : first.shape ≡ One = ap (λ (f : Field). f.shape) same ∙ single in
    let base : field.base ≡ first.base = ap (λ (f : Field). f.base) (sym same) in
    let both = each_split (Holds bytes) (pack_shaped machine first first.shape at datum one size).all
    (pack_branches machine rest at others (pack_shaped machine first first.shape at datum one size).size).all held in
    let Held : Shape → Type 0 = λ s. Each (Holds bytes) (pack_shaped machine first s at datum one size).all in
    let Typed : Shape → Type 0 = λ s. IsShaped all s (λ value. IsOfPart part first.size value) datum in
    count_reads_here machine bytes at first part first.base datum size z laid.0 (subst CountsElements base counts) laid.1
    (subst Typed shape typed.1) (subst Held shape both.0) is
count_reads machine bytes at all (entry name datum others) (branch first part rest) size (suc c) field z laid typed held found single counts
    is =
    let one = λ (offset : ℕ) (value : Datum) (after : ℕ). pack_part machine part first.size offset value after in
    let pieces = pack_shaped machine first first.shape at datum one size in
    let both = each_split (Holds bytes) pieces.all (pack_branches machine rest at others pieces.size).all held in
    count_reads machine bytes at all others rest pieces.size c field z laid.2 typed.2 both.1 found single counts is

-- the counts of a well laid record's counted arrays
counts_read : (machine : Machine) (bytes : List ℕ) (length at : ℕ) (branches : Branches) (entries : Entries) (size : ℕ)
    → IsLaidRecord machine.pointer length branches
    → AreLaidBranches machine.pointer branches → IsOfBranches entries branches entries
    → Each (Holds bytes) (pack_branches machine branches at entries size).all
    → (k : ℕ) (field : Field) → slice_get (fields_of branches) k ≡ Some field
    → CountReads (image_on machine bytes) at entries branches field.shape
counts_read machine bytes length at branches entries size laid laid' typed held k field found =
    let Found : List Field → Type 0 = λ fields. slice_get fields k ≡ Some field in
    let shaped = (laid.laid.each_field k field (subst Found (sym laid.has_fields) found)).shape_allowed in
    let Shaped : List Field → Type 0 = λ fields. HasShape fields field.shape in
    by_shape field.shape (subst Shaped laid.has_fields shaped)
  where
    by_shape : (shape : Shape) → HasShape (fields_of branches) shape → CountReads (image_on machine bytes) at entries branches shape
    by_shape One shaped = tt
    by_shape (Fixed n) shaped = tt
    by_shape (Counted c) shaped = λ z is. count_reads machine bytes at entries entries branches size c shaped.0 z laid' typed held shaped.1
        shaped.2 shaped.3 is

mutual
  -- the record at `at`
  pub tree_reads : (machine : Machine) (bytes : List ℕ) (nested : Tree) (at : ℕ) (entries : Entries) (place : List PlaceStep)
      (size mark : ℕ) → IsPointer machine.pointer → length bytes < 2 ^ 32
      → IsLaidTree machine.pointer nested → IsOfTree nested entries → at + length_of nested ≤ size → 0 < size → mark ≤ size
      → (pack_tree machine nested at entries size).size ≤ length bytes
      → Each (Holds bytes) (pack_tree machine nested at entries size).all
      → ReadsBack (view_tree (image_on machine bytes) nested at place mark) (rec entries)
      (pack_tree machine nested at entries size).size
  tree_reads machine bytes (tree fixed branches) at entries place size mark pointer small laid typed inside some behind fits held =
      let places = in_place-laid machine.pointer fixed branches laid.0 in
      let counts = counts_read machine bytes fixed at branches entries size laid.0 laid.1 typed held in
      let fields =
      branches_reads machine bytes branches fixed at entries branches 0 entries place size mark pointer small laid.1 places typed counts
      inside some behind fits held in (
        fields.0,
        then_reads (view_branches (image_on machine bytes) branches branches at 0 place mark)
            (λ entries after. read (rec entries) after) entries fields.0 fields.1,
        fields.2,
      )

  -- the fields from number k on, of the record at `at` whose fields and values are `all`
  pub branches_reads : (machine : Machine) (bytes : List ℕ) (branches : Branches) (fixed at : ℕ) (all : Entries) (whole : Branches) (k : ℕ)
      (entries : Entries) (place : List PlaceStep) (size mark : ℕ)
      → IsPointer machine.pointer → length bytes < 2 ^ 32 → AreLaidBranches machine.pointer branches
      → AreInPlace machine.pointer fixed (fields_of branches) → IsOfBranches all branches entries
      → ((j : ℕ) (field : Field) → slice_get (fields_of branches) j ≡ Some field
      → CountReads (image_on machine bytes) at all whole field.shape) → at + fixed ≤ size → 0 < size → mark ≤ size
      → (pack_branches machine branches at entries size).size ≤ length bytes
      → Each (Holds bytes) (pack_branches machine branches at entries size).all
      → ReadsBack (view_branches (image_on machine bytes) whole branches at k place mark) entries
      (pack_branches machine branches at entries size).size
  branches_reads machine bytes no_fields fixed at all whole k empty_record place size mark pointer small laid places typed counts inside
      some behind fits held = (mark, refl, behind)
  branches_reads machine bytes no_fields fixed at all whole k (entry name datum others) place size mark pointer small laid places typed
      counts inside some behind fits held = absurd typed
  branches_reads machine bytes (branch field part rest) fixed at all whole k empty_record place size mark pointer small laid places typed
      counts inside some behind fits held = absurd typed
  branches_reads machine bytes (branch field part rest) fixed at all whole k (entry name datum others) place size mark pointer small laid
      places typed counts inside some behind fits held =
      let image = image_on machine bytes in
      let packs = λ (offset : ℕ) (value : Datum) (after : ℕ). pack_part machine part field.size offset value after in
      let views = λ (offset : ℕ) (place' : List PlaceStep) (after : ℕ). view_part image part field.size offset place' after in
      let P = IsOfPart part field.size in
      let first = pack_shaped machine field field.shape at datum packs size in
      let placed_each = λ (offset : ℕ) (value : Datum) (after : ℕ) (is : P value) (within : offset + field.size ≤ after). placed_part
      machine part field.size offset value after laid.1 is within in
      let lies = placed_shaped machine all field field.shape P packs placed_each at datum size typed.1 (omega (arith, places.0, inside)) in
      let behind_it = placed_branches machine rest fixed at all others first.size laid.2 places.2 typed.2
      (omega (arith, lies.grows, inside)) in
      let both = each_split (Holds bytes) first.all (pack_branches machine rest at others first.size).all held in
      let one =
      shaped_reads machine bytes all whole field field.shape P packs views placed_each
      (λ offset place' value size' mark' is within some' behind' fits' held'. part_reads machine bytes part field.size offset value place'
      size' mark' pointer small laid.1 is within some' behind' fits' held') at
      (place ++ At k ∷ []) datum size mark pointer typed.1 (counts 0 field refl) (omega (arith, places.0, inside)) some behind
      (omega (arith, fits, behind_it.grows)) small both.0 in
      let more =
      branches_reads machine bytes rest fixed at all whole (suc k) others place first.size one.0 pointer small laid.2 places.2 typed.2
      (λ j other found. counts (suc j) other found)
      (omega (arith, lies.grows, inside)) (omega (arith, lies.grows, some)) one.2 fits both.1 in (
        more.0,
        then_reads (view_shaped image whole field field.shape at (place ++ At k ∷ []) views mark)
            (λ value after. then_walk (view_branches image whole rest at (suc k) place after)
            (λ others' end. read (entry field.name value others') end)) datum one.0 one.1
            ∙ then_reads (view_branches image whole rest at (suc k) place one.0) (λ others' end. read (entry field.name datum others') end)
            others more.0 more.1
            ∙ ap (λ (n : List ℕ). read (entry n datum others) more.0) (sym typed.0),
        more.2,
      )

  -- the number, text or record at `at`
  pub part_reads : (machine : Machine) (bytes : List ℕ) (part : Part) (element_size at : ℕ) (datum : Datum) (place : List PlaceStep)
      (size mark : ℕ) → IsPointer machine.pointer → length bytes < 2 ^ 32
      → IsLaidPart machine.pointer element_size part → IsOfPart part element_size datum → at + element_size ≤ size → 0 < size → mark ≤ size
      → (pack_part machine part element_size at datum size).size ≤ length bytes
      → Each (Holds bytes) (pack_part machine part element_size at datum size).all
      → ReadsBack (view_part (image_on machine bytes) part element_size at place mark) datum
      (pack_part machine part element_size at datum size).size
  part_reads machine bytes (number_part kind) element_size at (num n) place size mark pointer small laid typed inside some behind fits held
      =
      (mark, ap (λ (z : ℤ). read (num z) mark) (number_reads machine kind element_size at n bytes laid typed held.0), behind)
  part_reads machine bytes (number_part kind) element_size at null place size mark pointer small laid typed inside some behind fits held
      = absurd typed
  part_reads machine bytes (number_part kind) element_size at (text text') place size mark pointer small laid typed inside some behind fits
      held = absurd typed
  part_reads machine bytes (number_part kind) element_size at (list elements) place size mark pointer small laid typed inside some behind
      fits held = absurd typed
  part_reads machine bytes (number_part kind) element_size at (rec members) place size mark pointer small laid typed inside some behind fits
      held = absurd typed
  part_reads machine bytes text_part element_size at datum place size mark pointer small laid typed inside some behind fits held =
      string_reads machine bytes place at size mark datum pointer typed some behind fits small held
  part_reads machine bytes (tree_part nested) element_size at (rec members) place size mark pointer small laid typed inside some behind fits
      held =
      tree_reads machine bytes nested at members place size mark pointer small laid.1 typed (omega (arith, laid.0, inside)) some behind fits
      held
  part_reads machine bytes (tree_part nested) element_size at (num n) place size mark pointer small laid typed inside some behind fits held
      = absurd typed
  part_reads machine bytes (tree_part nested) element_size at null place size mark pointer small laid typed inside some behind fits held
      = absurd typed
  part_reads machine bytes (tree_part nested) element_size at (text text') place size mark pointer small laid typed inside some behind fits
      held = absurd typed
  part_reads machine bytes (tree_part nested) element_size at (list elements) place size mark pointer small laid typed inside some behind
      fits held = absurd typed
