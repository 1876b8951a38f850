-- A viewed record is of its type: its counts, its fields, and the records inside it.
use Rattle.std.proofs.Common.{◌≡◌, ℕ, zero, suc, ◌+◌, ◌*◌, ◌≤◌, ◌<◌, ℤ, nat_lt, List, [], ◌∷◌, ◌++◌, length, drop, Option, Some, Ok, refl}
use Rattle.std.proofs.Common.{sym, ap, ◌∙◌, subst, arith, IsTrue}
use Rattle.std.proofs.lemmas.Bool.{ltb-false}
use Rattle.std.proofs.lemmas.List.{length-take-le}
use Rattle.std.proofs.lemmas.List.Elements.{All-drop, All-take}
use Rattle.std.proofs.Common.{length-drop}
use Rattle.std.specs.Prelude.{slice_get}
use Rattle.evp_base.proofs.Digits.{AreBytes}
use Rattle.evp_base.proofs.Numbers.{InRange-number}
use Rattle.evp_base.specs.declared.kind.Kind.{Kind}
use Rattle.evp_base.specs.Numbers.{number, InRange, is_size_of}
use Rattle.evp_format.specs.Bytes.{bytes_at}
use Rattle.evp_format.specs.Datum.{Datum, num, rec, Entries, empty_record, entry, entry_at}
use Rattle.evp_format.specs.declared.field.Base.{Base}
use Rattle.evp_format.specs.declared.field.Base.TheVariants.{Number, Text, Nested}
use Rattle.evp_format.specs.declared.field.Field.{Field}
use Rattle.evp_format.specs.declared.field.Shape.{Shape}
use Rattle.evp_format.specs.declared.field.Shape.TheVariants.{One, Fixed, Counted}
use Rattle.evp_format.specs.declared.place.PlaceStep.{PlaceStep}
use Rattle.evp_format.specs.declared.place.PlaceStep.TheVariants.{At, Nth}
use Rattle.evp_format.proofs.Trees.{laid_root}
use Rattle.evp_format.specs.declared.broken.Broken.TheVariants.{ShortRecord}
use Rattle.evp_format.specs.LaidTree.{Matches, IsLaidRecord, IsLaidTree, AreLaidBranches, IsLaidPart}
use Rattle.evp_format.specs.Tree.{Tree, tree, Branches, no_fields, branch, branch_at, Part, number_part, text_part, tree_part, fields_of}
use Rattle.evp_format.specs.Tree.{length_of, root_of}
use Rattle.evp_format.specs.Typed.{IsShaped, IsListOf, IsRecordOf, IsNumberOf, IsOfTree, IsOfBranches, IsOfPart, count_in}
use Rattle.evp_format.specs.Viewing.{Image, Walked, read, broken, unless, viewed, image_of, pointer_at, field_number, view_shaped}
use Rattle.evp_format.specs.Viewing.{view_tree, view_branches, view_part}
use Rattle.evp_format.specs.WellLaid.{CountsElements, HasShape, shape_extent}
use Rattle.evp_record.proofs.Placed.{AreInPlace, in_place-laid}
use Rattle.evp_record.specs.Laws.{ViewedIsOfFormat}
use Rattle.evp_record.proofs.ViewTyped.{times_le, went_on, passed, string_typed, list_typed, counted_typed}

-- bytes that stand inside the record are a number in the range of their kind
number_typed : (image : Image) (kind : Kind) (size at : ℕ) → AreBytes image.bytes → IsTrue (is_size_of kind size)
    → at + size ≤ length image.bytes
    → InRange kind size (number image.order kind (bytes_at at size image.bytes))
number_typed image kind size at are allowed inside =
    let left = length-drop at image.bytes in
    let count : length (bytes_at at size image.bytes) ≡ size = length-take-le size (drop at image.bytes) (omega (arith, left, inside)) in
    let here = All-take (λ (byte : ℕ). byte < 256) size (drop at image.bytes) (All-drop (λ (byte : ℕ). byte < 256) at image.bytes are) in
    let Allowed : ℕ → Type 0 = λ n. IsTrue (is_size_of kind n) in
    let Ranges : ℕ → Type 0 = λ n. InRange kind n (number image.order kind (bytes_at at size image.bytes)) in
    subst Ranges count (InRange-number image.order kind (bytes_at at size image.bytes) (subst Allowed (sym count) allowed) here)

-- the count that stands in the record
abbrev pub CountStands : Image → ℕ → Entries → Branches → Shape → Type 0
CountStands image at all branches One = Unit {0}
CountStands image at all branches (Fixed n) = Unit {0}
CountStands image at all branches (Counted c) = count_in (entry_at all c) ≡ Some (field_number image at (branch_at branches c))

shaped_typed : (image : Image) (all : Entries) (branches : Branches) (field : Field) (shape : Shape) (P : Datum → Type 0)
    (one : ℕ → List PlaceStep → ℕ → Walked Datum) (at : ℕ) (place : List PlaceStep)
    (mark end : ℕ) (value : Datum) → ((offset : ℕ) (place' : List PlaceStep) (after last : ℕ) (value' : Datum)
    → offset + field.size ≤ length image.bytes → one offset place' after ≡ read value' last → P value')
    → CountStands image at all branches shape → at + field.offset + shape_extent image.pointer shape field.size ≤ length image.bytes
    → view_shaped image branches field shape at place one mark ≡ read value end
    → IsShaped all shape P value
shaped_typed image all branches field One P one at place mark end value each count inside is = each (at + field.offset) place mark end value
    inside is
shaped_typed image all branches field (Fixed n) P one at place mark end value each count inside is =
    list_typed P (λ k after. one (at + field.offset + k * field.size) (place ++ Nth k ∷ []) after) n mark end value
    (λ i after last value' below read_it.
    let within = times_le (suc i) n field.size below in
    each (at + field.offset + i * field.size) (place ++ Nth i ∷ []) after last value' (omega (arith, inside, within)) read_it) is
shaped_typed image all branches field (Counted c) P one at place mark end value each count inside is =
    subst (λ (z : Option ℤ). IsListOf P z value) (sym count)
    (counted_typed image P place (field_number image at (branch_at branches c)) (pointer_at image (at + field.offset)) field.size
    (λ offset k after. one offset (place ++ Nth k ∷ []) after) mark end value
    (λ offset k after last value' inside' read_it. each offset (place ++ Nth k ∷ []) after last value' inside' read_it) is)

-- the number of a single number field, as it was read
count_here : (image : Image) (at : ℕ) (field : Field) (part : Part) (base : Base) (place : List PlaceStep) (mark end : ℕ) (value : Datum)
    → Matches base part → CountsElements base
    → view_part image part field.size (at + field.offset) place mark ≡ read value end
    → count_in (Some value) ≡ Some (field_number image at (Some (field, part)))
count_here image at field (number_part kind) base place mark end value matches counts is =
    let same : num (number image.order kind (bytes_at (at + field.offset) field.size image.bytes))
    ≡ value = cc in ap (λ (v : Datum). count_in (Some v)) (sym same)
count_here image at field text_part (Number kind) place mark end value matches counts is = absurd matches
count_here image at field text_part Text place mark end value matches counts is = absurd counts
count_here image at field text_part (Nested n) place mark end value matches counts is = absurd counts
count_here image at field (tree_part nested) (Number kind) place mark end value matches counts is = absurd matches
count_here image at field (tree_part nested) Text place mark end value matches counts is = absurd counts
count_here image at field (tree_part nested) (Nested n) place mark end value matches counts is = absurd counts

-- the number of any such field of a record that was read
count_stands : (image : Image) (whole branches : Branches) (at k c : ℕ) (place : List PlaceStep) (mark end : ℕ) (entries : Entries)
    (field : Field) → AreLaidBranches image.pointer branches
    → slice_get (fields_of branches) c ≡ Some field → field.shape ≡ One → CountsElements field.base
    → view_branches image whole branches at k place mark ≡ read entries end
    → count_in (entry_at entries c) ≡ Some (field_number image at (branch_at branches c))
count_stands image whole no_fields at k c place mark end entries field laid found single counts is = cc
count_stands image whole (branch first part rest) at k zero place mark end entries field laid found single counts is =
    let same : first ≡ field = cc in
    let one = λ (offset : ℕ) (place' : List PlaceStep) (after : ℕ). view_part image part first.size offset place' after in
    let shape : first.shape ≡ One = ap (λ (f : Field). f.shape) same ∙ single in
    let base : field.base ≡ first.base = ap (λ (f : Field). f.base) (sym same) in
    let here = went_on (view_shaped image whole first first.shape at (place ++ At k ∷ []) one mark) _ entries end is in
    let others = went_on (view_branches image whole rest at (suc k) place here.mark)
    (λ others last. read (entry first.name here.first others) last) entries end here.rest in
    let made : entry first.name here.first others.first ≡ entries = (let h = others.rest in cc) in
    let single_read : view_part image part first.size (at + first.offset) (place ++ At k ∷ []) mark ≡ read here.first here.mark =
    ap (λ (s : Shape). view_shaped image whole first s at (place ++ At k ∷ []) one mark) (sym shape) ∙ here.reads in
    ap (λ (es : Entries). count_in (entry_at es 0)) (sym made)
    ∙ count_here image at first part first.base (place ++ At k ∷ []) mark here.mark here.first laid.0 (subst CountsElements base counts)
    single_read
count_stands image whole (branch first part rest) at k (suc c) place mark end entries field laid found single counts is =
    let one = λ (offset : ℕ) (place' : List PlaceStep) (after : ℕ). view_part image part first.size offset place' after in
    let here = went_on (view_shaped image whole first first.shape at (place ++ At k ∷ []) one mark) _ entries end is in
    let others = went_on (view_branches image whole rest at (suc k) place here.mark)
    (λ others last. read (entry first.name here.first others) last) entries end here.rest in
    let made : entry first.name here.first others.first ≡ entries = (let h = others.rest in cc) in
    ap (λ (es : Entries). count_in (entry_at es (suc c))) (sym made)
    ∙ count_stands image whole rest at (suc k) c place here.mark others.mark others.first field laid.2 found single counts others.reads

-- the counts of a well laid record's counted arrays
counts_stand : (image : Image) (fixed at : ℕ) (branches : Branches) (place : List PlaceStep) (mark end : ℕ) (entries : Entries)
    → IsLaidRecord image.pointer fixed branches → AreLaidBranches image.pointer branches
    → view_branches image branches branches at 0 place mark ≡ read entries end
    → (k : ℕ) (field : Field) → slice_get (fields_of branches) k ≡ Some field → CountStands image at entries branches field.shape
counts_stand image fixed at branches place mark end entries laid laid' is k field found =
    let Found : List Field → Type 0 = λ fields. slice_get fields k ≡ Some field in
    let shaped = (laid.laid.each_field k field (subst Found (sym laid.has_fields) found)).shape_allowed in
    let Shaped : List Field → Type 0 = λ fields. HasShape fields field.shape in
    by_shape field.shape (subst Shaped laid.has_fields shaped)
  where
    by_shape : (shape : Shape) → HasShape (fields_of branches) shape → CountStands image at entries branches shape
    by_shape One shaped = tt
    by_shape (Fixed n) shaped = tt
    by_shape (Counted c) shaped = count_stands image branches branches at 0 c place mark end entries shaped.0 laid' shaped.1 shaped.2
        shaped.3 is

mutual
  -- the record at `at`
  pub tree_typed : (image : Image) (nested : Tree) (at : ℕ) (place : List PlaceStep) (mark end : ℕ) (value : Datum) → AreBytes image.bytes
      → IsLaidTree image.pointer nested
      → at + length_of nested ≤ length image.bytes → view_tree image nested at place mark ≡ read value end
      → IsRecordOf (IsOfTree nested) value
  tree_typed image (tree fixed branches) at place mark end value are laid inside is =
      let fields = went_on (view_branches image branches branches at 0 place mark) (λ entries after. read (rec entries) after) value end is
      in
      let counts = counts_stand image fixed at branches place mark fields.mark fields.first laid.0 laid.1 fields.reads in
      let typed =
      branches_typed image branches fixed at fields.first branches 0 place mark fields.mark fields.first are laid.1
      (in_place-laid image.pointer fixed branches laid.0) counts inside fields.reads in
      let same : rec fields.first ≡ value = (let h = fields.rest in cc) in
      subst (IsRecordOf (IsOfTree (tree fixed branches))) same typed

  -- the fields from number k on, of the record at `at` whose fields and values are `all`
  pub branches_typed : (image : Image) (branches : Branches) (fixed at : ℕ) (all : Entries) (whole : Branches) (k : ℕ)
      (place : List PlaceStep) (mark end : ℕ) (entries : Entries) → AreBytes image.bytes
      → AreLaidBranches image.pointer branches → AreInPlace image.pointer fixed (fields_of branches)
      → ((j : ℕ) (field : Field) → slice_get (fields_of branches) j ≡ Some field → CountStands image at all whole field.shape)
      → at + fixed ≤ length image.bytes
      → view_branches image whole branches at k place mark ≡ read entries end → IsOfBranches all branches entries
  branches_typed image no_fields fixed at all whole k place mark end entries are laid places counts inside is =
      let same : empty_record ≡ entries = cc in subst (IsOfBranches all no_fields) same tt
  branches_typed image (branch field part rest) fixed at all whole k place mark end entries are laid places counts inside is =
      let views = λ (offset : ℕ) (place' : List PlaceStep) (after : ℕ). view_part image part field.size offset place' after in
      let here = went_on (view_shaped image whole field field.shape at (place ++ At k ∷ []) views mark) _ entries end is in
      let others = went_on (view_branches image whole rest at (suc k) place here.mark)
      (λ others last. read (entry field.name here.first others) last) entries end here.rest in
      let made : entry field.name here.first others.first ≡ entries = (let h = others.rest in cc) in
      let first =
      shaped_typed image all whole field field.shape (IsOfPart part field.size) views at (place ++ At k ∷ []) mark here.mark here.first
      (λ offset place' after last value' inside' read_it. part_typed image part field.size offset place' after last value' are laid.1
      inside' read_it) (counts 0 field refl)
      (omega (arith, places.0, inside)) here.reads in
      let more =
      branches_typed image rest fixed at all whole (suc k) place here.mark others.mark others.first are laid.2 places.2
      (λ j other found. counts (suc j) other found) inside others.reads in
      subst (IsOfBranches all (branch field part rest)) made (refl, first, more)

  -- the number, text or record at `at`
  pub part_typed : (image : Image) (part : Part) (element_size at : ℕ) (place : List PlaceStep) (mark end : ℕ) (value : Datum)
      → AreBytes image.bytes → IsLaidPart image.pointer element_size part
      → at + element_size ≤ length image.bytes → view_part image part element_size at place mark ≡ read value end
      → IsOfPart part element_size value
  part_typed image (number_part kind) element_size at place mark end value are laid inside is =
      let same : num (number image.order kind (bytes_at at element_size image.bytes)) ≡ value = cc in
      subst (IsNumberOf (InRange kind element_size)) same (number_typed image kind element_size at are laid inside)
  part_typed image text_part element_size at place mark end value are laid inside is = string_typed image place mark (pointer_at image at)
      end value are is
  part_typed image (tree_part nested) element_size at place mark end value are laid inside is =
      tree_typed image nested at place mark end value are laid.1 (omega (arith, laid.0, inside)) is

viewed_read : (walked : Walked Datum) (value : Datum) → viewed walked ≡ Ok value → (mark : ℕ) × (walked ≡ read value mark)
viewed_read (read first mark) value is = let same : first ≡ value = cc in (mark, ap (λ (v : Datum). read v mark) same)
viewed_read (broken fault) value is = cc

-- what is viewed is of the format
pub view-typed : ViewedIsOfFormat
view-typed layout bytes value laid are is =
    let root = root_of layout in
    let whole = viewed_read (unless (nat_lt (length bytes) (length_of root)) ShortRecord
    (λ _. view_tree (image_of layout bytes) root 0 [] (length_of root))) value is in
    let through = passed (nat_lt (length bytes) (length_of root)) ShortRecord
    (λ _. view_tree (image_of layout bytes) root 0 [] (length_of root)) value whole.0 whole.1 in
    let inside = ltb-false (length bytes) (length_of root) through.0 in
    tree_typed (image_of layout bytes) root 0 [] (length_of root) whole.0 value are (laid_root layout laid) (omega (arith, inside))
    through.1
