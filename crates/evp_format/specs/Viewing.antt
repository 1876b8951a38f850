-- The value that a record's bytes have, or the first fault in the order of the walk.
-- The walk visits fields as listed and elements by index, and keeps a mark: each block starts at or
-- after it, and moves it to the block's end.
use Rattle.std.specs.Prelude.{ℕ, zero, suc, ◌+◌, ◌*◌, ℤ, pos, negsuc, Bool, true, false, ◌||◌, not}
use Rattle.std.specs.Prelude.{nat_lt, nat_eq, if◌then◌else◌, List, [], ◌∷◌, ◌++◌, length, drop}
use Rattle.std.specs.Prelude.{Option, Some, None, option_map, Result, Ok, Err}
use Rattle.evp_base.specs.declared.order.Order.{Order}
use Rattle.evp_base.specs.Numbers.{magnitude, number}
use Rattle.evp_format.specs.declared.broken.Broken.{Broken}
use Rattle.evp_format.specs.declared.broken.Broken.TheVariants.{ShortRecord, NegativeCount}
use Rattle.evp_format.specs.declared.broken.Broken.TheVariants.{NullList, BlockPlace, NoEnd}
use Rattle.evp_format.specs.declared.field.Field.{Field}
use Rattle.evp_format.specs.declared.field.Shape.{Shape}
use Rattle.evp_format.specs.declared.field.Shape.TheVariants.{One, Fixed, Counted}
use Rattle.evp_format.specs.declared.place.PlaceStep.{PlaceStep}
use Rattle.evp_format.specs.declared.place.PlaceStep.TheVariants.{At, Nth}
use Rattle.evp_format.specs.Bytes.{bytes_at}
use Rattle.evp_format.specs.Datum.{Datum, num, null, text, list, rec, Elements, empty_list, element}
use Rattle.evp_format.specs.Datum.{Entries, empty_record, entry}
use Rattle.evp_format.specs.Layout.{Layout}
use Rattle.evp_format.specs.Tree.{Tree, tree, Branches, no_fields, branch, Part, number_part}
use Rattle.evp_format.specs.Tree.{text_part, tree_part, branch_at, length_of, root_of}

-- a record's bytes, and how the machine that wrote them stores numbers and pointers
pub record Image : Type 0 where
  pub order : Order
  pub pointer : ℕ
  pub bytes : List ℕ

-- what a walk answers: what it read, with the mark behind it, or the first fault
pub data Walked (A : Type 0) : Type 0 where
  read : A → ℕ → Walked A
  broken : Broken → Walked A

-- goes on behind what was read
abbrev pub then_walk : {A B : Type 0} → Walked A → (A → ℕ → Walked B) → Walked B
then_walk (read a mark) next = next a mark
then_walk (broken fault) next = broken fault

-- this fault where the test holds, else goes on
abbrev pub unless : {A : Type 0} → Bool → Broken → (Unit {0} → Walked A) → Walked A
unless true fault next = broken fault
unless false fault next = next tt

-- the pointer that stands there: an offset from the record's first byte, 0 for none
abbrev pub pointer_at : Image → ℕ → ℕ
pointer_at image at = magnitude image.order (bytes_at at image.pointer image.bytes)

-- the number of a single field of the record at `at`
abbrev pub field_number : Image → ℕ → Option (Field × Part) → ℤ
field_number image at None = pos 0
field_number image at (Some (field, number_part kind)) =
    number image.order kind (bytes_at (at + field.offset) field.size image.bytes)
field_number image at (Some (field, text_part)) = pos 0
field_number image at (Some (field, tree_part nested)) = pos 0

-- the bytes before the first zero byte
abbrev pub until_zero : List ℕ → Option (List ℕ)
until_zero [] = None
until_zero (byte ∷ bytes) =
    if nat_eq byte 0 then Some [] else option_map (λ rest. byte ∷ rest) (until_zero bytes)

-- the text that begins at q
abbrev pub ended_text : List PlaceStep → ℕ → Option (List ℕ) → Walked Datum
ended_text place q None = broken (NoEnd place)
ended_text place q (Some bytes) = read (text bytes) (q + length bytes + 1)

-- a string by its pointer q
abbrev pub view_string : Image → List PlaceStep → ℕ → ℕ → Walked Datum
view_string image place mark zero = read null mark
view_string image place mark (suc p) =
    let q = suc p in
    unless (nat_lt q mark || not (nat_lt q (length image.bytes))) (BlockPlace place)
    (λ _. ended_text place q (until_zero (drop q image.bytes)))

-- elements k, k + 1 and so on, `one` reading each by its index and the mark
abbrev pub view_elements : (ℕ → ℕ → Walked Datum) → ℕ → ℕ → ℕ → Walked Elements
view_elements one zero k mark = read empty_list mark
view_elements one (suc n) k mark =
    then_walk (one k mark)
    (λ first after. then_walk (view_elements one n (suc k) after)
    (λ rest end. read (element first rest) end))

abbrev pub as_list : Walked Elements → Walked Datum
as_list walked = then_walk walked (λ elements mark. read (list elements) mark)

-- a counted array by its count and its pointer q; `one` reads an element by its offset, its index
-- and the mark
abbrev pub view_counted : Image → List PlaceStep → ℤ → ℕ → ℕ → (ℕ → ℕ → ℕ → Walked Datum) → ℕ
    → Walked Datum
view_counted image place (negsuc n) q size one mark = broken (NegativeCount place)
view_counted image place (pos zero) q size one mark = read (list empty_list) mark
view_counted image place (pos (suc n)) q size one mark =
    let count = suc n in
    unless (nat_eq q 0) (NullList place)
    (λ _. unless (nat_lt q mark || nat_lt (length image.bytes) (q + count * size))
    (BlockPlace place)
    (λ _. as_list (view_elements (λ k after. one (q + k * size) k after) count 0
    (q + count * size))))

-- a field of the record at `at`, whose fields are `all`; `one` reads a part at its offset, place
-- and mark
abbrev pub view_shaped : Image → Branches → Field → Shape → ℕ → List PlaceStep
    → (ℕ → List PlaceStep → ℕ → Walked Datum) → ℕ → Walked Datum
view_shaped image all field One at place one mark = one (at + field.offset) place mark
view_shaped image all field (Fixed n) at place one mark =
    as_list (view_elements (λ k after. one (at + field.offset + k * field.size)
    (place ++ Nth k ∷ []) after) n 0 mark)
view_shaped image all field (Counted c) at place one mark =
    view_counted image place (field_number image at (branch_at all c))
    (pointer_at image (at + field.offset)) field.size
    (λ offset k after. one offset (place ++ Nth k ∷ []) after) mark

abbrev mutual
  -- the record at `at`
  pub view_tree : Image → Tree → ℕ → List PlaceStep → ℕ → Walked Datum
  view_tree image (tree length branches) at place mark =
      then_walk (view_branches image branches branches at 0 place mark)
      (λ entries after. read (rec entries) after)

  -- the fields from number k on, of the record at `at`, whose fields are `all`
  pub view_branches : Image → Branches → Branches → ℕ → ℕ → List PlaceStep → ℕ → Walked Entries
  view_branches image all no_fields at k place mark = read empty_record mark
  view_branches image all (branch field part rest) at k place mark =
      then_walk (view_shaped image all field field.shape at (place ++ At k ∷ [])
      (λ offset place' after. view_part image part field.size offset place' after) mark)
      (λ value after. then_walk (view_branches image all rest at (suc k) place after)
      (λ others end. read (entry field.name value others) end))

  -- the number, text or record at `at`
  pub view_part : Image → Part → ℕ → ℕ → List PlaceStep → ℕ → Walked Datum
  view_part image (number_part kind) size at place mark =
      read (num (number image.order kind (bytes_at at size image.bytes))) mark
  view_part image text_part size at place mark = view_string image place mark (pointer_at image at)
  view_part image (tree_part nested) size at place mark = view_tree image nested at place mark

-- without the mark
abbrev pub viewed : Walked Datum → Result Datum Broken
viewed (read value mark) = Ok value
viewed (broken fault) = Err fault

abbrev pub image_of : Layout → List ℕ → Image
image_of layout bytes = record { order = layout.order; pointer = layout.pointer; bytes = bytes }

-- the value that the bytes have in the format, or their first fault
abbrev pub view : Layout → List ℕ → Result Datum Broken
view layout bytes =
    let root = root_of layout in
    viewed (unless (nat_lt (length bytes) (length_of root)) ShortRecord
    (λ _. view_tree (image_of layout bytes) root 0 [] (length_of root)))
