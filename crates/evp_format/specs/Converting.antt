-- Conversion by name (Eisenhauer, Bustamante, Schwan, TPDS 2002): each receiver field takes the
-- sender's value of that name, or its default.
-- It speaks of values and the receiver's tree, and knows no offsets. A size is kept, at first the
-- receiver's length, which each block raises.
use Rattle.std.specs.Prelude.{ℕ, zero, suc, ◌+◌, ◌*◌, ℤ, pos, negsuc, Bool, true, false, not}
use Rattle.std.specs.Prelude.{nat_lt, nat_eq, List, [], ◌∷◌, ◌++◌, length, Option, Some, None}
use Rattle.evp_base.specs.Numbers.{is_in_range}
use Rattle.evp_format.specs.declared.field.Field.{Field}
use Rattle.evp_format.specs.declared.field.Shape.{Shape}
use Rattle.evp_format.specs.declared.field.Shape.TheVariants.{One, Fixed, Counted}
use Rattle.evp_format.specs.declared.place.PlaceStep.{PlaceStep}
use Rattle.evp_format.specs.declared.place.PlaceStep.TheVariants.{At, Nth}
use Rattle.evp_format.specs.Bytes.{next_block}
use Rattle.evp_format.specs.Datum.{Datum, num, null, text, list, rec, Elements, empty_list, element}
use Rattle.evp_format.specs.Datum.{Entries, empty_record, entry, count_of, copies, named}
pub use Rattle.evp_format.specs.Datum.{as_number, elements_of, entries_of}
use Rattle.evp_format.specs.Layout.{Layout}
use Rattle.evp_format.specs.Tree.{Tree, tree, Branches, no_fields, branch, Part, number_part}
use Rattle.evp_format.specs.Tree.{text_part, tree_part, length_of, root_of}
use Rattle.evp_format.specs.Zero.{zero_part}

-- what a conversion answers: a value with the packed size so far, or the first fault at its place
-- in the receiver's format
pub data Made (A : Type 0) : Type 0 where
  made : A → ℕ → Made A
  unfit : List PlaceStep → Made A
  large : List PlaceStep → Made A

-- goes on behind what was made
abbrev pub then_make : {A B : Type 0} → Made A → (A → ℕ → Made B) → Made B
then_make (made a size) next = next a size
then_make (unfit place) next = unfit place
then_make (large place) next = large place

-- `unfit` at this place where the test holds, else goes on
abbrev pub unless_unfit : {A : Type 0} → Bool → List PlaceStep → (Unit {0} → Made A) → Made A
unless_unfit true place next = unfit place
unless_unfit false place next = next tt

-- `large` at this place where the test holds, else goes on
abbrev pub unless_large : {A : Type 0} → Bool → List PlaceStep → (Unit {0} → Made A) → Made A
unless_large true place next = large place
unless_large false place next = next tt

-- a block of k bytes: the size becomes the next multiple of 8, plus k, which the limit must allow
abbrev pub take_block : {A : Type 0} → ℕ → List PlaceStep → ℕ → ℕ → (ℕ → Made A) → Made A
take_block limit place k size next =
    unless_large (nat_lt limit (next_block size + k)) place (λ _. next (next_block size + k))

-- the partner's number of that name, or the stated default
abbrev pub number_or_default : Option Datum → ℤ → ℤ
number_or_default (Some (num n)) fallback = n
number_or_default (Some null) fallback = fallback
number_or_default (Some (text bytes)) fallback = fallback
number_or_default (Some (list elements)) fallback = fallback
number_or_default (Some (rec entries)) fallback = fallback
number_or_default None fallback = fallback

-- the receiver's number of a field, where it is a single number field; 0 stands for any other
abbrev pub receiver_number : Field → Shape → Part → Entries → ℤ
receiver_number field One (number_part kind) partner =
    number_or_default (named field.name partner) field.fallback
receiver_number field One text_part partner = pos 0
receiver_number field One (tree_part nested) partner = pos 0
receiver_number field (Fixed n) part partner = pos 0
receiver_number field (Counted c) part partner = pos 0

-- it is no single number field, or the number is in its range
abbrev pub number_fits : Field → Shape → Part → ℤ → Bool
number_fits field One (number_part kind) n = is_in_range kind field.size n
number_fits field One text_part n = true
number_fits field One (tree_part nested) n = true
number_fits field (Fixed count) part n = true
number_fits field (Counted c) part n = true

-- the single number fields as listed, from number k on; each has its place in the list, or the
-- first that doesn't fit
abbrev pub numbers_from : List PlaceStep → ℕ → Branches → Entries → Made (List ℤ)
numbers_from place k no_fields partner = made [] 0
numbers_from place k (branch field part rest) partner =
    let n = receiver_number field field.shape part partner in
    unless_unfit (not (number_fits field field.shape part n)) (place ++ At k ∷ [])
    (λ _. then_make (numbers_from place (suc k) rest partner)
    (λ others none. made (n ∷ others) none))

-- the number of the field of this number
abbrev pub number_at : List ℤ → ℕ → ℤ
number_at [] k = pos 0
number_at (n ∷ numbers) zero = n
number_at (n ∷ numbers) (suc k) = number_at numbers k

-- a text takes a block of its bytes and the zero behind them
abbrev pub make_text : ℕ → List PlaceStep → Option Datum → ℕ → Made Datum
make_text limit place None size = made null size
make_text limit place (Some (text bytes)) size =
    take_block limit place (length bytes + 1) size (λ after. made (text bytes) after)
make_text limit place (Some null) size = made null size
make_text limit place (Some (num n)) size = made null size
make_text limit place (Some (list elements)) size = made null size
make_text limit place (Some (rec entries)) size = made null size

-- an element that is a number has only to be in its range
abbrev pub make_number : Bool → List PlaceStep → ℤ → ℕ → Made Datum
make_number fits place n size = unless_unfit (not fits) place (λ _. made (num n) size)

-- elements k, k + 1 and so on, `one` making each at its index from the partner's
abbrev pub make_elements : (ℕ → Datum → ℕ → Made Datum) → Elements → ℕ → ℕ → Made Elements
make_elements one empty_list k size = made empty_list size
make_elements one (element partner partners) k size =
    then_make (one k partner size)
    (λ first after. then_make (make_elements one partners (suc k) after)
    (λ rest end. made (element first rest) end))

-- the elements of an array of n elements: the partner's, or zeros
abbrev pub make_or_zero : (ℕ → Datum → ℕ → Made Datum) → Datum → ℕ → Option Elements → ℕ
    → Made Datum
make_or_zero one zero_element n None size = made (list (copies n zero_element)) size
make_or_zero one zero_element n (Some partners) size =
    then_make (make_elements one partners 0 size) (λ elements after. made (list elements) after)

-- there is a partner, and it has not n elements
abbrev pub has_other_length : ℕ → Option Elements → Bool
has_other_length n None = false
has_other_length n (Some partners) = not (nat_eq (count_of partners) n)

-- the block of a list of n elements: none for an array inside the record, or for an empty list
abbrev pub list_block : Shape → ℕ → ℕ → List PlaceStep → ℕ → ℕ → (ℕ → Made Datum) → Made Datum
list_block One limit element_size place n size next = next size
list_block (Fixed count) limit element_size place n size next = next size
list_block (Counted c) limit element_size place zero size next = next size
list_block (Counted c) limit element_size place (suc n) size next =
    take_block limit place (suc n * element_size) size next

-- an array by its wanted length: first the length, then the block, then the elements
abbrev pub make_list : ℕ → Field → List PlaceStep → ℤ → Option Elements → Datum
    → (ℕ → Datum → ℕ → Made Datum) → ℕ → Made Datum
make_list limit field place (negsuc n) partners zero_element one size = unfit place
make_list limit field place (pos n) partners zero_element one size =
    unless_unfit (has_other_length n partners) place
    (λ _. list_block field.shape limit field.size place n size
    (λ after. make_or_zero one zero_element n partners after))

-- a field that is no array: its number stands ready; a text or a record is made from its partner
abbrev pub make_single : ℕ → Part → List PlaceStep → ℤ → Option Datum → (Datum → ℕ → Made Datum) → ℕ
    → Made Datum
make_single limit (number_part kind) place n partner one size = made (num n) size
make_single limit text_part place n partner one size = make_text limit place partner size
make_single limit (tree_part nested) place n partner one size = one (rec (entries_of partner)) size

-- a field, by its shape: the receiver's numbers are known; `one` makes a part at a place from a
-- partner
abbrev pub make_shaped : ℕ → Field → Shape → Part → List ℤ → ℕ → List PlaceStep → Option Datum
    → (List PlaceStep → Datum → ℕ → Made Datum) → ℕ → Made Datum
make_shaped limit field One part numbers k place partner one size =
    make_single limit part place (number_at numbers k) partner (one place) size
make_shaped limit field (Fixed n) part numbers k place partner one size =
    make_list limit field place (pos n) (elements_of partner) (zero_part part)
    (λ i. one (place ++ Nth i ∷ [])) size
make_shaped limit field (Counted c) part numbers k place partner one size =
    make_list limit field place (number_at numbers c) (elements_of partner) (zero_part part)
    (λ i. one (place ++ Nth i ∷ [])) size

abbrev mutual
  -- a receiver record, from a partner record: first its single number fields as listed, then the
  -- others as listed
  pub make_tree : ℕ → Tree → List PlaceStep → Entries → ℕ → Made Datum
  make_tree limit (tree length branches) place partner size =
      then_make (numbers_from place 0 branches partner)
      (λ numbers none. then_make (make_branches limit branches numbers 0 place partner size)
      (λ entries after. made (rec entries) after))

  -- the fields from number k on, where the numbers of all fields are known
  pub make_branches : ℕ → Branches → List ℤ → ℕ → List PlaceStep → Entries → ℕ → Made Entries
  make_branches limit no_fields numbers k place partner size = made empty_record size
  make_branches limit (branch field part rest) numbers k place partner size =
      then_make (make_shaped limit field field.shape part numbers k (place ++ At k ∷ [])
      (named field.name partner)
      (λ place' datum after. make_part limit part field.size place' datum after) size)
      (λ value after. then_make (make_branches limit rest numbers (suc k) place partner after)
      (λ others end. made (entry field.name value others) end))

  -- an element, or a single nested record, from its partner
  pub make_part : ℕ → Part → ℕ → List PlaceStep → Datum → ℕ → Made Datum
  make_part limit (number_part kind) element_size place partner size =
      make_number (is_in_range kind element_size (as_number partner)) place (as_number partner) size
  make_part limit text_part element_size place partner size =
      make_text limit place (Some partner) size
  make_part limit (tree_part nested) element_size place partner size =
      make_tree limit nested place (entries_of (Some partner)) size

-- the sender's value as a value of the receiver's format whose packed size is within the limit, or
-- the first fault
abbrev pub convert : Layout → Datum → ℕ → Made Datum
convert receiver value limit =
    let root = root_of receiver in
    unless_large (nat_lt limit (length_of root)) []
    (λ _. make_tree limit root [] (entries_of (Some value)) (length_of root))
