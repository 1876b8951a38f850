-- The values of a type: a record with the type's fields as listed, each number in its range, each
-- list of its length.
use Rattle.std.specs.Prelude.{◌≡◌, ◌<◌, ℕ, ℤ, pos, All, Option, Some, None, ⊤}
use Rattle.evp_base.specs.Numbers.{InRange}
use Rattle.evp_format.specs.declared.field.Shape.{Shape}
use Rattle.evp_format.specs.declared.field.Shape.TheVariants.{One, Fixed, Counted}
use Rattle.evp_format.specs.Datum.{Datum, num, null, text, list, rec, Elements, empty_list, element}
use Rattle.evp_format.specs.Datum.{Entries, empty_record, entry, entry_at, count_of}
use Rattle.evp_format.specs.Layout.{Layout}
use Rattle.evp_format.specs.Text.{HasNoZero}
use Rattle.evp_format.specs.Tree.{Tree, tree, Branches, no_fields, branch, Part, number_part}
use Rattle.evp_format.specs.Tree.{text_part, tree_part, root_of}

-- each element is of a type
abbrev pub EachElement : (Datum → Type 0) → Elements → Type 0
EachElement P empty_list = ⊤
EachElement P (element datum rest) = P datum × EachElement P rest

-- a list of n elements, each of a type
abbrev pub IsListOf : (Datum → Type 0) → Option ℤ → Datum → Type 0
IsListOf P n (num z) = ⊥
IsListOf P n null = ⊥
IsListOf P n (text bytes) = ⊥
IsListOf P n (list values) = (n ≡ Some (pos (count_of values))) × EachElement P values
IsListOf P n (rec members) = ⊥

-- the number of the field of this number
abbrev pub count_in : Option Datum → Option ℤ
count_in None = None
count_in (Some (num z)) = Some z
count_in (Some null) = None
count_in (Some (text bytes)) = None
count_in (Some (list values)) = None
count_in (Some (rec members)) = None

-- a field of a record whose fields are `all`
abbrev pub IsShaped : Entries → Shape → (Datum → Type 0) → Datum → Type 0
IsShaped all One P datum = P datum
IsShaped all (Fixed n) P datum = IsListOf P (Some (pos n)) datum
IsShaped all (Counted c) P datum = IsListOf P (count_in (entry_at all c)) datum

-- a text that is there or isn't: bytes of which none is zero
abbrev pub IsText : Datum → Type 0
IsText (num z) = ⊥
IsText null = ⊤
IsText (text bytes) = HasNoZero bytes × All (λ byte. byte < 256) bytes
IsText (list values) = ⊥
IsText (rec members) = ⊥

abbrev pub IsNumberOf : (ℤ → Type 0) → Datum → Type 0
IsNumberOf P (num z) = P z
IsNumberOf P null = ⊥
IsNumberOf P (text bytes) = ⊥
IsNumberOf P (list values) = ⊥
IsNumberOf P (rec members) = ⊥

abbrev pub IsRecordOf : (Entries → Type 0) → Datum → Type 0
IsRecordOf P (num z) = ⊥
IsRecordOf P null = ⊥
IsRecordOf P (text bytes) = ⊥
IsRecordOf P (list values) = ⊥
IsRecordOf P (rec members) = P members

abbrev mutual
  -- the fields and values of a record of this type
  pub IsOfTree : Tree → Entries → Type 0
  IsOfTree (tree length branches) members = IsOfBranches members branches members

  -- these fields of a record whose fields are `all`
  pub IsOfBranches : Entries → Branches → Entries → Type 0
  IsOfBranches all no_fields empty_record = ⊤
  IsOfBranches all no_fields (entry name datum rest) = ⊥
  IsOfBranches all (branch field part others) empty_record = ⊥
  IsOfBranches all (branch field part others) (entry name datum rest) =
      (name ≡ field.name) × IsShaped all field.shape (λ value. IsOfPart part field.size value) datum
      × IsOfBranches all others rest

  -- a part of this size
  pub IsOfPart : Part → ℕ → Datum → Type 0
  IsOfPart (number_part kind) size datum = IsNumberOf (InRange kind size) datum
  IsOfPart text_part size datum = IsText datum
  IsOfPart (tree_part nested) size datum = IsRecordOf (λ members. IsOfTree nested members) datum

-- the value is of the format: of its last type
abbrev pub IsOf : Layout → Datum → Type 0
IsOf layout value = IsOfPart (tree_part (root_of layout)) 0 value
