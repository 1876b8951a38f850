-- What a `Value` is: a number, nothing, a text, a list, or a record as names and values.
use Rattle.std.specs.Prelude.{ℕ, zero, suc, ℤ, pos, List, Option, Some, None, if◌then◌else◌}
use Rattle.evp_format.specs.Bytes.{bytes_equal}

mutual
  pub data Datum : Type 0 where
    num : ℤ → Datum
    null : Datum
    text : List ℕ → Datum
    list : Elements → Datum
    rec : Entries → Datum

  -- the elements of a list, in order
  pub data Elements : Type 0 where
    empty_list : Elements
    element : Datum → Elements → Elements

  -- the fields of a record, in order: a name, a value, and the others
  pub data Entries : Type 0 where
    empty_record : Entries
    entry : List ℕ → Datum → Entries → Entries

-- how many elements there are
abbrev pub count_of : Elements → ℕ
count_of empty_list = zero
count_of (element datum rest) = suc (count_of rest)

-- this value, n times
abbrev pub copies : ℕ → Datum → Elements
copies zero datum = empty_list
copies (suc n) datum = element datum (copies n datum)

-- the value of this name: the first, where there is one
abbrev pub named : List ℕ → Entries → Option Datum
named name empty_record = None
named name (entry other datum rest) = if bytes_equal name other then Some datum else named name rest

-- the value at this place of the list of fields
abbrev pub entry_at : Entries → ℕ → Option Datum
entry_at empty_record k = None
entry_at (entry name datum rest) zero = Some datum
entry_at (entry name datum rest) (suc k) = entry_at rest k

-- the number of a value that is one; 0 stands for any other
abbrev pub as_number : Datum → ℤ
as_number (num n) = n
as_number null = pos 0
as_number (text bytes) = pos 0
as_number (list elements) = pos 0
as_number (rec entries) = pos 0

-- the elements of a list that is there
abbrev pub elements_of : Option Datum → Option Elements
elements_of (Some (list elements)) = Some elements
elements_of (Some (num n)) = None
elements_of (Some null) = None
elements_of (Some (text bytes)) = None
elements_of (Some (rec entries)) = None
elements_of None = None

-- the fields of a record that is there; none of anything else
abbrev pub entries_of : Option Datum → Entries
entries_of (Some (rec entries)) = entries
entries_of (Some (num n)) = empty_record
entries_of (Some null) = empty_record
entries_of (Some (text bytes)) = empty_record
entries_of (Some (list elements)) = empty_record
entries_of None = empty_record
