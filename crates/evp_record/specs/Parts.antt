-- The parts of a value.
use Rattle.std.specs.Prelude.{ℕ, zero, suc, ◌<◌, List, Option, Some, None}
use Rattle.evp_format.specs.Datum.{Datum, num, null, text, list, rec, Elements, empty_list, element}
use Rattle.evp_format.specs.Datum.{entry_at, count_of}

-- the value of the field of this number
abbrev pub field_value : Datum → ℕ → Option Datum
field_value (num z) k = None
field_value null k = None
field_value (text bytes) k = None
field_value (list elements) k = None
field_value (rec entries) k = entry_at entries k

-- the element of this index
abbrev pub nth_element : Elements → ℕ → Option Datum
nth_element empty_list k = None
nth_element (element datum rest) zero = Some datum
nth_element (element datum rest) (suc k) = nth_element rest k

abbrev pub element_value : Option Datum → ℕ → Option Datum
element_value None k = None
element_value (Some (num z)) k = None
element_value (Some null) k = None
element_value (Some (text bytes)) k = None
element_value (Some (list elements)) k = nth_element elements k
element_value (Some (rec entries)) k = None

-- how many elements a list has
abbrev pub list_length : Option Datum → Option ℕ
list_length None = None
list_length (Some (num z)) = None
list_length (Some null) = None
list_length (Some (text bytes)) = None
list_length (Some (list elements)) = Some (count_of elements)
list_length (Some (rec entries)) = None

-- a text that is there, or null
abbrev pub text_value : Option (List ℕ) → Datum
text_value None = null
text_value (Some bytes) = text bytes

-- an index of a list of that length
abbrev pub IsBelow : ℕ → Option ℕ → Type 0
IsBelow k None = ⊥
IsBelow k (Some n) = k < n
