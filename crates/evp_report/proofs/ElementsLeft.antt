-- What is left of a list's text, behind some of its elements.
use Rattle.std.proofs.Common.{◌≡◌, ℕ, zero, suc, ◌+◌, List, ◌++◌, Option, Some, None, codes}
use Rattle.std.proofs.Common.{refl, sym, ap, ◌∙◌, append_assoc, add-one, arith, ◌<◌}
use Rattle.evp_format.specs.Datum.{Datum, num, null, text, list, rec, Elements, empty_list, element}
use Rattle.evp_format.specs.Datum.{count_of}
use Rattle.evp_format.specs.ValueText.{value_text, elements_text, more_elements_text}
use Rattle.evp_record.proofs.Entries.{elements_in, elements_behind}
use Rattle.evp_record.specs.Parts.{element_value, list_length, nth_element}
use Rattle.evp_report.specs.FieldText.{comma, text_there}

-- the text of the elements from number k on
abbrev pub elements_left : ℕ → Elements → List ℕ
elements_left zero elements = elements_text elements
elements_left (suc k) elements = more_elements_text (elements_behind (suc k) elements)

behind-step : (elements : Elements) (k : ℕ) (value : Datum) → nth_element elements k ≡ Some value
    → elements_behind k elements ≡ element value (elements_behind (suc k) elements)
behind-step empty_list k value found = cc
behind-step (element datum rest) zero value found =
    let held : datum ≡ value = cc in ap (λ (d : Datum). element d rest) held
behind-step (element datum rest) (suc k) value found = behind-step rest k value found

behind-all : (elements : Elements) (k : ℕ) → count_of elements ≡ k
    → elements_behind k elements ≡ empty_list
behind-all empty_list zero count = refl
behind-all empty_list (suc k) count = refl
behind-all (element datum rest) zero count = cc
behind-all (element datum rest) (suc k) count = behind-all rest k (cc)

first_of : (elements : Elements) (value : Datum)
    → elements ≡ element value (elements_behind 1 elements)
    → (comma 0 ++ value_text value) ++ more_elements_text (elements_behind 1 elements)
    ≡ elements_text elements
first_of elements value is = sym (ap elements_text is)

next_of : (elements : Elements) (k : ℕ) (value : Datum)
    → elements_behind (suc k) elements ≡ element value (elements_behind (suc (suc k)) elements)
    → (comma (suc k) ++ value_text value) ++ more_elements_text
    (elements_behind (suc (suc k)) elements)
    ≡ more_elements_text (elements_behind (suc k) elements)
next_of elements k value is = sym (ap more_elements_text is)

from_elements : (elements : Elements) (k : ℕ) (value : Datum) → nth_element elements k ≡ Some value
    → (comma k ++ value_text value) ++ elements_left (suc k) elements ≡ elements_left k elements
from_elements elements zero value found = first_of elements value
    (behind-step elements zero value found)
from_elements elements (suc k) value found = next_of elements k value
    (behind-step elements (suc k) value found)

element_found : (part : Option Datum) (k : ℕ) (found : Datum) → element_value part k ≡ Some found
    → nth_element (elements_in part) k ≡ Some found
element_found None k found is = cc
element_found (Some (num z)) k found is = cc
element_found (Some null) k found is = cc
element_found (Some (text bytes)) k found is = cc
element_found (Some (list elements)) k found is = is
element_found (Some (rec entries)) k found is = cc

nth_there : (elements : Elements) (k : ℕ) → k < count_of elements → (value : Datum)
    × (nth_element elements k ≡ Some value)
nth_there empty_list k below = absurd (omega (arith, below))
nth_there (element datum rest) zero below = (datum, refl)
nth_there (element datum rest) (suc k) below = nth_there rest k (omega (arith, below))

-- below the length there is an element
pub element_there : (part : Option Datum) (n k : ℕ) → list_length part ≡ Some n → k < n
    → (value : Datum) × (element_value part k ≡ Some value)
element_there None n k long below = cc
element_there (Some (num z)) n k long below = cc
element_there (Some null) n k long below = cc
element_there (Some (text bytes)) n k long below = cc
element_there (Some (list elements)) n k long below =
    let count : count_of elements ≡ n = cc in nth_there elements k (omega (arith, below, count))
element_there (Some (rec entries)) n k long below = cc

-- an element and those behind it
pub elements_from : (part : Option Datum) (k : ℕ) (value : Datum)
    → element_value part k ≡ Some value
    → comma k ++ (value_text value ++ (elements_left (k + 1) (elements_in part) ++ codes "]"))
    ≡ elements_left k (elements_in part) ++ codes "]"
elements_from part k value found =
    let elements = elements_in part in
    sym (append_assoc (comma k) (value_text value) (elements_left (k + 1) elements ++ codes "]"))
    ∙ ap (λ i. (comma k ++ value_text value) ++ (elements_left i elements ++ codes "]")) (add-one k)
    ∙ sym (append_assoc (comma k ++ value_text value) (elements_left (suc k) elements) (codes "]"))
    ∙ ap (λ l. l ++ codes "]") (from_elements elements k value (element_found part k value found))

-- behind the last element nothing is left
elements_none : (elements : Elements) (k : ℕ) → count_of elements ≡ k
    → elements_left k elements ++ codes "]" ≡ codes "]"
elements_none elements zero count = ap (λ e. elements_text e ++ codes "]")
    (behind-all elements zero count)
elements_none elements (suc k) count = ap (λ e. more_elements_text e ++ codes "]")
    (behind-all elements (suc k) count)

pub elements_ended : (part : Option Datum) (k : ℕ) → list_length part ≡ Some k
    → elements_left k (elements_in part) ++ codes "]" ≡ codes "]"
elements_ended None k long = cc
elements_ended (Some (num z)) k long = cc
elements_ended (Some null) k long = cc
elements_ended (Some (text bytes)) k long = cc
elements_ended (Some (list elements)) k long = let count : count_of elements
    ≡ k = cc in elements_none elements k count
elements_ended (Some (rec entries)) k long = cc

-- a list's text, with its brackets
pub list_text : (part : Option Datum) (k : ℕ) → list_length part ≡ Some k
    → codes "[" ++ (elements_left 0 (elements_in part) ++ codes "]") ≡ text_there part
list_text None k long = cc
list_text (Some (num z)) k long = cc
list_text (Some null) k long = cc
list_text (Some (text bytes)) k long = cc
list_text (Some (list elements)) k long = sym
    (append_assoc (codes "[") (elements_text elements) (codes "]"))
list_text (Some (rec entries)) k long = cc
