-- The entries of a record and the elements of a list, in two parts: those in front of a place, and those from there on.
use Rattle.std.proofs.Common.{◌≡◌, ℕ, zero, suc, ◌+◌, List, [], ◌∷◌, ◌++◌, map, Option, Some, None, refl, sym, ap, ◌∙◌, add-one}
use Rattle.std.proofs.lemmas.List.{map-append}
use Rattle.evp_format.specs.Datum.{Datum, num, null, text, list, rec, Elements, empty_list, element, Entries, empty_record, entry, entry_at}
use Rattle.evp_format.specs.Datum.{count_of}
use Rattle.evp_format.specs.ValueView.{datum_of, elements_from, entries_from, elements_of_values, entries_of_pairs}
use Rattle.evp_format.specs.declared.value.Value.{Value}
use Rattle.evp_record.specs.Parts.{field_value, nth_element, element_value, list_length}

abbrev pub name_at : Entries → ℕ → Option (List ℕ)
name_at empty_record k = None
name_at (entry name datum rest) zero = Some name
name_at (entry name datum rest) (suc k) = name_at rest k

abbrev pub entries_in : Datum → Entries
entries_in (num z) = empty_record
entries_in null = empty_record
entries_in (text bytes) = empty_record
entries_in (list elements) = empty_record
entries_in (rec entries) = entries

abbrev pub entries_count : Entries → ℕ
entries_count empty_record = zero
entries_count (entry name datum rest) = suc (entries_count rest)

-- the entries from number k on
abbrev pub entries_behind : ℕ → Entries → Entries
entries_behind zero entries = entries
entries_behind (suc k) empty_record = empty_record
entries_behind (suc k) (entry name datum rest) = entries_behind k rest

abbrev pub joined : Entries → Entries → Entries
joined empty_record others = others
joined (entry name datum rest) others = entry name datum (joined rest others)

pub joined-none : (entries : Entries) → joined entries empty_record ≡ entries
joined-none empty_record = refl
joined-none (entry name datum rest) = ap (λ (e : Entries). entry name datum e) (joined-none rest)

entries_behind-step : (entries : Entries) (k : ℕ) (name : List ℕ) (value : Datum) → name_at entries k ≡ Some name
    → entry_at entries k ≡ Some value
    → entries_behind k entries ≡ entry name value (entries_behind (suc k) entries)
entries_behind-step empty_record k name value named found = cc
entries_behind-step (entry first datum rest) zero name value named found =
    let same : first ≡ name = cc in
    let held : datum ≡ value = cc in
    ap (λ (n : List ℕ). entry n datum rest) same ∙ ap (λ (d : Datum). entry name d rest) held
entries_behind-step (entry first datum rest) (suc k) name value named found = entries_behind-step rest k name value named found

pub entries_behind-all : (entries : Entries) (k : ℕ) → entries_count entries ≡ k → entries_behind k entries ≡ empty_record
entries_behind-all empty_record zero count = refl
entries_behind-all empty_record (suc k) count = refl
entries_behind-all (entry name datum rest) zero count = cc
entries_behind-all (entry name datum rest) (suc k) count = entries_behind-all rest k (cc)

joined-push : (pairs : List (List ℕ × Datum)) (name : List ℕ) (value : Datum) (others : Entries)
    → joined (entries_from (pairs ++ (name, value) ∷ [])) others ≡ joined (entries_from pairs) (entry name value others)
joined-push [] name value others = refl
joined-push (pair ∷ pairs) name value others = ap (λ (e : Entries). entry pair.0 pair.1 e) (joined-push pairs name value others)

pub entry_found : (value : Datum) (k : ℕ) (found : Datum) → field_value value k ≡ Some found → entry_at (entries_in value) k ≡ Some found
entry_found (num z) k found is = cc
entry_found null k found is = cc
entry_found (text bytes) k found is = cc
entry_found (list elements) k found is = cc
entry_found (rec entries) k found is = is

-- one more pair takes the next entry from the rest
pub joined-pair : (pairs : List (List ℕ × Value)) (name : List ℕ) (value : Value) (whole : Datum) (k : ℕ)
    → name_at (entries_in whole) k ≡ Some name → field_value whole k ≡ Some (datum_of value)
    → joined (entries_of_pairs pairs) (entries_behind k (entries_in whole)) ≡ entries_in whole
    → joined (entries_of_pairs (pairs ++ (name, value) ∷ [])) (entries_behind (k + 1) (entries_in whole)) ≡ entries_in whole
joined-pair pairs name value whole k named found so_far =
    let f : (List ℕ × Value) → (List ℕ × Datum) = λ pair. (pair.0, datum_of pair.1) in
    let step = entries_behind-step (entries_in whole) k name (datum_of value) named (entry_found whole k (datum_of value) found) in
    ap (λ (i : ℕ). joined (entries_of_pairs (pairs ++ (name, value) ∷ [])) (entries_behind i (entries_in whole))) (add-one k)
    ∙ ap (λ (ps : List (List ℕ × Datum)). joined (entries_from ps) (entries_behind (suc k) (entries_in whole)))
    (map-append f pairs ((name, value) ∷ []))
    ∙ joined-push (map f pairs) name (datum_of value) (entries_behind (suc k) (entries_in whole))
    ∙ ap (λ (e : Entries). joined (entries_of_pairs pairs) e) (sym step) ∙ so_far

-- ---- elements

abbrev pub elements_in : Option Datum → Elements
elements_in None = empty_list
elements_in (Some (num z)) = empty_list
elements_in (Some null) = empty_list
elements_in (Some (text bytes)) = empty_list
elements_in (Some (list elements)) = elements
elements_in (Some (rec entries)) = empty_list

abbrev pub elements_behind : ℕ → Elements → Elements
elements_behind zero elements = elements
elements_behind (suc k) empty_list = empty_list
elements_behind (suc k) (element datum rest) = elements_behind k rest

abbrev pub linked : Elements → Elements → Elements
linked empty_list others = others
linked (element datum rest) others = element datum (linked rest others)

pub linked-none : (elements : Elements) → linked elements empty_list ≡ elements
linked-none empty_list = refl
linked-none (element datum rest) = ap (λ (e : Elements). element datum e) (linked-none rest)

elements_behind-step : (elements : Elements) (k : ℕ) (value : Datum) → nth_element elements k ≡ Some value
    → elements_behind k elements ≡ element value (elements_behind (suc k) elements)
elements_behind-step empty_list k value found = cc
elements_behind-step (element datum rest) zero value found = let held : datum ≡ value = cc in ap (λ (d : Datum). element d rest) held
elements_behind-step (element datum rest) (suc k) value found = elements_behind-step rest k value found

elements_behind-all : (elements : Elements) (k : ℕ) → count_of elements ≡ k → elements_behind k elements ≡ empty_list
elements_behind-all empty_list zero count = refl
elements_behind-all empty_list (suc k) count = refl
elements_behind-all (element datum rest) zero count = cc
elements_behind-all (element datum rest) (suc k) count = elements_behind-all rest k (cc)

linked-push : (values : List Datum) (value : Datum) (others : Elements)
    → linked (elements_from (values ++ value ∷ [])) others ≡ linked (elements_from values) (element value others)
linked-push [] value others = refl
linked-push (first ∷ values) value others = ap (λ (e : Elements). element first e) (linked-push values value others)

element_found : (part : Option Datum) (k : ℕ) (found : Datum) → element_value part k ≡ Some found
    → nth_element (elements_in part) k ≡ Some found
element_found None k found is = cc
element_found (Some (num z)) k found is = cc
element_found (Some null) k found is = cc
element_found (Some (text bytes)) k found is = cc
element_found (Some (list elements)) k found is = is
element_found (Some (rec entries)) k found is = cc

-- one more value takes the next element from the rest
pub linked-value : (values : List Value) (value : Value) (part : Option Datum) (k : ℕ) → element_value part k ≡ Some (datum_of value)
    → linked (elements_of_values values) (elements_behind k (elements_in part)) ≡ elements_in part
    → linked (elements_of_values (values ++ value ∷ [])) (elements_behind (k + 1) (elements_in part)) ≡ elements_in part
linked-value values value part k found so_far =
    let step = elements_behind-step (elements_in part) k (datum_of value) (element_found part k (datum_of value) found) in
    ap (λ (i : ℕ). linked (elements_of_values (values ++ value ∷ [])) (elements_behind i (elements_in part))) (add-one k)
    ∙ ap (λ (ds : List Datum). linked (elements_from ds) (elements_behind (suc k) (elements_in part)))
    (map-append datum_of values (value ∷ []))
    ∙ linked-push (map datum_of values) (datum_of value) (elements_behind (suc k) (elements_in part))
    ∙ ap (λ (e : Elements). linked (elements_of_values values) e) (sym step) ∙ so_far

-- at the list's length the values are all its elements
pub linked-all : (values : List Value) (part : Option Datum) (n : ℕ) → list_length part ≡ Some n
    → linked (elements_of_values values) (elements_behind n (elements_in part)) ≡ elements_in part
    → part ≡ Some (list (elements_of_values values))
linked-all values None n long so_far = cc
linked-all values (Some (num z)) n long so_far = cc
linked-all values (Some null) n long so_far = cc
linked-all values (Some (text bytes)) n long so_far = cc
linked-all values (Some (list elements)) n long so_far =
    let count : count_of elements ≡ n = cc in
    let none = elements_behind-all elements n count in
    let same : elements_of_values values ≡ elements =
    sym (linked-none (elements_of_values values)) ∙ ap (λ (e : Elements). linked (elements_of_values values) e) (sym none) ∙ so_far in
    ap (λ (e : Elements). Some (list e)) (sym same)
linked-all values (Some (rec entries)) n long so_far = cc
