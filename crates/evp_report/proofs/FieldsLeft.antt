-- What is left of a record's text, behind some of its fields.
use Rattle.std.proofs.Common.{◌≡◌, ℕ, zero, suc, ◌+◌, List, ◌++◌, Option, Some, None, codes}
use Rattle.std.proofs.Common.{length, get_or, ◌<◌, refl, sym, ap, ◌∙◌, append_assoc, add-one}
use Rattle.std.specs.Prelude.{slice_get}
use Rattle.std.specs.Option.{option_and_then}
use Rattle.std.proofs.lemmas.Option.{slice_get_read}
use Rattle.evp_format.specs.declared.field.Field.{Field}
use Rattle.evp_format.specs.declared.record_type.RecordType.{RecordType}
use Rattle.evp_format.specs.Class.{field_at, fields_in, type_fields}
use Rattle.evp_format.specs.Layout.{Layout}
use Rattle.evp_format.specs.Datum.{Datum, rec, Entries, empty_record, entry}
use Rattle.evp_format.specs.Datum.{entry_at}
use Rattle.evp_format.specs.ValueText.{value_text, entries_text, more_entries_text}
use Rattle.evp_record.proofs.Entries.{name_at, entries_in, entries_behind, entries_behind-all}
use Rattle.evp_record.proofs.Entries.{entries_count, entry_found}
use Rattle.evp_record.specs.Parts.{field_value}
use Rattle.evp_report.specs.FieldText.{comma}

-- the text of the fields from number k on
abbrev pub fields_left : ℕ → Entries → List ℕ
fields_left zero entries = entries_text entries
fields_left (suc k) entries = more_entries_text (entries_behind (suc k) entries)

-- a field as it stands among others
abbrev pub named_text : ℕ → List ℕ → Datum → List ℕ
named_text k name value = comma k ++ name ++ codes "=" ++ value_text value

behind-step : (entries : Entries) (k : ℕ) (name : List ℕ) (value : Datum)
    → name_at entries k ≡ Some name
    → entry_at entries k ≡ Some value → entries_behind k entries
    ≡ entry name value (entries_behind (suc k) entries)
behind-step empty_record k name value named found = cc
behind-step (entry first datum rest) zero name value named found =
    let same : first ≡ name = cc in
    let held : datum ≡ value = cc in
    ap (λ (n : List ℕ). entry n datum rest) same ∙ ap (λ (d : Datum). entry name d rest) held
behind-step (entry first datum rest) (suc k) name value named found = behind-step rest k name value
    named found

first_of : (entries : Entries) (name : List ℕ) (value : Datum)
    → entries ≡ entry name value (entries_behind 1 entries)
    → named_text 0 name value ++ more_entries_text (entries_behind 1 entries) ≡ entries_text entries
first_of entries name value is = sym (ap entries_text is)

next_of : (entries : Entries) (k : ℕ) (name : List ℕ) (value : Datum)
    → entries_behind (suc k) entries ≡ entry name value (entries_behind (suc (suc k)) entries)
    → named_text (suc k) name value ++ more_entries_text (entries_behind (suc (suc k)) entries)
    ≡ more_entries_text (entries_behind (suc k) entries)
next_of entries k name value is = sym (ap more_entries_text is)

from_entries : (entries : Entries) (k : ℕ) (name : List ℕ) (value : Datum)
    → name_at entries k ≡ Some name
    → entry_at entries k ≡ Some value → named_text k name value ++ fields_left (suc k) entries
    ≡ fields_left k entries
from_entries entries zero name value named found =
    first_of entries name value (behind-step entries zero name value named found)
from_entries entries (suc k) name value named found =
    next_of entries k name value (behind-step entries (suc k) name value named found)

-- a field and those behind it
pub fields_from : (whole : Datum) (k : ℕ) (name : List ℕ) (value : Datum)
    → name_at (entries_in whole) k ≡ Some name
    → field_value whole k ≡ Some value
    → named_text k name value ++ (fields_left (k + 1) (entries_in whole) ++ codes "}")
    ≡ fields_left k (entries_in whole) ++ codes "}"
fields_from whole k name value named found =
    let entries = entries_in whole in
    ap (λ i. named_text k name value ++ (fields_left i entries ++ codes "}")) (add-one k)
    ∙ sym (append_assoc (named_text k name value) (fields_left (suc k) entries) (codes "}"))
    ∙ ap (λ l. l ++ codes "}") (from_entries entries k name value named
    (entry_found whole k value found))

-- behind the last field nothing is left
pub fields_ended : (entries : Entries) (k : ℕ) → entries_count entries ≡ k
    → fields_left k entries ++ codes "}" ≡ codes "}"
fields_ended entries zero count = ap (λ e. entries_text e ++ codes "}")
    (entries_behind-all entries zero count)
fields_ended entries (suc k) count = ap (λ e. more_entries_text e ++ codes "}")
    (entries_behind-all entries (suc k) count)

-- a record's text, with its braces
pub record_text : (whole : Datum) → whole ≡ rec (entries_in whole)
    → codes "{" ++ (fields_left 0 (entries_in whole) ++ codes "}") ≡ value_text whole
record_text whole is = sym (append_assoc (codes "{") (entries_text (entries_in whole)) (codes "}"))
    ∙ sym (ap value_text is)

in_type : (found : Option RecordType) (k : ℕ)
    → option_and_then (λ (type : RecordType). slice_get type.fields k) found
    ≡ slice_get (fields_in found) k
in_type None k = refl
in_type (Some type) k = refl

-- the field that was read among those of a type
pub field_read : (layout : Layout) (n k : ℕ) (fields : List Field) (field : Field)
    → fields ≡ type_fields layout n
    → k < length fields → field ≡ get_or fields k field → field_at layout n k ≡ Some field
field_read layout n k fields field same below is =
    in_type (slice_get layout.types n) k ∙ ap (λ (l : List Field). slice_get l k) (sym same)
    ∙ slice_get_read fields (length fields) k field refl below is
