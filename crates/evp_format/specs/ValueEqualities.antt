-- That `==` tells which values are the same, and so is an equivalence.
use Rattle.std.specs.Prelude.{◌≡◌, ℕ, Bool, true, false, ◌&&◌, nat_eq, List, []}
use Rattle.std.specs.Bool.{Decides}
use Rattle.std.specs.Cmp.{IsEquivalence, decided, signed_Decides}
use Rattle.std.specs.Cmp.Lexicographic.{pointwise, bytes_decides}
use Rattle.std.specs.Ordering.{int_eq}
use Rattle.std.proofs.Common.{ap, refl, sym, ◌∙◌}
use Rattle.std.proofs.lemmas.Bool.{false≢true}
use Rattle.evp_format.specs.Datum.{Datum, num, null, text, list, rec, as_number}
use Rattle.evp_format.specs.Datum.{Elements, empty_list, element, Entries, empty_record, entry}
use Rattle.evp_format.specs.Equalities.{and-Decides, Decides-along}
use Rattle.evp_format.specs.ValueEquality.{datum_eq, elements_eq, entries_eq}
use Rattle.evp_format.specs.ValueEquality.{value_eq, items_eq, members_eq}
use Rattle.evp_format.specs.ValueView.{datum_of, items_of, members_of}

-- the parts of a value, where it has them
abbrev kind_of : Datum → ℕ
kind_of (num n) = 0
kind_of null = 1
kind_of (text bytes) = 2
kind_of (list elements) = 3
kind_of (rec entries) = 4

abbrev bytes_in : Datum → List ℕ
bytes_in (text bytes) = bytes
bytes_in datum = []

abbrev elements_in : Datum → Elements
elements_in (list elements) = elements
elements_in datum = empty_list

abbrev entries_in : Datum → Entries
entries_in (rec entries) = entries
entries_in datum = empty_record

-- the parts of the elements of a list
abbrev is_element : Elements → Bool
is_element empty_list = false
is_element (element datum rest) = true

abbrev first_element : Elements → Datum
first_element empty_list = null
first_element (element datum rest) = datum

abbrev other_elements : Elements → Elements
other_elements empty_list = empty_list
other_elements (element datum rest) = rest

same_elements : {datum other : Datum} {rest others : Elements}
    → (datum ≡ other) × (rest ≡ others) → element datum rest ≡ element other others
same_elements {other = other} {rest = rest} same =
    ap (λ (d : Datum). element d rest) same.0 ∙ ap (λ (es : Elements). element other es) same.1

-- the parts of the fields of a record
abbrev is_entry : Entries → Bool
is_entry empty_record = false
is_entry (entry name datum rest) = true

abbrev first_name : Entries → List ℕ
first_name empty_record = []
first_name (entry name datum rest) = name

abbrev first_value : Entries → Datum
first_value empty_record = null
first_value (entry name datum rest) = datum

abbrev other_entries : Entries → Entries
other_entries empty_record = empty_record
other_entries (entry name datum rest) = rest

same_entries : {name name' : List ℕ} {datum other : Datum} {rest others : Entries}
    → (name ≡ name') × ((datum ≡ other) × (rest ≡ others))
    → entry name datum rest ≡ entry name' other others
same_entries {name' = name'} {datum = datum} {other = other} {rest = rest} same =
    ap (λ (bytes : List ℕ). entry bytes datum rest) same.0
    ∙ ap (λ (d : Datum). entry name' d rest) same.1.0
    ∙ ap (λ (es : Entries). entry name' other es) same.1.1

mutual
  pub datum_eq-Decides : (datum other : Datum) → Decides (datum_eq datum other) (datum ≡ other)
  datum_eq-Decides (num n) (num m) =
      Decides-along (int_eq n m) (λ same. ap num same) (λ e. ap as_number e) (signed_Decides n m)
  datum_eq-Decides null null = (λ told. refl, λ e. refl)
  datum_eq-Decides (text bytes) (text others) =
      Decides-along (pointwise nat_eq bytes others) (λ same. ap text same) (λ e. ap bytes_in e)
      (bytes_decides bytes others)
  datum_eq-Decides (list elements) (list others) =
      Decides-along (elements_eq elements others) (λ same. ap list same)
      (λ e. ap elements_in e) (elements_eq-Decides elements others)
  datum_eq-Decides (rec entries) (rec others) =
      Decides-along (entries_eq entries others) (λ same. ap rec same)
      (λ e. ap entries_in e) (entries_eq-Decides entries others)
  datum_eq-Decides datum other = (
    λ told. absurd (false≢true told),
    λ e. sym (ap (λ (d : Datum). nat_eq (kind_of datum) (kind_of d)) e),
  )

  pub elements_eq-Decides : (elements others : Elements)
      → Decides (elements_eq elements others) (elements ≡ others)
  elements_eq-Decides empty_list empty_list = (λ told. refl, λ e. refl)
  elements_eq-Decides (element datum rest) (element other others) =
      Decides-along (datum_eq datum other && elements_eq rest others)
      (λ same. same_elements same) (λ e. (ap first_element e, ap other_elements e))
      (and-Decides (datum_eq datum other) (elements_eq rest others)
      (datum_eq-Decides datum other) (elements_eq-Decides rest others))
  elements_eq-Decides empty_list (element other others) =
      (λ told. absurd (false≢true told), λ e. ap is_element e)
  elements_eq-Decides (element datum rest) empty_list =
      (λ told. absurd (false≢true told), λ e. sym (ap is_element e))

  pub entries_eq-Decides : (entries others : Entries)
      → Decides (entries_eq entries others) (entries ≡ others)
  entries_eq-Decides empty_record empty_record = (λ told. refl, λ e. refl)
  entries_eq-Decides (entry name datum rest) (entry name' other others) =
      Decides-along (pointwise nat_eq name name'
      && (datum_eq datum other && entries_eq rest others))
      (λ same. same_entries same)
      (λ e. (ap first_name e, (ap first_value e, ap other_entries e)))
      (and-Decides (pointwise nat_eq name name') (datum_eq datum other && entries_eq rest others)
      (bytes_decides name name')
      (and-Decides (datum_eq datum other) (entries_eq rest others)
      (datum_eq-Decides datum other) (entries_eq-Decides rest others)))
  entries_eq-Decides empty_record (entry name other others) =
      (λ told. absurd (false≢true told), λ e. ap is_entry e)
  entries_eq-Decides (entry name datum rest) empty_record =
      (λ told. absurd (false≢true told), λ e. sym (ap is_entry e))

-- a test of how things are seen is an equivalence where the test of what is seen is one
seen_equivalence : {A B : Type 0} {E : B → B → Bool} → (view : A → B) → IsEquivalence E
    → IsEquivalence (λ (a b : A). E (view a) (view b))
seen_equivalence view holds = record {
  refl = λ a. holds.refl (view a);
  symm = λ a b. holds.symm (view a) (view b);
  congr = λ a b c. holds.congr (view a) (view b) (view c);
}

pub value_eq-equivalence : IsEquivalence value_eq
value_eq-equivalence = seen_equivalence datum_of (decided datum_eq datum_eq-Decides)

pub items_eq-equivalence : IsEquivalence items_eq
items_eq-equivalence = seen_equivalence items_of (decided elements_eq elements_eq-Decides)

pub members_eq-equivalence : IsEquivalence members_eq
members_eq-equivalence = seen_equivalence members_of (decided entries_eq entries_eq-Decides)
