-- The text of one byte, element or field more.
use Rattle.std.proofs.Common.{◌≡◌, ℕ, zero, suc, ◌+◌, ◌<◌, List, [], ◌∷◌, ◌++◌, length, take, get_or, sym, ap, ◌∙◌, arith, append_assoc}
use Rattle.std.proofs.Common.{add-one, codes}
use Rattle.std.proofs.lemmas.List.{append-nil}
use Rattle.evp_format.specs.declared.value.Value.{Value}
use Rattle.evp_format.specs.ValueText.{value_text, elements_text, more_elements_text, entries_text, more_entries_text}
use Rattle.evp_format.specs.ValueView.{datum_of, elements_of_values, entries_of_pairs}

-- a part that stands behind another, joined to what stands before both
joined : {A : Type 0} (first more rest next : List A) → more ≡ rest ++ next → first ++ more ≡ (first ++ rest) ++ next
joined first more rest next same = rw same (sym (append_assoc first rest next))

-- what is written behind a text that already stands behind another
pub grows : (start first next : List ℕ) {text before more : List ℕ} → text ≡ before ++ next → before ≡ start ++ first → more ≡ first ++ next
    → text ≡ start ++ more
grows start first next written stood same = written ∙ ap (λ (b : List ℕ). b ++ next) stood ∙ append_assoc start first next
    ∙ ap (λ (m : List ℕ). start ++ m) (sym same)

-- an element behind the first
abbrev next_element : Value → List ℕ
next_element value = codes "," ++ value_text (datum_of value)

abbrev more_elements : List Value → List ℕ
more_elements values = more_elements_text (elements_of_values values)

more_elements-take : (values : List Value) (k : ℕ) (d : Value) → k < length values
    → more_elements (take (suc k) values) ≡ more_elements (take k values) ++ next_element (get_or values k d)
more_elements-take [] k d below = absurd (omega arith)
more_elements-take (value ∷ values) zero d below = append-nil (next_element value)
more_elements-take (value ∷ values) (suc k) d below =
    joined (next_element value) (more_elements (take (suc k) values)) (more_elements (take k values)) (next_element (get_or values k d))
    (more_elements-take values k d (omega arith))

-- the first element stands without a comma
pub elements_text-first : (values : List Value) (k : ℕ) (d : Value) → k ≡ 0 → k < length values
    → elements_text (elements_of_values (take (k + 1) values)) ≡ elements_text (elements_of_values (take k values))
    ++ value_text (datum_of (get_or values k d))
elements_text-first [] k d first below = absurd (omega arith)
elements_text-first (value ∷ values) zero d first below = append-nil (value_text (datum_of value))
elements_text-first (value ∷ values) (suc k) d first below = absurd (omega arith)

-- every other element stands behind a comma
pub elements_text-next : (values : List Value) (k : ℕ) (d : Value) → 0 < k → k < length values
    → elements_text (elements_of_values (take (k + 1) values)) ≡ (elements_text (elements_of_values (take k values)) ++ codes ",")
    ++ value_text (datum_of (get_or values k d))
elements_text-next [] k d next below = absurd (omega arith)
elements_text-next (value ∷ values) zero d next below = absurd (omega arith)
elements_text-next (value ∷ values) (suc k) d next below =
    rw (
      add-one,
      append_assoc (elements_text (elements_of_values (value ∷ take k values))) (codes ",")
          (value_text (datum_of (get_or values k d))),
    )
    (joined (value_text (datum_of value)) (more_elements (take (suc k) values)) (more_elements (take k values))
    (next_element (get_or values k d)) (more_elements-take values k d (omega arith)))

-- a field
abbrev pub field_text : List ℕ × Value → List ℕ
field_text pair = pair.0 ++ codes "=" ++ value_text (datum_of pair.1)

-- a field behind the first
abbrev next_field : List ℕ × Value → List ℕ
next_field pair = codes "," ++ pair.0 ++ codes "=" ++ value_text (datum_of pair.1)

abbrev more_fields : List (List ℕ × Value) → List ℕ
more_fields pairs = more_entries_text (entries_of_pairs pairs)

more_fields-take : (pairs : List (List ℕ × Value)) (k : ℕ) (d : List ℕ × Value) → k < length pairs
    → more_fields (take (suc k) pairs) ≡ more_fields (take k pairs) ++ next_field (get_or pairs k d)
more_fields-take [] k d below = absurd (omega arith)
more_fields-take (pair ∷ pairs) zero d below = append-nil (next_field pair)
more_fields-take (pair ∷ pairs) (suc k) d below =
    joined (next_field pair) (more_fields (take (suc k) pairs)) (more_fields (take k pairs)) (next_field (get_or pairs k d))
    (more_fields-take pairs k d (omega arith))

-- the first field stands without a comma
pub entries_text-first : (pairs : List (List ℕ × Value)) (k : ℕ) (d : List ℕ × Value) → k ≡ 0 → k < length pairs
    → entries_text (entries_of_pairs (take (k + 1) pairs)) ≡ entries_text (entries_of_pairs (take k pairs)) ++ field_text (get_or pairs k d)
entries_text-first [] k d first below = absurd (omega arith)
entries_text-first (pair ∷ pairs) zero d first below = append-nil (field_text pair)
entries_text-first (pair ∷ pairs) (suc k) d first below = absurd (omega arith)

-- every other field stands behind a comma
pub entries_text-next : (pairs : List (List ℕ × Value)) (k : ℕ) (d : List ℕ × Value) → 0 < k → k < length pairs
    → entries_text (entries_of_pairs (take (k + 1) pairs)) ≡ (entries_text (entries_of_pairs (take k pairs)) ++ codes ",")
    ++ field_text (get_or pairs k d)
entries_text-next [] k d next below = absurd (omega arith)
entries_text-next (pair ∷ pairs) zero d next below = absurd (omega arith)
entries_text-next (pair ∷ pairs) (suc k) d next below =
    rw (add-one, append_assoc (entries_text (entries_of_pairs (pair ∷ take k pairs))) (codes ",") (field_text (get_or pairs k d)))
    (joined (field_text pair) (more_fields (take (suc k) pairs)) (more_fields (take k pairs)) (next_field (get_or pairs k d))
    (more_fields-take pairs k d (omega arith)))
