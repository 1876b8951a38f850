-- Values side by side: lists of unlike lengths, and a step of the comparison.
use Rattle.std.proofs.Common.{◌≡◌, ◌≢◌, ℕ, suc, ◌+◌, ◌<◌, Bool, true, false, ◌&&◌, not, List, [], ◌∷◌, length}
use Rattle.std.proofs.Common.{get_or, drop, refl, ap, sym, ◌∙◌}
use Rattle.std.proofs.lemmas.Bool.{and_right}
use Rattle.std.specs.Cmp.Lexicographic.{pointwise}
use Rattle.std.specs.Prelude.{nat_eq}
use Rattle.evp_format.specs.ValueEquality.{datum_eq, elements_eq, entries_eq}
use Rattle.evp_format.specs.ValueView.{datum_of, elements_of_values, entries_of_pairs}
use Rattle.evp_format.specs.declared.value.Value.{Value}
use Rattle.evp_format.proofs.Loops.{next_left}

-- the comparison of lists, and of fields
abbrev pub same_lists : List Value → List Value → Bool
same_lists values others = elements_eq (elements_of_values values) (elements_of_values others)

abbrev pub same_fields : List (List ℕ × Value) → List (List ℕ × Value) → Bool
same_fields pairs others = entries_eq (entries_of_pairs pairs) (entries_of_pairs others)

-- lists of unlike lengths differ
pub unlike_lists : (values others : List Value) → length values ≢ length others → same_lists values others ≡ false
unlike_lists [] [] unlike = absurd (unlike refl)
unlike_lists [] (other ∷ others) unlike = refl
unlike_lists (value ∷ values) [] unlike = refl
unlike_lists (value ∷ values) (other ∷ others) unlike =
    and_right (datum_eq (datum_of value) (datum_of other)) (same_lists values others)
    (unlike_lists values others (λ e. unlike (ap suc e)))

pub unlike_fields : (pairs others : List (List ℕ × Value)) → length pairs ≢ length others → same_fields pairs others ≡ false
unlike_fields [] [] unlike = absurd (unlike refl)
unlike_fields [] (other ∷ others) unlike = refl
unlike_fields (pair ∷ pairs) [] unlike = refl
unlike_fields (pair ∷ pairs) (other ∷ others) unlike =
    let same = datum_eq (datum_of pair.1) (datum_of other.1) in
    and_right (pointwise nat_eq pair.0 other.0) (same && same_fields pairs others)
    (and_right same (same_fields pairs others) (unlike_fields pairs others (λ e. unlike (ap suc e))))

-- what is left is the next two and what is left behind them
pub next_values : (values others : List Value) (k : ℕ) (value other : Value) → k < length values → k < length others
    → value ≡ get_or values k value → other ≡ get_or others k other
    → same_lists (drop k values) (drop k others)
    ≡ (datum_eq (datum_of value) (datum_of other) && same_lists (drop (k + 1) values) (drop (k + 1) others))
next_values values others k value other below below' is is' =
    next_left (λ (l : List Value). same_lists l (drop k others)) values k value below is
    ∙ next_left (λ (l : List Value). same_lists (value ∷ drop (k + 1) values) l) others k other below' is'

pub next_fields : (pairs others : List (List ℕ × Value)) (k : ℕ) (pair other : List ℕ × Value) → k < length pairs → k < length others
    → pair ≡ get_or pairs k pair → other ≡ get_or others k other
    → same_fields (drop k pairs) (drop k others)
    ≡ (pointwise nat_eq pair.0 other.0
    && (datum_eq (datum_of pair.1) (datum_of other.1) && same_fields (drop (k + 1) pairs) (drop (k + 1) others)))
next_fields pairs others k pair other below below' is is' =
    next_left (λ (l : List (List ℕ × Value)). same_fields l (drop k others)) pairs k pair below is
    ∙ next_left (λ (l : List (List ℕ × Value)). same_fields (pair ∷ drop (k + 1) pairs) l) others k other below' is'

-- a part that is the same leaves the answer to the others
pub and_goes_on : (r s : Bool) → r ≡ true → (r && s) ≡ s
and_goes_on r s same = ap (λ (b : Bool). b && s) same

-- the test of a denial
pub not_true : (b : Bool) → not b ≡ true → b ≡ false
not_true true told = sym told
not_true false told = refl

pub not_false : (b : Bool) → not b ≡ false → b ≡ true
not_false true told = refl
not_false false told = sym told
