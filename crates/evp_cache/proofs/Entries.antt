-- What a pass tells of a pair at its place.
use Rattle.std.proofs.Common.{◌≡◌, ℕ, ◌<◌, List, Option, Some, None, sym, refl, ap, ◌∙◌, subst, map, length, false}
use Rattle.std.proofs.lemmas.List.{length-map}
use Rattle.std.proofs.lemmas.Option.{slice_get_read, slice_get-map}
use Rattle.std.proofs.lemmas.Bool.{false≢true}
use Rattle.std.specs.Prelude.{slice_get, slice_index_or, option_map, is_some, IfSome}
use Rattle.std.specs.Global.{Box}
use Rattle.evp_cache.specs.declared.met.Met.{Met}
use Rattle.evp_cache.specs.Finding.{Finding}
use Rattle.evp_cache.specs.Known.{Known}
use Rattle.evp_cache.specs.Met.{known_of, either, value_in, cell_of, found_of}

-- what is there
pub entry_of : (ms : List Met) (ks : List Known) (place : ℕ) (met : Met) → map known_of ms ≡ ks → place < length ks
    → met ≡ slice_index_or ms place met → slice_get ks place ≡ Some (known_of met)
entry_of ms ks place met view inside there = subst (λ (ks : List Known). slice_get ks place ≡ Some (known_of met)) view
    (slice_get-map known_of ms place ∙ ap (option_map known_of)
    (slice_get_read ms (length ms) place met refl (subst (λ (n : ℕ). place < n) (sym (ap length view) ∙ length-map ms known_of) inside) there))

some≢none : {X : Type 0} (x : X) → Some x ≡ None → ⊥
some≢none x is = absurd cc

same : {X : Type 0} (x y : X) → Some x ≡ Some y → x ≡ y
same x y is = cc

-- it is the entry there
pub entry_is : (ms : List Met) (ks : List Known) (place : ℕ) (met : Met) (k : Known) → map known_of ms ≡ ks → place < length ks
    → met ≡ slice_index_or ms place met → slice_get ks place ≡ Some k → known_of met ≡ k
entry_is ms ks place met k view inside there is = same _ _ (sym (entry_of ms ks place met view inside there) ∙ is)

-- what the pass keeps itself
pub own_found : (met : Met) (own : Box Finding) → met.own ≡ Some own → (known_of met).found ≡ own.value.found
own_found met own is = ap (λ (kept : Option (Box Finding)). found_of (either (value_in kept) met.note.known)) is

pub not_shared : (met : Met) → met.own ≡ None → (known_of met).cell ≡ None → ⊥
not_shared met is none = some≢none _ (sym (ap (λ (kept : Option (Box Finding)). cell_of kept met.note.cell) is) ∙ none)

-- what the cell keeps
no_own : (own : Option (Box Finding)) → false ≡ is_some own → own ≡ None
no_own None is = refl
no_own (Some x) is = absurd (false≢true is)

pub shared_cell : (met : Met) (name : ℕ) → false ≡ is_some met.own → IfSome (known_of met).cell (λ cell. cell ≡ name) → met.note.cell ≡ name
shared_cell met name is cell = subst (λ (own : Option (Box Finding)). IfSome (cell_of own met.note.cell) (λ cell. cell ≡ name)) (no_own _ is) cell

pub shared_found : (met : Met) (finding : Finding) → false ≡ is_some met.own → met.note.known ≡ Some finding → (known_of met).found ≡ finding.found
shared_found met finding is known = ap (λ (own : Option (Box Finding)). found_of (either (value_in own) met.note.known)) (no_own _ is)
    ∙ ap found_of known
