-- That `==` tells which places and faults are the same, and so is an equivalence.
use Rattle.std.specs.Prelude.{◌≡◌, ℕ, Bool, true, false, nat_eq, List, [], ◌∷◌, get_or}
use Rattle.std.specs.Bool.{Decides}
use Rattle.std.specs.Cmp.{IsEquivalence, decided, unsigned_Decides}
use Rattle.std.specs.Cmp.Lexicographic.{pointwise_decides}
use Rattle.std.proofs.Common.{ap, refl, sym, ◌∙◌}
use Rattle.std.proofs.lemmas.Bool.{false≢true}
use Rattle.evp_format.specs.declared.broken.Broken.{Broken}
use Rattle.evp_format.specs.declared.broken.Broken.TheVariants.{ShortRecord, NegativeCount}
use Rattle.evp_format.specs.declared.broken.Broken.TheVariants.{NullList, BlockPlace, NoEnd}
use Rattle.evp_format.specs.declared.place.PlaceStep.{PlaceStep}
use Rattle.evp_format.specs.declared.place.PlaceStep.TheVariants.{At, Nth}
use Rattle.evp_format.specs.Equalities.{and-Decides, Decides-along}
use Rattle.evp_format.specs.Sameness.{step_eq, steps_eq, fault_kind, fault_place, broken_eq}

abbrev step_number : PlaceStep → ℕ
step_number (At k) = k
step_number (Nth k) = k

abbrev is_nth : PlaceStep → Bool
is_nth (At k) = false
is_nth (Nth k) = true

pub step_eq-Decides : (step other : PlaceStep) → Decides (step_eq step other) (step ≡ other)
step_eq-Decides (At k) (At other) =
    let same = unsigned_Decides k other in
    (λ told. ap At (same.0 told), λ e. same.1 (ap step_number e))
step_eq-Decides (Nth k) (Nth other) =
    let same = unsigned_Decides k other in
    (λ told. ap Nth (same.0 told), λ e. same.1 (ap step_number e))
step_eq-Decides (At k) (Nth other) = (λ told. absurd (false≢true told), λ e. ap is_nth e)
step_eq-Decides (Nth k) (At other) = (λ told. absurd (false≢true told), λ e. sym (ap is_nth e))

pub step_eq-equivalence : IsEquivalence step_eq
step_eq-equivalence = decided step_eq step_eq-Decides

pub steps_eq-Decides : (place other : List PlaceStep)
    → Decides (steps_eq place other) (place ≡ other)
steps_eq-Decides = pointwise_decides step_eq-Decides

pub steps_eq-equivalence : IsEquivalence steps_eq
steps_eq-equivalence = decided steps_eq steps_eq-Decides

-- the fault of a kind at a place
abbrev fault_from : ℕ → List PlaceStep → Broken
fault_from kind place = get_or (ShortRecord ∷ NegativeCount place ∷ NullList place
    ∷ BlockPlace place ∷ NoEnd place ∷ []) kind ShortRecord

fault_from-parts : (fault : Broken) → fault_from (fault_kind fault) (fault_place fault) ≡ fault
fault_from-parts ShortRecord = refl
fault_from-parts (NegativeCount place) = refl
fault_from-parts (NullList place) = refl
fault_from-parts (BlockPlace place) = refl
fault_from-parts (NoEnd place) = refl

same_fault : (fault other : Broken) → fault_kind fault ≡ fault_kind other
    → fault_place fault ≡ fault_place other → fault ≡ other
same_fault fault other kind place =
    sym (fault_from-parts fault) ∙ ap (λ (k : ℕ). fault_from k (fault_place fault)) kind
    ∙ ap (λ (p : List PlaceStep). fault_from (fault_kind other) p) place
    ∙ fault_from-parts other

pub broken_eq-Decides : (fault other : Broken) → Decides (broken_eq fault other) (fault ≡ other)
broken_eq-Decides fault other =
    Decides-along (broken_eq fault other) (λ same. same_fault fault other same.0 same.1)
    (λ e. (ap fault_kind e, ap fault_place e))
    (and-Decides (nat_eq (fault_kind fault) (fault_kind other)) _
    (unsigned_Decides (fault_kind fault) (fault_kind other))
    (steps_eq-Decides (fault_place fault) (fault_place other)))

pub broken_eq-equivalence : IsEquivalence broken_eq
broken_eq-equivalence = decided broken_eq broken_eq-Decides
