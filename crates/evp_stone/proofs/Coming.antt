-- What is to come from a source: its next part, and what stands behind that.
use Rattle.std.proofs.Common.{◌≡◌, ℕ, zero, suc, ◌+◌, ◌<◌, ◌≤◌, List, [], ◌∷◌, drop, length, get_or, Some}
use Rattle.std.proofs.Common.{refl, sym, ap, ◌∙◌, add-one, add-zero, arith}
use Rattle.std.proofs.lemmas.List.{drop_more, get_or-drop}
use Rattle.std.proofs.lemmas.List.Sums.{sum_by-cons}
use Rattle.std.specs.List.{slice_get, sum}
use Rattle.evp_stone.specs.Accounts.{portions}
use Rattle.evp_stone.specs.Carried.{Carried}
use Rattle.evp_stone.specs.Feeding.{coming}
use Rattle.evp_stone.specs.Flow.{Part, item, mark, flow_from}

-- a list from a place on
pub record IsCut {X : Type 0} (xs : List X) (k : ℕ) (x : X) (rest : List X) : Type 0 where
  pub at : slice_get xs k ≡ Some x
  pub behind : drop (k + 1) xs ≡ rest
  pub within : k + 1 ≤ length xs

pub cut_at : {X : Type 0} (xs : List X) (k : ℕ) (x : X) (rest : List X) → drop k xs ≡ x ∷ rest → IsCut xs k x rest
cut_at [] zero x rest same = absurd (cc)
cut_at [] (suc k) x rest same = absurd (cc)
cut_at (y ∷ xs) zero x rest same = record { at = cc; behind = cc; within = omega arith }
cut_at (y ∷ xs) (suc k) x rest same =
    let here = cut_at xs k x rest same in
    record {
      at = here.at;
      behind = ap (λ (n : ℕ). drop n (y ∷ xs)) (add-one (suc k)) ∙ ap (λ (n : ℕ). drop n xs) (sym (add-one k)) ∙ here.behind;
      within = let below = here.within in omega arith;
    }

-- what is submitted from a round on
pub sum_next : (numbers : List ℕ) (k : ℕ) → sum (drop k numbers) ≡ get_or numbers k 0 + sum (drop (k + 1) numbers)
sum_next [] k = let here = sum_none k in let behind = sum_none (k + 1) in let first = none_at k in omega arith
  where
    sum_none : (n : ℕ) → sum (drop {A = ℕ} n []) ≡ 0
    sum_none zero = refl
    sum_none (suc n) = refl

    none_at : (n : ℕ) → get_or {A = ℕ} [] n 0 ≡ 0
    none_at zero = refl
    none_at (suc n) = refl
sum_next (n ∷ numbers) zero = sum_by-cons (λ (x : ℕ). x) n numbers
sum_next (n ∷ numbers) (suc k) =
    sum_next numbers k ∙ ap (λ (m : ℕ). get_or numbers k 0 + sum (drop m numbers)) (add-one k)
    ∙ ap (λ (m : ℕ). get_or numbers k 0 + sum (drop m (n ∷ numbers))) (sym (add-one (suc k)))

-- whole rounds
pub rounds_come : (round : ℕ) (numbers : List ℕ) (records : List Carried)
    → flow_from round (portions numbers records) ≡ coming round numbers (get_or numbers 0 0) records
rounds_come round [] records = refl
rounds_come round (n ∷ numbers) records = refl

-- a round without records left
pub end_comes : (round : ℕ) (numbers : List ℕ) (records : List Carried) → round < length numbers
    → coming round (drop round numbers) 0 records
    ≡ mark round ∷ coming (round + 1) (drop (round + 1) numbers) (get_or numbers (round + 1) 0) records
end_comes round numbers records below =
    let later = drop (round + 1) numbers in
    let first : get_or later 0 0 ≡ get_or numbers (round + 1) 0 =
    get_or-drop (round + 1) numbers 0 0 ∙ ap (λ (n : ℕ). get_or numbers n 0) (add-zero (round + 1)) in
    ap (λ (l : List ℕ). coming round l 0 records) (drop_more numbers round 0 below)
    ∙ ap (λ (l : List Part). mark round ∷ l) (rounds_come (round + 1) later records)
    ∙ ap (λ (n : ℕ). mark round ∷ coming (round + 1) later n records) first

-- a round with records left
pub record_comes : (round : ℕ) (numbers : List ℕ) (left : ℕ) (c : Carried) (records : List Carried) → round < length numbers
    → coming round (drop round numbers) (suc left) (c ∷ records) ≡ item c ∷ coming round (drop round numbers) left records
record_comes round numbers left c records below =
    let here = drop_more numbers round 0 below in
    ap (λ (l : List ℕ). coming round l (suc left) (c ∷ records)) here
    ∙ ap (λ (l : List ℕ). item c ∷ coming round l left records) (sym here)
