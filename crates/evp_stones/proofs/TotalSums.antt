-- Totals of lists, one element more, and of the same lists in two forms.
use Rattle.std.proofs.Common.{◌≡◌, ℕ, zero, suc, ◌+◌, ◌<◌, List, [], ◌∷◌, length, take, get_or, refl, sym, ap, ◌∙◌, subst, arith}
use Rattle.std.proofs.lemmas.List.Sums.{sum_by_more, sum_by-cons}
use Rattle.std.specs.List.{AllZip, sum_by}
use Rattle.evp_format.specs.Layout.{Layout}
use Rattle.evp_stone.specs.declared.account.RoundAccount.{RoundAccount}
use Rattle.evp_stone.specs.Tallied.{IsTallied}
use Rattle.evp_stone.specs.Tally.{Tally}
use Rattle.evp_stones.specs.AccountTotals.{after_round, both, rounds_totals, IsWithin}
use Rattle.evp_stones.specs.declared.bench.totals.Totals.{Totals}
use Rattle.evp_stones.specs.Totals.{last_by, route_totals, sums}

-- four numbers as totals
abbrev totals_with : ℕ → ℕ → ℕ → ℕ → Totals
totals_with a b c d = record { passed = a; dropped = b; refused = c; held = d }

pub four : {a b c d a' b' c' d' : ℕ} → a ≡ a' → b ≡ b' → c ≡ c' → d ≡ d' → totals_with a b c d ≡ totals_with a' b' c' d'
four p q r s = rw (p, q, r, s) refl

-- ---- one element more

last_more : {X : Type 0} (count : X → ℕ) (xs : List X) (i : ℕ) (d : X) → i < length xs
    → last_by count (take (suc i) xs) ≡ count (get_or xs i d)
last_more count [] i d below = absurd (omega (arith, below))
last_more count (x ∷ xs) zero d below = refl
last_more count (x ∷ []) (suc i) d below = absurd (omega (arith, below))
last_more count (x ∷ y ∷ ys) (suc i) d below = last_more count (y ∷ ys) i d (omega (arith, below))

pub sums_more : {X : Type 0} (totals : X → Totals) (xs : List X) (i : ℕ) (d : X) → i < length xs
    → sums totals (take (i + 1) xs) ≡ both (sums totals (take i xs)) (totals (get_or xs i d))
sums_more totals xs i d below =
    four (sum_by_more (λ x. (totals x).passed) xs i d below) (sum_by_more (λ x. (totals x).dropped) xs i d below)
    (sum_by_more (λ x. (totals x).refused) xs i d below) (sum_by_more (λ x. (totals x).held) xs i d below)

pub rounds_more : (rounds : List RoundAccount) (i : ℕ) (d : RoundAccount) → i < length rounds
    → rounds_totals (take (i + 1) rounds) ≡ after_round (rounds_totals (take i rounds)) (get_or rounds i d)
rounds_more rounds i d below =
    let next : suc i ≡ i + 1 = omega arith in
    four (sum_by_more (λ (a : RoundAccount). a.passed) rounds i d below) (sum_by_more (λ (a : RoundAccount). a.dropped) rounds i d below)
    (sum_by_more (λ (a : RoundAccount). length a.refused.items) rounds i d below)
    (subst (λ (k : ℕ). last_by (λ (a : RoundAccount). a.held) (take k rounds) ≡ (get_or rounds i d).held) next
    (last_more (λ (a : RoundAccount). a.held) rounds i d below))

-- ---- accounts and the tallies that they are

pub zip_sum : {A B : Type 0} (R : A → B → Type 0) (f : A → ℕ) (g : B → ℕ) → ((a : A) (b : B) → R a b → f a ≡ g b)
    → (xs : List A) (ys : List B) → AllZip R xs ys → sum_by f xs ≡ sum_by g ys
zip_sum R f g same [] [] zip = refl
zip_sum R f g same [] (y ∷ ys) zip = absurd zip
zip_sum R f g same (x ∷ xs) [] zip = absurd zip
zip_sum R f g same (x ∷ xs) (y ∷ ys) zip =
    let first = same x y zip.0 in
    let rest = zip_sum R f g same xs ys zip.1 in
    sum_by-cons f x xs ∙ (rw (first, rest) refl) ∙ sym (sum_by-cons g y ys)

zip_last : {A B : Type 0} (R : A → B → Type 0) (f : A → ℕ) (g : B → ℕ) → ((a : A) (b : B) → R a b → f a ≡ g b)
    → (xs : List A) (ys : List B) → AllZip R xs ys → last_by f xs ≡ last_by g ys
zip_last R f g same [] [] zip = refl
zip_last R f g same [] (y ∷ ys) zip = absurd zip
zip_last R f g same (x ∷ xs) [] zip = absurd zip
zip_last R f g same (x ∷ []) (y ∷ []) zip = same x y zip.0
zip_last R f g same (x ∷ []) (y ∷ z ∷ ys) zip = absurd zip.1
zip_last R f g same (x ∷ w ∷ xs) (y ∷ []) zip = absurd zip.1
zip_last R f g same (x ∷ w ∷ xs) (y ∷ z ∷ ys) zip = zip_last R f g same (w ∷ xs) (z ∷ ys) zip.1

pub rounds_are : (formats : List Layout) (rounds : List RoundAccount) (tallies : List Tally) → AllZip (IsTallied formats) rounds tallies
    → rounds_totals rounds ≡ route_totals tallies
rounds_are formats rounds tallies zip =
    four (zip_sum (IsTallied formats) (λ (a : RoundAccount). a.passed) (λ (t : Tally). t.passed) (λ a t is. is.passed) rounds tallies zip)
    (zip_sum (IsTallied formats) (λ (a : RoundAccount). a.dropped) (λ (t : Tally). t.dropped) (λ a t is. is.dropped) rounds tallies zip)
    (zip_sum (IsTallied formats) (λ (a : RoundAccount). length a.refused.items) (λ (t : Tally). length t.refused)
    (λ a t is. ap length is.refused) rounds tallies zip)
    (zip_last (IsTallied formats) (λ (a : RoundAccount). a.held) (λ (t : Tally). t.held) (λ a t is. is.held) rounds tallies zip)

-- ---- how great they are

pub within_both : (m k n : ℕ) (a b all : Totals) → m + k ≡ n → all ≡ both a b → IsWithin m a → IsWithin k b → IsWithin n all
within_both m k n a b all sum is first second = subst (IsWithin n) (sym is) (record {
  passed = (let p = first.passed in let q = second.passed in omega (arith, sum, p, q));
  dropped = (let p = first.dropped in let q = second.dropped in omega (arith, sum, p, q));
  refused = (let p = first.refused in let q = second.refused in omega (arith, sum, p, q));
  held = (let p = first.held in let q = second.held in omega (arith, sum, p, q));
})
