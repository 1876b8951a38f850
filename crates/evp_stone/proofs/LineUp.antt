-- Entries are lined up one after another, and outlets counted.
use Rattle.std.proofs.Common.{◌≡◌, ℕ, zero, suc, ◌+◌, ◌<◌, ◌^◌, Bool, true, false}
use Rattle.std.proofs.Common.{List, [], ◌∷◌, ◌++◌, length, take, drop, get_or, set, append_assoc}
use Rattle.std.proofs.Common.{refl, sym, ap, subst, ◌∙◌, ◌==◌, ◌≤◌, ◌⊎◌, true≢false, add-one, arith, inl, inr}
use Rattle.std.proofs.lemmas.Bool.Decides.{nat_tests}
use Rattle.std.proofs.lemmas.List.{append-nil, length-map}
use Rattle.std.specs.Prelude.{if◌then◌else◌}
use Rattle.std.specs.List.{AllByRecursion}
use Rattle.evp_stone.specs.declared.entry.Entry.{Entry}
use Rattle.evp_stone.specs.declared.outlet.Outlet.{Outlet}
use Rattle.evp_stone.specs.Lining.{IsAt, AreLined, lengthened, one_more}
use Rattle.evp_stone.specs.State as state
use Rattle.evp_stone.specs.Turning.{everywhere}
use Rattle.evp_stone.specs.Working.{outlet_of, outlets_of}

-- the outlets from a place on
pub outlets_from : (xs : List Outlet) (p : ℕ) (d : Outlet) → p < length xs
    → drop p (outlets_of xs) ≡ outlet_of (get_or xs p d) ∷ drop (p + 1) (outlets_of xs)
outlets_from [] p d within = absurd (omega arith)
outlets_from (x ∷ xs) zero d within = refl
outlets_from (x ∷ xs) (suc p) d within =
    let next : suc (p + 1) ≡ suc p + 1 = omega arith in
    outlets_from xs p d (omega arith) ∙ ap (λ (n : ℕ). outlet_of (get_or xs p d) ∷ drop n (outlets_of (x ∷ xs))) next

pub drop_all : {X : Type 0} (xs : List X) (n : ℕ) → n ≡ length xs → drop n xs ≡ []
drop_all [] zero is = refl
drop_all [] (suc n) is = refl
drop_all (x ∷ xs) zero is = absurd (omega arith)
drop_all (x ∷ xs) (suc n) is = drop_all xs n (omega arith)

module _ (IsOne : Entry → Type 0) (goes : ℕ → Bool) where
  -- whatever is lined up from this position on, the entries so far go before it
  pub record LinedSoFar (outlets : List state.Outlet) (position : ℕ) (entries : List Entry) : Type 0 where
    pub so_far : (rest : List Entry) → AreLined IsOne goes position (drop position outlets) rest
        → AreLined IsOne goes 0 outlets (entries ++ rest)

  pub lined_one : (xs : List Outlet) (p : ℕ) (d : Outlet) (entries : List Entry) (entry : Entry) → p < length xs → goes p ≡ true
      → IsAt IsOne (outlet_of (get_or xs p d)) entry
      → LinedSoFar (outlets_of xs) p entries → LinedSoFar (outlets_of xs) (p + 1) (entries ++ entry ∷ [])
  lined_one xs p d entries entry within here at was = record {
    so_far = λ rest lined. rw (append_assoc entries (entry ∷ []) rest)
        (was.so_far (entry ∷ rest) (rw (outlets_from xs p d within) (inl (here, (entry, rest, refl, at, lined)))));
  }

  pub lined_all : (xs : List Outlet) (p : ℕ) (entries : List Entry) → p ≡ length xs → LinedSoFar (outlets_of xs) p entries
      → AreLined IsOne goes 0 (outlets_of xs) entries
  lined_all xs p entries is was =
      let none : drop p (outlets_of xs) ≡ [] = drop_all (outlets_of xs) p (is ∙ sym (length-map xs outlet_of)) in
      subst (AreLined IsOne goes 0 (outlets_of xs)) (append-nil entries)
      (was.so_far [] (subst (λ (l : List state.Outlet). AreLined IsOne goes p l []) (sym none) refl))

-- one goes everywhere but to the last place, and one to that
module _ (IsOne : Entry → Type 0) where
  pub lined_behind : (outlets : List state.Outlet) (position : ℕ) (outlet : state.Outlet) (entries : List Entry) (entry : Entry)
      → AreLined IsOne everywhere position outlets entries → IsAt IsOne outlet entry
      → AreLined IsOne everywhere position (outlets ++ outlet ∷ []) (entries ++ entry ∷ [])
  lined_behind [] position outlet entries entry lined at = rw lined (inl (refl, (entry, [], refl, at, refl)))
  lined_behind (o ∷ outlets) position outlet entries entry (inl (here, (first, others, is, was, lined))) at =
      rw is (inl (here, (first, others ++ entry ∷ [], refl, was, lined_behind outlets (position + 1) outlet others entry lined at)))
  lined_behind (o ∷ outlets) position outlet entries entry (inr (not, lined)) at = absurd (true≢false not)

  -- none goes to places that are behind
  pub lined_none : (xs : List Outlet) (k position : ℕ) → (length xs + position ≤ k) ⊎ (k < position)
      → AreLined IsOne (λ p. k == p) position (outlets_of xs) []
  lined_none [] k position out = refl
  lined_none (x ∷ xs) k position out = inr (grind (arith, nat_tests), lined_none xs k (position + 1) (grind arith))

  pub lined_at : (xs : List Outlet) (k position place : ℕ) (d : Outlet) (entry : Entry) → k ≡ position + place → place < length xs
      → IsAt IsOne (outlet_of (get_or xs place d)) entry
      → AreLined IsOne (λ p. k == p) position (outlets_of xs) (entry ∷ [])
  lined_at [] k position place d entry is within at = absurd (omega arith)
  lined_at (x ∷ xs) k position zero d entry is within at =
      inl (grind (arith, nat_tests), (entry, [], refl, at, lined_none xs k (position + 1) (inr (omega arith))))
  lined_at (x ∷ xs) k position (suc place) d entry is within at =
      inr (grind (arith, nat_tests), lined_at xs k (position + 1) place d entry (omega arith) (omega arith) at)

take_next : (xs : List Outlet) (p : ℕ) (d : Outlet) → p < length xs
    → take (suc p) (outlets_of xs) ≡ take p (outlets_of xs) ++ outlet_of (get_or xs p d) ∷ []
take_next [] p d within = absurd (omega arith)
take_next (x ∷ xs) zero d within = refl
take_next (x ∷ xs) (suc p) d within = ap (λ (l : List state.Outlet). outlet_of x ∷ l) (take_next xs p d (omega arith))

take_set : (xs : List Outlet) (p : ℕ) (y : Outlet) → p < length xs
    → take (suc p) (outlets_of (set xs p y)) ≡ take p (outlets_of xs) ++ outlet_of y ∷ []
take_set [] p y within = absurd (omega arith)
take_set (x ∷ xs) zero y within = refl
take_set (x ∷ xs) (suc p) y within = ap (λ (l : List state.Outlet). outlet_of x ∷ l) (take_set xs p y (omega arith))

drop_set : (xs : List Outlet) (p : ℕ) (y : Outlet) → drop (suc p) (outlets_of (set xs p y)) ≡ drop (suc p) (outlets_of xs)
drop_set [] p y = refl
drop_set (x ∷ xs) zero y = refl
drop_set (x ∷ xs) (suc p) y = drop_set xs p y

abbrev pub IsShort : state.Outlet → Type 0
IsShort outlet = outlet.lined + 1 < 2 ^ 32

module _ (goes : ℕ → Bool) where
  -- the outlets so far, and what becomes of the others, are what becomes of all
  pub record LongerSoFar (old new : List Outlet) (position : ℕ) : Type 0 where
    pub whole : take position (outlets_of new) ++ lengthened goes position (drop position (outlets_of new))
        ≡ lengthened goes 0 (outlets_of old)
    pub short : AllByRecursion IsShort (drop position (outlets_of new))

  pub short_here : (old xs : List Outlet) (p : ℕ) (d : Outlet) → p < length xs → LongerSoFar old xs p
      → (get_or xs p d).lined + 1 < 2 ^ 32
  short_here old xs p d within was = (rw (outlets_from xs p d within) at was.short).0

  rest_of : (old xs : List Outlet) (p : ℕ) (d : Outlet) → p < length xs → LongerSoFar old xs p
      → AllByRecursion IsShort (drop (p + 1) (outlets_of xs))
  rest_of old xs p d within was = (rw (outlets_from xs p d within) at was.short).1

  pub longer_one : (old xs : List Outlet) (p : ℕ) (d y : Outlet) → p < length xs → goes p ≡ true
      → outlet_of y ≡ one_more (outlet_of (get_or xs p d)) → LongerSoFar old xs p
      → LongerSoFar old (set xs p y) (p + 1)
  longer_one old xs p d y within here is was =
      let o = outlet_of (get_or xs p d) in
      let new = set xs p y in
      let others = drop (p + 1) (outlets_of xs) in
      let front = take p (outlets_of xs) in
      let all : front ++ (if goes p then one_more o else o) ∷ lengthened goes (p + 1) others ≡ lengthened goes 0 (outlets_of old) =
      ap (λ (l : List state.Outlet). front ++ lengthened goes p l) (sym (outlets_from xs p d within)) ∙ was.whole in
      let one : take (p + 1) (outlets_of new) ≡ front ++ outlet_of y ∷ [] = rw (add-one p) (take_set xs p y within) in
      let rest : drop (p + 1) (outlets_of new) ≡ others = rw (add-one p) (drop_set xs p y) in
      record {
        whole = ap (λ (l : List state.Outlet). l ++ lengthened goes (p + 1) (drop (p + 1) (outlets_of new))) one
            ∙ ap (λ (l : List state.Outlet). (front ++ outlet_of y ∷ []) ++ lengthened goes (p + 1) l) rest
            ∙ append_assoc front (outlet_of y ∷ []) (lengthened goes (p + 1) others)
            ∙ ap (λ (v : state.Outlet). front ++ v ∷ lengthened goes (p + 1) others)
            (is ∙ ap (λ (b : Bool). if b then one_more o else o) (sym here))
            ∙ all;
        short = subst (AllByRecursion IsShort) (sym rest) (rest_of old xs p d within was);
      }

-- nothing changes at places that are not meant
pub longer_none : (xs : List Outlet) (k position : ℕ) → (length xs + position ≤ k) ⊎ (k < position)
    → outlets_of xs ≡ lengthened (λ p. k == p) position (outlets_of xs)
longer_none [] k position out = refl
longer_none (x ∷ xs) k position out =
    let not : (k == position) ≡ false = grind (arith, nat_tests) in
    rw not (ap (λ (l : List state.Outlet). outlet_of x ∷ l) (longer_none xs k (position + 1) (grind arith)))

pub longer_at : (xs : List Outlet) (k position place : ℕ) (d y : Outlet) → k ≡ position + place → place < length xs
    → outlet_of y ≡ one_more (outlet_of (get_or xs place d))
    → outlets_of (set xs place y) ≡ lengthened (λ p. k == p) position (outlets_of xs)
longer_at [] k position place d y is within more = absurd (omega arith)
longer_at (x ∷ xs) k position zero d y is within more =
    let here : (k == position) ≡ true = grind (arith, nat_tests) in
    rw here (rw more (ap (λ (l : List state.Outlet). one_more (outlet_of x) ∷ l) (longer_none xs k (position + 1) (inr (omega arith)))))
longer_at (x ∷ xs) k position (suc place) d y is within more =
    let not : (k == position) ≡ false = grind (arith, nat_tests) in
    rw not (ap (λ (l : List state.Outlet). outlet_of x ∷ l) (longer_at xs k (position + 1) place d y (omega arith) (omega arith) more))

-- a counter that is among those that have room has room
pub short_at : (xs : List Outlet) (place : ℕ) (d : Outlet) → place < length xs → AllByRecursion IsShort (outlets_of xs)
    → (get_or xs place d).lined + 1 < 2 ^ 32
short_at [] place d within short = absurd (omega arith)
short_at (x ∷ xs) zero d within short = short.0
short_at (x ∷ xs) (suc place) d within short = short_at xs place d (omega arith) short.1
