-- Lists: each element and each later one, and what stands at the places of an enumeration.
use Rattle.std.proofs.Common.{◌≡◌, ℕ, zero, suc, ◌+◌, ◌<◌, Some, List, [], ◌∷◌, ◌++◌, length, map, reverse, get_or, drop, append_assoc}
use Rattle.std.proofs.Common.{refl, sym, ap, ◌∙◌, subst, arith}
use Rattle.std.specs.List.{AllByRecursion, AllPairs, Contains, flat_map, enumerate_from, slice_get}
use Rattle.std.proofs.lemmas.List.{reverse-append}
use Rattle.std.proofs.lemmas.List.Elements.{All-from_recursion, Contains-append_left, Contains-append_right}

-- R holds of each element and each later one
abbrev pub Ordered : {X : Type 0} → (X → X → Type 0) → List X → Type 0
Ordered R [] = Unit {0}
Ordered R (x ∷ xs) = AllByRecursion (R x) xs × Ordered R xs

-- R holds of each element of the one list and each of the other
abbrev pub Across : {X : Type 0} → (X → X → Type 0) → List X → List X → Type 0
Across R xs ys = AllByRecursion (λ x. AllByRecursion (R x) ys) xs

pub Each-weaker : {X : Type 0} (P Q : X → Type 0) → ((x : X) → P x → Q x) → (xs : List X) → AllByRecursion P xs → AllByRecursion Q xs
Each-weaker P Q f [] h = tt
Each-weaker P Q f (x ∷ xs) h = (f x h.0, Each-weaker P Q f xs h.1)

pub Each-append : {X : Type 0} (P : X → Type 0) (xs ys : List X) → AllByRecursion P xs → AllByRecursion P ys → AllByRecursion P (xs ++ ys)
Each-append P [] ys h k = k
Each-append P (x ∷ xs) ys h k = (h.0, Each-append P xs ys h.1 k)

pub Each-split : {X : Type 0} (P : X → Type 0) (xs ys : List X) → AllByRecursion P (xs ++ ys) → AllByRecursion P xs × AllByRecursion P ys
Each-split P [] ys h = (tt, h)
Each-split P (x ∷ xs) ys h = let k = Each-split P xs ys h.1 in ((h.0, k.0), k.1)

pub Each-map : {X Y : Type 0} (P : Y → Type 0) (f : X → Y) (xs : List X) → AllByRecursion (λ x. P (f x)) xs → AllByRecursion P (map f xs)
Each-map P f [] h = tt
Each-map P f (x ∷ xs) h = (h.0, Each-map P f xs h.1)

pub Each-always : {X : Type 0} (P : X → Type 0) → ((x : X) → P x) → (xs : List X) → AllByRecursion P xs
Each-always P f [] = tt
Each-always P f (x ∷ xs) = (f x, Each-always P f xs)

pub Ordered-append : {X : Type 0} (R : X → X → Type 0) (xs ys : List X) → Ordered R xs → Ordered R ys → Across R xs ys
    → Ordered R (xs ++ ys)
Ordered-append R [] ys h k a = k
Ordered-append R (x ∷ xs) ys h k a = (Each-append (R x) xs ys h.0 a.0, Ordered-append R xs ys h.1 k a.1)

pub Ordered-split : {X : Type 0} (R : X → X → Type 0) (xs ys : List X) → Ordered R (xs ++ ys) → Ordered R xs × Ordered R ys × Across R xs ys
Ordered-split R [] ys h = (tt, h, tt)
Ordered-split R (x ∷ xs) ys h =
    let k = Ordered-split R xs ys h.1 in
    let e = Each-split (R x) xs ys h.0 in
    ((e.0, k.0), k.1, (e.1, k.2))

pub Ordered-map : {X Y : Type 0} (R : Y → Y → Type 0) (f : X → Y) (xs : List X) → Ordered (λ x y. R (f x) (f y)) xs → Ordered R (map f xs)
Ordered-map R f [] h = tt
Ordered-map R f (x ∷ xs) h = (Each-map (R (f x)) f xs h.0, Ordered-map R f xs h.1)

pub Ordered-weaker : {X : Type 0} (R S : X → X → Type 0) → ((x y : X) → R x y → S x y) → (xs : List X) → Ordered R xs → Ordered S xs
Ordered-weaker R S f [] h = tt
Ordered-weaker R S f (x ∷ xs) h = (Each-weaker (R x) (S x) (f x) xs h.0, Ordered-weaker R S f xs h.1)

pub Across-flip : {X : Type 0} (R : X → X → Type 0) → ((x y : X) → R x y → R y x) → (xs ys : List X) → Across R xs ys → Across R ys xs
Across-flip R f [] ys h = Each-always (λ y. AllByRecursion (R y) []) (λ y. tt) ys
Across-flip R f (x ∷ xs) ys h = Across-cons R f x xs ys h.0 (Across-flip R f xs ys h.1)
  where
    Across-cons : {X : Type 0} (R : X → X → Type 0) → ((x y : X) → R x y → R y x) → (x : X) (xs ys : List X) → AllByRecursion (R x) ys
        → Across R ys xs → Across R ys (x ∷ xs)
    Across-cons R f x xs [] h k = tt
    Across-cons R f x xs (y ∷ ys) h k = ((f x y h.0, k.0), Across-cons R f x xs ys h.1 k.1)

-- for a relation that goes both ways the parts may change places, and the order be turned
pub Ordered-swap : {X : Type 0} (R : X → X → Type 0) → ((x y : X) → R x y → R y x) → (xs ys : List X) → Ordered R (xs ++ ys)
    → Ordered R (ys ++ xs)
Ordered-swap R f xs ys h =
    let k = Ordered-split R xs ys h in
    Ordered-append R ys xs k.1 k.0 (Across-flip R f xs ys k.2)

pub Ordered-reverse : {X : Type 0} (R : X → X → Type 0) → ((x y : X) → R x y → R y x) → (xs : List X) → Ordered R xs
    → Ordered R (reverse xs)
Ordered-reverse R f [] h = tt
Ordered-reverse R f (x ∷ xs) h =
    let P : List _ → Type 0 = λ l. Ordered R l in
    subst P (sym (reverse-append (x ∷ []) xs))
    (Ordered-swap R f (x ∷ []) (reverse xs) (Each-reverse (R x) xs h.0, Ordered-reverse R f xs h.1))
  where
    Each-reverse : {X : Type 0} (P : X → Type 0) (xs : List X) → AllByRecursion P xs → AllByRecursion P (reverse xs)
    Each-reverse P [] h = tt
    Each-reverse P (x ∷ xs) h =
        let Q : List _ → Type 0 = λ l. AllByRecursion P l in
        subst Q (sym (reverse-append (x ∷ []) xs)) (Each-append P (reverse xs) (x ∷ []) (Each-reverse P xs h.1) (h.0, tt))

pub AllPairs-from_recursion : {X : Type 0} (R : X → X → Type 0) (xs : List X) → Ordered R xs → AllPairs R xs
AllPairs-from_recursion R [] h i j d lt within = absurd (omega arith)
AllPairs-from_recursion R (x ∷ xs) h zero zero d lt within = absurd (omega arith)
AllPairs-from_recursion R (x ∷ xs) h (suc i) zero d lt within = absurd (omega arith)
AllPairs-from_recursion R (x ∷ xs) h zero (suc j) d lt within = All-from_recursion (R x) xs h.0 j d (omega arith)
AllPairs-from_recursion R (x ∷ xs) h (suc i) (suc j) d lt within = AllPairs-from_recursion R xs h.1 i j d (omega arith) (omega arith)

-- b stands at the place that is numbered q where the first is numbered p
pub record Stands (p : ℕ) (row : List ℕ) (q b : ℕ) : Type 0 where
  pub place : ℕ
  pub number : q ≡ p + place
  pub there : slice_get row place ≡ Some b

pub Stands-first : (p b : ℕ) (row : List ℕ) → Stands p (b ∷ row) p b
Stands-first p b row = record { place = 0; number = omega arith; there = refl }

pub Stands-later : (p b : ℕ) (row : List ℕ) (q c : ℕ) → Stands (p + 1) row q c → Stands p (b ∷ row) q c
Stands-later p b row q c s = let n = s.number in record { place = suc s.place; number = omega arith; there = s.there }

-- what holds of each piece holds of the pieces joined
pub Each-flat_map : {X : Type 0} (P : X → Type 0) (F : ℕ × ℕ → List X) (p : ℕ) (row : List ℕ)
    → ((q b : ℕ) → Stands p row q b → AllByRecursion P (F (q, b))) → AllByRecursion P (flat_map F (enumerate_from p row))
Each-flat_map P F p [] f = tt
Each-flat_map P F p (b ∷ row) f = Each-append P (F (p, b)) (flat_map F (enumerate_from (p + 1) row)) (f p b (Stands-first p b row))
    (Each-flat_map P F (p + 1) row (λ q c s. f q c (Stands-later p b row q c s)))

pub same_pieces : {X : Type 0} (F G : ℕ × ℕ → List X) (p : ℕ) (row : List ℕ) → ((q b : ℕ) → Stands p row q b → F (q, b) ≡ G (q, b))
    → flat_map F (enumerate_from p row) ≡ flat_map G (enumerate_from p row)
same_pieces F G p [] f = refl
same_pieces F G p (b ∷ row) f =
    let here = f p b (Stands-first p b row) in
    let more = same_pieces F G (p + 1) row (λ q c s. f q c (Stands-later p b row q c s)) in
    cc

pub Contains-flat_map : {X : Type 0} (F : ℕ × ℕ → List X) (p : ℕ) (row : List ℕ) (q b k : ℕ) (x : X) → q ≡ p + k → slice_get row k ≡ Some b
    → Contains (F (q, b)) x → Contains (flat_map F (enumerate_from p row)) x
Contains-flat_map F p [] q b k x n e h = absurd (let none : ⊥ = cc in none)
Contains-flat_map F p (c ∷ row) q b zero x n e h =
    let number : q ≡ p = omega arith in
    let same : F (q, b) ≡ F (p, c) = cc in
    Contains-append_left (F (p, c)) (flat_map F (enumerate_from (p + 1) row)) x (let P : List _ → Type 0 = λ l. Contains l x in
    subst P same h)
Contains-flat_map F p (c ∷ row) q b (suc k) x n e h = Contains-append_right (F (p, c)) (flat_map F (enumerate_from (p + 1) row)) x
    (Contains-flat_map F (p + 1) row q b k x (omega arith) e h)

-- what is left of an enumeration from a place on
pub enumerated_from : {Y : Type 0} (f : ℕ × ℕ → Y) (p : ℕ) (row : List ℕ) (k q : ℕ) → q ≡ p + k → k < length row
    → drop k (map f (enumerate_from p row)) ≡ f (q, get_or row k 0) ∷ drop (suc k) (map f (enumerate_from p row))
enumerated_from f p [] k q n lt = absurd (omega arith)
enumerated_from f p (b ∷ row) zero q n lt =
    let number : p ≡ q = omega arith in
    let same : f (p, b) ≡ f (q, b) = cc in
    ap (λ y. y ∷ map f (enumerate_from (p + 1) row)) same
enumerated_from f p (b ∷ row) (suc k) q n lt = enumerated_from f (p + 1) row k q (omega arith) (omega arith)

pub enumerated_all : {Y : Type 0} (f : ℕ × ℕ → Y) (p : ℕ) (row : List ℕ) → drop (length row) (map f (enumerate_from p row)) ≡ []
enumerated_all f p [] = refl
enumerated_all f p (b ∷ row) = enumerated_all f (p + 1) row

pub length-enumerated : {Y : Type 0} (f : ℕ × ℕ → Y) (p : ℕ) (row : List ℕ) → length (map f (enumerate_from p row)) ≡ length row
length-enumerated f p [] = refl
length-enumerated f p (b ∷ row) = ap suc (length-enumerated f (p + 1) row)

-- a list that is turned grows at its end where the other grows in front
pub reverse_more : {X : Type 0} (old xs ys : List X) (x : X) → ys ≡ x ∷ xs → (old ++ reverse xs) ++ x ∷ [] ≡ old ++ reverse ys
reverse_more old xs ys x e = append_assoc old (reverse xs) (x ∷ []) ∙ ap (λ l. old ++ l) (sym (reverse-append (x ∷ []) xs))
    ∙ ap (λ l. old ++ reverse l) (sym e)

-- pushed from the last number down, the entries of an enumeration stand the other way round
pub enumerated_pushed : {Y : Type 0} (f : ℕ × ℕ → Y) (row : List ℕ) (old items : List Y) (s k b : ℕ) (y : Y) → s ≡ suc k → k < length row
    → items ≡ old ++ reverse (drop s (map f (enumerate_from 0 row))) → b ≡ get_or row k 0 → y ≡ f (k, b)
    → items ++ y ∷ [] ≡ old ++ reverse (drop k (map f (enumerate_from 0 row)))
enumerated_pushed f row old items s k b y n lt before e here =
    let split : drop k (map f (enumerate_from 0 row))
    ≡ f (k, get_or row k 0) ∷ drop (suc k) (map f (enumerate_from 0 row)) = enumerated_from f 0 row k k (omega arith) lt in
    let entry : f (k, get_or row k 0) ≡ y = cc in
    let there : drop k (map f (enumerate_from 0 row)) ≡ y ∷ drop s (map f (enumerate_from 0 row)) = cc in
    ap (λ l. l ++ y ∷ []) before ∙ reverse_more old (drop s (map f (enumerate_from 0 row))) (drop k (map f (enumerate_from 0 row))) y there
