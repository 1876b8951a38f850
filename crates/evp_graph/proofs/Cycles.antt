-- Cycles: closed paths, begun at any of their stones.
use Rattle.std.proofs.Common.{◌≡◌, ◌≢◌, ℕ, suc, ◌<◌, ◌≤◌, List, [], ◌∷◌, ◌++◌, length, reverse, take, drop, get_or, refl, sym, ap, ◌∙◌}
use Rattle.std.proofs.Common.{subst, arith}
use Rattle.std.specs.List.{All}
use Rattle.std.proofs.lemmas.List.{append-nil, reverse-append, take-append-drop}
use Rattle.std.proofs.lemmas.List.Elements.{All-append, All-take, All-drop, All-tail, All-from_get_or}
use Rattle.std.proofs.Math.Seq.{drop-cons}
use Rattle.evp_graph.specs.Shape.{IsTarget, Leads, IsCycle}
use Rattle.evp_graph.specs.Search.{IsTurned, IsRotated}
use Rattle.evp_graph.proofs.Lists.{Ordered, Ordered-split, Ordered-swap, Ordered-reverse, AllPairs-from_recursion}
use Rattle.evp_graph.proofs.Paths.{Leads-append, Leads-split}

-- each stone is a target of the one behind it
abbrev pub Linked : List (List ℕ) → List ℕ → Type 0
Linked targets [] = Unit {0}
Linked targets (a ∷ []) = Unit {0}
Linked targets (a ∷ b ∷ rest) = IsTarget targets b a × Linked targets (b ∷ rest)

-- a path that ends where it begins
abbrev pub IsClosed : List (List ℕ) → List ℕ → Type 0
IsClosed targets [] = ⊥
IsClosed targets (a ∷ others) = Leads targets a others a

-- from a stone further back the path leads up to what the newest stone has as a target
pub Leads-turned : (targets : List (List ℕ)) (behind : List ℕ) (first : ℕ) (rest : List ℕ) (b : ℕ)
    → Linked targets (b ∷ (behind ++ first ∷ rest)) → Leads targets first (reverse behind) b
Leads-turned targets [] first rest b h = h.0
Leads-turned targets (x ∷ behind) first rest b h =
    let P : List ℕ → Type 0 = λ l. Leads targets first l b in
    subst P (sym (reverse-append (x ∷ []) behind))
    (Leads-append targets first (reverse behind) x [] b (Leads-turned targets behind first rest x h.1) h.0)

pub IsClosed-swap : (targets : List (List ℕ)) (xs ys : List ℕ) → IsClosed targets (xs ++ ys) → IsClosed targets (ys ++ xs)
IsClosed-swap targets [] ys h = let P : List ℕ → Type 0 = λ l. IsClosed targets l in subst P (sym (append-nil ys)) h
IsClosed-swap targets (a ∷ xs) [] h = let P : List ℕ → Type 0 = λ l. IsClosed targets l in subst P (append-nil (a ∷ xs)) h
IsClosed-swap targets (a ∷ xs) (m ∷ ys) h = let k = Leads-split targets a xs m ys a h in Leads-append targets m ys a xs m k.1 k.0

differ_both : (x y : ℕ) → x ≢ y → y ≢ x
differ_both x y h e = h (sym e)

-- the turned stones make a closed path of stones that differ
pub closed_from_turned : (targets : List (List ℕ)) (back : List ℕ) (first : ℕ) (stones : List ℕ) → Linked targets (first ∷ back)
    → Ordered ◌≢◌ back → IsTurned back first stones → IsClosed targets stones × Ordered ◌≢◌ stones × (0 < length stones)
closed_from_turned targets back first stones linked differ t =
    let L : List ℕ → Type 0 = λ l. Linked targets (first ∷ l) in
    let D : List ℕ → Type 0 = λ l. Ordered ◌≢◌ l in
    let C : List ℕ → Type 0 = λ l. IsClosed targets l in
    let there : Linked targets (first ∷ (t.behind ++ first ∷ t.rest)) = subst L t.split linked in
    let closed : IsClosed targets (first ∷ reverse t.behind) = Leads-turned targets t.behind first t.rest first there in
    let parted : Ordered ◌≢◌ ((t.behind ++ first ∷ []) ++ t.rest) = subst D (t.split ∙ regroup t.behind first t.rest) differ in
    let front : Ordered ◌≢◌ (t.behind ++ first ∷ []) = (Ordered-split ◌≢◌ (t.behind ++ first ∷ []) t.rest parted).0 in
    let turned : Ordered ◌≢◌ (reverse (t.behind ++ first ∷ [])) = Ordered-reverse ◌≢◌ differ_both (t.behind ++ first ∷ []) front in
    let apart : Ordered ◌≢◌ (first ∷ reverse t.behind) = subst D (reverse-append t.behind (first ∷ [])) turned in
    let many : 0 < length stones = omega (arith, ap length t.turned) in
    (subst C (sym t.turned) closed, subst D (sym t.turned) apart, many)
  where
    regroup : (u : List ℕ) (x : ℕ) (w : List ℕ) → u ++ x ∷ w ≡ (u ++ x ∷ []) ++ w
    regroup [] x w = refl
    regroup (y ∷ u) x w = ap (λ l. y ∷ l) (regroup u x w)

-- begun at its smallest stone a closed path of stones that differ is a cycle
pub IsCycle-from_rotated : (targets : List (List ℕ)) (stones rotated : List ℕ) → IsClosed targets stones → Ordered ◌≢◌ stones
    → IsRotated stones rotated → IsCycle targets rotated
IsCycle-from_rotated targets stones rotated closed differ r =
    let k = r.place in
    let m = get_or stones k 0 in
    let C : List ℕ → Type 0 = λ l. IsClosed targets l in
    let D : List ℕ → Type 0 = λ l. Ordered ◌≢◌ l in
    let A : List ℕ → Type 0 = λ l. All (λ s. m ≤ s) l in
    let Y : List ℕ → Type 0 = λ l. IsCycle targets l in
    let parts = take-append-drop k stones in
    let within : k < length stones = r.within in
    let head : drop k stones ++ take k stones
    ≡ m ∷ (drop (suc k) stones ++ take k stones) = ap (λ l. l ++ take k stones) (drop-cons stones k 0 within) in
    let around : IsClosed targets (drop k stones ++ take k stones) = IsClosed-swap targets (take k stones) (drop k stones)
    (subst C (sym parts) closed) in
    let apart : Ordered ◌≢◌ (drop k stones ++ take k stones) = Ordered-swap ◌≢◌ differ_both (take k stones) (drop k stones)
    (subst D (sym parts) differ) in
    let least : All (λ s. m ≤ s) stones = All-from_get_or (λ s. m ≤ s) stones 0 r.least in
    let above : All (λ s. m ≤ s) (drop k stones ++ take k stones) = All-append (λ s. m ≤ s) (drop k stones) (take k stones)
    (All-drop (λ s. m ≤ s) k stones least) (All-take (λ s. m ≤ s) k stones least) in
    let others = drop (suc k) stones ++ take k stones in
    subst Y (sym (r.joined ∙ head)) (
      subst C head around,
      AllPairs-from_recursion ◌≢◌ (m ∷ others) (subst D head apart),
      All-tail (λ s. m ≤ s) m others (subst A head above),
    )
