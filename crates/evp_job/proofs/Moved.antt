-- A loop that moves elements: what was made so far, followed by what the rest makes, is the whole.
use Rattle.std.proofs.Common.{◌≡◌, ℕ, ◌≤◌, List, [], ◌∷◌, ◌++◌, length, sym, ap, ◌∙◌, append_assoc, append-nil}
use Rattle.std.proofs.Common.{length-append, arith}
use Rattle.std.specs.List.{flat_map}
use Rattle.std.proofs.lemmas.List.{nil_from_length}

-- an element that makes one
pub moved_more : {A B : Type 0} (now later : List A → List B) (done more : List B) (before rest : List A) (x : A) (y : B)
    (total : List B) → before ≡ x ∷ rest → now (x ∷ rest) ≡ y ∷ later rest → more ≡ done ++ y ∷ [] → done ++ now before ≡ total
    → more ++ later rest ≡ total
moved_more now later done more before rest x y total begins one pushed so_far =
    ap (λ (list : List _). list ++ later rest) pushed ∙ append_assoc done (y ∷ []) (later rest)
    ∙ ap (λ (list : List _). done ++ list) (sym (ap now begins ∙ one)) ∙ so_far

-- one that makes several
pub joined_more : {A B : Type 0} (f : A → List B) (done more : List B) (before rest : List A) (x : A) (total : List B)
    → before ≡ x ∷ rest → more ≡ done ++ f x → done ++ flat_map f before ≡ total → more ++ flat_map f rest ≡ total
joined_more f done more before rest x total begins joined so_far =
    ap (λ (list : List _). list ++ flat_map f rest) joined ∙ append_assoc done (f x) (flat_map f rest)
    ∙ ap (λ (list : List _). done ++ list) (sym (ap (flat_map f) begins)) ∙ so_far

-- which are no more than the whole
pub joined_fits : {A B : Type 0} (f : A → List B) (done : List B) (before rest : List A) (x : A) (total : List B) (most : ℕ)
    → before ≡ x ∷ rest → done ++ flat_map f before ≡ total → length total ≤ most → length (done ++ f x) ≤ most
joined_fits f done before rest x total most begins so_far few =
    let whole = ap length (append_assoc done (f x) (flat_map f rest)
    ∙ ap (λ (list : List _). done ++ list) (sym (ap (flat_map f) begins)) ∙ so_far) in
    let parts = length-append (done ++ f x) (flat_map f rest) in
    omega (arith, whole, parts, few)

-- nothing is left
pub moved_all : {A B : Type 0} (now : List A → List B) (done : List B) (before : List A) (total : List B) → length before ≡ 0
    → now [] ≡ [] → done ++ now before ≡ total → done ≡ total
moved_all now done before total none nothing so_far =
    sym (append-nil done) ∙ ap (λ (list : List _). done ++ list) (sym (ap now (nil_from_length before none) ∙ nothing)) ∙ so_far
