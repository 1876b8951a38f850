-- A conversion, and what steps find and write for it: how agreement of the parts makes agreement of the whole.
use Rattle.std.proofs.Common.{◌≡◌, ℕ, ◌+◌, Bool, true, false, nat_lt, List, ◌++◌, length, Option, Some, None, refl}
use Rattle.std.proofs.Common.{sym, ap, ◌∙◌, subst, arith}
use Rattle.evp_format.specs.declared.place.PlaceStep.{PlaceStep}
use Rattle.evp_format.specs.Bytes.{next_block}
use Rattle.evp_format.specs.Converting.{Made, made, unfit, large, then_make, unless_unfit, unless_large, make_text}
use Rattle.evp_format.specs.Datum.{Datum, num, null, text, list, rec}
use Rattle.evp_format.specs.Packing.{Pieces, Machine, then_pack, pack_text}
use Rattle.evp_plan.specs.Measuring.{sized}
use Rattle.evp_plan.specs.Moving.{or_null}

-- a value is found with its size, and its pieces are written; a fault is found
abbrev pub Agrees : {A : Type 0} → Made A → (A → Pieces) → Made (Unit {0}) → Pieces → Type 0
Agrees {A} (made a size) packs found wrote = (found ≡ made tt size) × (wrote ≡ packs a) × ((packs a).size ≡ size)
Agrees {A} (unfit place) packs found wrote = found ≡ unfit place
Agrees {A} (large place) packs found wrote = found ≡ large place

pub Agrees-unless_unfit : {A : Type 0} (test : Bool) (place : List PlaceStep) (next : Unit {0} → Made A) (packs : A → Pieces)
    (found : Unit {0} → Made (Unit {0})) (wrote : Pieces)
    → (test ≡ false → Agrees (next tt) packs (found tt) wrote) → Agrees (unless_unfit test place next) packs (unless_unfit test place found)
    wrote
Agrees-unless_unfit true place next packs found wrote agrees = refl
Agrees-unless_unfit false place next packs found wrote agrees = agrees refl

pub Agrees-unless_large : {A : Type 0} (test : Bool) (place : List PlaceStep) (next : Unit {0} → Made A) (packs : A → Pieces)
    (found : Unit {0} → Made (Unit {0})) (wrote : Pieces)
    → Agrees (next tt) packs (found tt) wrote → Agrees (unless_large test place next) packs (unless_large test place found) wrote
Agrees-unless_large true place next packs found wrote agrees = refl
Agrees-unless_large false place next packs found wrote agrees = agrees

-- what is found is the conversion's size
pub Agrees-sized : {A : Type 0} (x : Made A) (packs : A → Pieces) (wrote : Pieces)
    → ((a : A) (size : ℕ) → x ≡ made a size → (wrote ≡ packs a) × ((packs a).size ≡ size))
    → Agrees x packs (sized x) wrote
Agrees-sized (made a size) packs wrote holds = let h = holds a size refl in (refl, h.0, h.1)
Agrees-sized (unfit place) packs wrote holds = refl
Agrees-sized (large place) packs wrote holds = refl

-- along equations
pub Agrees-along : {A : Type 0} (x x' : Made A) (packs : A → Pieces) (found found' : Made (Unit {0})) (wrote wrote' : Pieces) → x' ≡ x
    → found' ≡ found → wrote' ≡ wrote
    → Agrees x packs found wrote → Agrees x' packs found' wrote'
Agrees-along x x' packs found found' wrote wrote' same same' same'' agrees =
    let P : Made _ → Type 0 = λ m. Agrees m packs found' wrote' in
    let P' : Made (Unit {0}) → Type 0 = λ m. Agrees x packs m wrote' in
    let P'' : Pieces → Type 0 = λ w. Agrees x packs found w in
    subst P (sym same) (subst P' (sym same') (subst P'' (sym same'') agrees))

-- a value put into another
pub Agrees-map : {A B : Type 0} (x : Made A) (wrap : A → B) (packs : A → Pieces) (packs' : B → Pieces) (found : Made (Unit {0}))
    (wrote : Pieces) → ((a : A) → packs' (wrap a) ≡ packs a)
    → Agrees x packs found wrote → Agrees (then_make x (λ a after. made (wrap a) after)) packs' found wrote
Agrees-map (made a size) wrap packs packs' found wrote same agrees =
    (agrees.0, agrees.1 ∙ sym (same a), ap (λ (p : Pieces). p.size) (same a) ∙ agrees.2)
Agrees-map (unfit place) wrap packs packs' found wrote same agrees = agrees
Agrees-map (large place) wrap packs packs' found wrote same agrees = agrees

pub then_pack-same : (wrote packed : Pieces) (rest rest' : ℕ → Pieces) → wrote ≡ packed → rest packed.size ≡ rest' packed.size
    → then_pack wrote rest ≡ then_pack packed rest'
then_pack-same wrote packed rest rest' same behind =
    ap (λ (p : Pieces). then_pack p rest) same ∙ ap (λ (p : Pieces). record { all = packed.all ++ p.all; size = p.size }) behind

joined : {A B C : Type 0} (a : A) (size : ℕ) (y : Made B) (join : A → B → C) (packA : A → Pieces) (packB : ℕ → B → Pieces)
    (packC : C → Pieces)
    (found : Made (Unit {0})) (found' : ℕ → Made (Unit {0})) (wrote : Pieces) (wrote' : ℕ → Pieces)
    → ((a : A) (b : B) → packC (join a b) ≡ then_pack (packA a) (λ after. packB after b))
    → Agrees (made a size) packA found wrote → Agrees y (packB size) (found' size) (wrote' size)
    → Agrees (then_make y (λ b end. made (join a b) end)) packC (then_make found (λ _ after. found' after)) (then_pack wrote wrote')
joined a size (made b end) join packA packB packC found found' wrote wrote' law first rest =
    let found_is : then_make found (λ _ after. found' after) ≡ made tt end = ap
    (λ (m : Made (Unit {0})). then_make m (λ _ after. found' after)) first.0 ∙ rest.0 in
    let behind : wrote' (packA a).size ≡ packB (packA a).size b = ap wrote' first.2 ∙ rest.1 ∙ sym (ap (λ (n : ℕ). packB n b) first.2) in
    let wrote_is : then_pack wrote wrote' ≡ packC (join a b) = then_pack-same wrote (packA a) wrote' (λ after. packB after b) first.1 behind
    ∙ sym (law a b) in
    let size_is : (packC (join a b)).size ≡ end = ap (λ (p : Pieces). p.size) (law a b) ∙ ap (λ (n : ℕ). (packB n b).size) first.2
    ∙ rest.2 in
    (found_is, wrote_is, size_is)
joined a size (unfit place) join packA packB packC found found' wrote wrote' law first rest = ap
    (λ (m : Made (Unit {0})). then_make m (λ _ after. found' after)) first.0 ∙ rest
joined a size (large place) join packA packB packC found found' wrote wrote' law first rest = ap
    (λ (m : Made (Unit {0})). then_make m (λ _ after. found' after)) first.0 ∙ rest

-- two values, the second behind the first
pub Agrees-pair : {A B C : Type 0} (x : Made A) (f : ℕ → Made B) (join : A → B → C) (packA : A → Pieces) (packB : ℕ → B → Pieces)
    (packC : C → Pieces)
    (found : Made (Unit {0})) (found' : ℕ → Made (Unit {0})) (wrote : Pieces) (wrote' : ℕ → Pieces)
    → ((a : A) (b : B) → packC (join a b) ≡ then_pack (packA a) (λ after. packB after b))
    → Agrees x packA found wrote → ((after : ℕ) → Agrees (f after) (packB after) (found' after) (wrote' after))
    → Agrees (then_make x (λ a after. then_make (f after) (λ b end. made (join a b) end))) packC (then_make found (λ _ after. found' after))
    (then_pack wrote wrote')
Agrees-pair (made a size) f join packA packB packC found found' wrote wrote' law first rest =
    joined a size (f size) join packA packB packC found found' wrote wrote' law first (rest size)
Agrees-pair (unfit place) f join packA packB packC found found' wrote wrote' law first rest = ap
    (λ (m : Made (Unit {0})). then_make m (λ _ after. found' after)) first
Agrees-pair (large place) f join packA packB packC found found' wrote wrote' law first rest = ap
    (λ (m : Made (Unit {0})). then_make m (λ _ after. found' after)) first

-- ---- texts

-- what a block is taken for was made
block_made : {A : Type 0} (test : Bool) (place : List PlaceStep) (a b : A) (size after : ℕ)
    → unless_large test place (λ _. made a size) ≡ made b after → (a ≡ b) × (size ≡ after)
block_made true place a b size after is = cc
block_made false place a b size after is = let same : a ≡ b = cc in let end : size ≡ after = cc in (same, end)

text_as : (machine : Machine) (t : ℕ) (d datum : Datum) (wrote : Pieces) (size end after : ℕ) → wrote ≡ pack_text machine t d size
    → (pack_text machine t d size).size ≡ end → d ≡ datum → end ≡ after
    → (wrote ≡ pack_text machine t datum size) × ((pack_text machine t datum size).size ≡ after)
text_as machine t d datum wrote size end after wrote_is size_is same ends =
    let packs : Datum → Pieces = λ d. pack_text machine t d size in
    (wrote_is ∙ ap packs same, sym (ap (λ (d : Datum). (packs d).size) same) ∙ size_is ∙ ends)

text_made : (limit : ℕ) (place : List PlaceStep) (partner : Option Datum) (size : ℕ) (machine : Machine) (t : ℕ) (datum : Datum) (after : ℕ)
    → make_text limit place partner size ≡ made datum after
    → (pack_text machine t (or_null partner) size ≡ pack_text machine t datum size) × ((pack_text machine t datum size).size ≡ after)
text_made limit place None size machine t datum after is =
    let same : null ≡ datum = cc in let ends : size ≡ after = cc in text_as machine t null datum (pack_text machine t null size) size size
    after refl refl same ends
text_made limit place (Some (text bytes)) size machine t datum after is =
    let b = block_made (nat_lt limit (next_block size + (length bytes + 1))) place (text bytes) datum (next_block size + (length bytes + 1))
    after is in
    let end : next_block size + length bytes + 1 ≡ next_block size + (length bytes + 1) = omega arith in
    text_as machine t (text bytes) datum (pack_text machine t (text bytes) size) size (next_block size + (length bytes + 1)) after refl end
    b.0 b.1
text_made limit place (Some null) size machine t datum after is =
    let same : null ≡ datum = cc in let ends : size ≡ after = cc in text_as machine t null datum (pack_text machine t null size) size size
    after refl refl same ends
text_made limit place (Some (num n)) size machine t datum after is =
    let same : null ≡ datum = cc in let ends : size ≡ after = cc in text_as machine t null datum (pack_text machine t (num n) size) size
    size after refl refl same ends
text_made limit place (Some (list elements)) size machine t datum after is =
    let same : null ≡ datum = cc in let ends : size ≡ after = cc in text_as machine t null datum (pack_text machine t (list elements) size)
    size size after refl refl same ends
text_made limit place (Some (rec entries)) size machine t datum after is =
    let same : null ≡ datum = cc in let ends : size ≡ after = cc in text_as machine t null datum (pack_text machine t (rec entries) size)
    size size after refl refl same ends

pub Agrees-text : (limit : ℕ) (place : List PlaceStep) (partner : Option Datum) (size : ℕ) (machine : Machine) (t : ℕ)
    → Agrees (make_text limit place partner size) (λ datum. pack_text machine t datum size) (sized (make_text limit place partner size))
    (pack_text machine t (or_null partner) size)
Agrees-text limit place partner size machine t =
    Agrees-sized (make_text limit place partner size) (λ datum. pack_text machine t datum size) (pack_text machine t (or_null partner) size)
    (λ datum after is. text_made limit place partner size machine t datum after is)
