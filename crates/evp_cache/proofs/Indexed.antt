-- What the index of a pass tells of its list.
use Rattle.std.proofs.Common.{◌≡◌, ℕ, suc, true, false, Bool, List, [], ◌∷◌, ◌++◌, Option, Some, None, length}
use Rattle.std.proofs.Common.{sym, refl, ◌∙◌, ap, arith, cond, map, subst, ◌-◌, ◌≢◌}
use Rattle.std.proofs.lemmas.Bool.Decides.{nat_tests}
use Rattle.std.proofs.lemmas.List.{map-append, length-map}
use Rattle.std.specs.Prelude.{slice_get, option_map}
use Rattle.evp_cache.specs.Known.{Known, is_pair, found_for, HasAt}
use Rattle.evp_cache.specs.declared.met.Met.{Met}
use Rattle.evp_cache.specs.Met.{either, known_of}
use Rattle.evp_cache.specs.Places.{place_at, position_of, counted, IsIndex, IsPlaced}

nowhere : (place : Option ℕ) → counted place ≡ 0 → place ≡ None
nowhere None is = refl
nowhere (Some n) is = absurd (grind (arith, is))

not_mapped : (place : Option ℕ) → option_map suc place ≡ None → place ≡ None
not_mapped None is = refl
not_mapped (Some n) is = absurd cc

-- what isn't there isn't known
unknown_by : (ks : List Known) (from to : ℕ) → position_of ks from to ≡ None → found_for ks from to ≡ None
unknown_by [] from to none = refl
unknown_by (k ∷ ks) from to none = elim (is_pair from to k) as (λ t. cond t (Some 0) (option_map suc (position_of ks from to)) ≡ None
    → cond t (Some k.found) (found_for ks from to) ≡ None)
    [ true ↦ λ is. absurd cc | false ↦ λ is. unknown_by ks from to (not_mapped _ is) ] none

pub unknown : (ks : List Known) (from to : ℕ) → counted (position_of ks from to) ≡ 0 → found_for ks from to ≡ None
unknown ks from to is = unknown_by ks from to (nowhere _ is)

absent : (ks : List Known) (from to : ℕ) → found_for ks from to ≡ None → position_of ks from to ≡ None
absent [] from to none = refl
absent (k ∷ ks) from to none = elim (is_pair from to k) as (λ t. cond t (Some k.found) (found_for ks from to) ≡ None
    → cond t (Some 0) (option_map suc (position_of ks from to)) ≡ None)
    [ true ↦ λ is. absurd cc | false ↦ λ is. ap (option_map suc) (absent ks from to is) ] none

moved : (place : Option ℕ) (t : Bool) (n : ℕ) → option_map suc (either place (cond t (Some n) None))
    ≡ either (option_map suc place) (cond t (Some (suc n)) None)
moved None true n = refl
moved None false n = refl
moved (Some k) t n = refl

-- behind the others
pub position_of-push : (ks : List Known) (k : Known) (from to : ℕ)
    → position_of (ks ++ k ∷ []) from to ≡ either (position_of ks from to) (cond (is_pair from to k) (Some (length ks)) None)
position_of-push [] k from to = refl
position_of-push (x ∷ xs) k from to = let rest = position_of-push xs k from to in
    elim (is_pair from to x) as (λ t. cond t (Some 0) (option_map suc (position_of (xs ++ k ∷ []) from to))
    ≡ either (cond t (Some 0) (option_map suc (position_of xs from to))) (cond (is_pair from to k) (Some (suc (length xs))) None))
    [ true ↦ refl | false ↦ ap (option_map suc) rest ∙ moved _ _ _ ]

-- whose pair it is
pub of_pair : (from to : ℕ) (k : Known) → is_pair from to k ≡ true → (k.from ≡ from) × (k.to ≡ to)
of_pair from to k is = let f : k.from ≡ from = grind (arith, nat_tests, is) in let t : k.to ≡ to = grind (arith, nat_tests, is) in (f, t)

first_place : (n : ℕ) → Some 0 ≡ Some n → n ≡ 0
first_place n is = cc

further : (place : Option ℕ) (n : ℕ) → option_map suc place ≡ Some n → (m : ℕ) × (place ≡ Some m) × (n ≡ suc m)
further None n is = absurd cc
further (Some m) n is = (m, refl, cc)

found_at : (ks : List Known) (k : Known) (from to place : ℕ) → (t : Bool) → is_pair from to k ≡ t
    → ((n : ℕ) → position_of ks from to ≡ Some n → HasAt ks n from to)
    → cond t (Some 0) (option_map suc (position_of ks from to)) ≡ Some place → HasAt (k ∷ ks) place from to
found_at ks k from to place true is rest there = let pair = of_pair from to k is in record {
  entry = k;
  there = rw (first_place _ there) refl;
  from_is = pair.0;
  to_is = pair.1;
  first = rw is refl;
}
found_at ks k from to place false is rest there =
    let (n, at, next) = further _ _ there in
    let found = rest n at in record {
      entry = found.entry;
      there = subst (λ (p : ℕ). slice_get (k ∷ ks) p ≡ Some found.entry) (sym next) found.there;
      from_is = found.from_is;
      to_is = found.to_is;
      first = rw is found.first;
    }

pub found_there : (ks : List Known) (from to place : ℕ) → position_of ks from to ≡ Some place → HasAt ks place from to
found_there [] from to place there = absurd cc
found_there (k ∷ ks) from to place there = found_at ks k from to place _ refl (λ n. found_there ks from to n) there

alone : (place : Option ℕ) → either place None ≡ place
alone None = refl
alone (Some n) = refl

place_more : (ks : List Known) (k : Known) (from to : ℕ) (t : Bool) → is_pair from to k ≡ t → found_for ks k.from k.to ≡ None
    → cond t (suc (length ks)) (counted (position_of ks from to)) ≡ counted (either (position_of ks from to) (cond t (Some (length ks)) None))
place_more ks k from to true is none = let pair = of_pair from to k is in
    let gone = absent ks from to (subst (λ f. found_for ks f to ≡ None) pair.0 (subst (λ t. found_for ks k.from t ≡ None) pair.1 none)) in
    rw gone refl
place_more ks k from to false is none = ap counted (sym (alone _))

-- an entry more, and its place
pub index_more : (old new : List (List ℕ)) (ks : List Known) (k : Known) → found_for ks k.from k.to ≡ None
    → IsIndex old ks → IsPlaced old new k.from k.to (suc (length ks)) → IsIndex new (ks ++ k ∷ [])
index_more old new ks k none index placed from to =
    placed from to ∙ ap (cond (is_pair from to k) (suc (length ks))) (index from to)
    ∙ place_more ks k from to _ refl none ∙ ap counted (sym (position_of-push ks k from to))

counted_from : (place : Option ℕ) (n : ℕ) → counted place ≡ n → n ≢ 0 → place ≡ Some (n - 1)
counted_from None n is some = absurd (some (sym is))
counted_from (Some m) n is some = ap Some (grind (arith, is))

-- by the place that the index tells
pub told : (rows : List (List ℕ)) (ks : List Known) (from to place : ℕ) → IsIndex rows ks → place ≡ place_at rows from to → place ≢ 0
    → HasAt ks (place - 1) from to
told rows ks from to place index is some = found_there ks from to (place - 1) (counted_from _ place (sym (is ∙ index from to)) some)

-- a pair more that was met
pub met_more : (old new : List (List ℕ)) (ms : List Met) (met : Met) (place : ℕ) → place ≡ suc (length ms)
    → IsIndex old (map known_of ms) → IsPlaced old new met.from met.to place → found_for (map known_of ms) met.from met.to ≡ None
    → IsIndex new (map known_of (ms ++ met ∷ []))
met_more old new ms met place is index placed none = subst (IsIndex new) (sym (map-append known_of ms (met ∷ [])))
    (index_more old new (map known_of ms) (known_of met) none index
    (subst (IsPlaced old new met.from met.to) (is ∙ ap suc (sym (length-map ms known_of))) placed))
