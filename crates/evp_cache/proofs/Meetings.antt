-- What a pass knows once it has met a pair.
use Rattle.std.proofs.Common.{◌≡◌, ℕ, ◌+◌, ◌<◌, Bool, true, false, cond, List, [], ◌∷◌, ◌++◌, Option, Some, None, length}
use Rattle.std.proofs.Common.{sym, refl, ap, ◌∙◌, subst, arith, inl, inr, ⊎_elim}
use Rattle.std.proofs.lemmas.Bool.{false≢true}
use Rattle.std.proofs.lemmas.Bool.Decides.{nat_tests}
use Rattle.std.proofs.lemmas.List.{length-append}
use Rattle.std.proofs.lemmas.List.Elements.{All-push, All-get_or}
use Rattle.std.proofs.lemmas.Option.{slice_get_within, get_or_from_slice_get, slice_get_read}
use Rattle.std.specs.List.{All}
use Rattle.std.specs.Prelude.{slice_get, slice_index_or, is_some, IsSome, IfSome, ◌⊎◌}
use Rattle.std.specs.Global.{Box}
use Rattle.evp_format.specs.Layout.{Layout}
use Rattle.evp_cache.specs.declared.found.Found.{Found}
use Rattle.evp_cache.specs.declared.met.Met.{Met}
use Rattle.evp_cache.specs.Finding.{Finding, IsFound, IsOf}
use Rattle.evp_cache.specs.Known.{Cells, Known, is_pair, found_for, AreApart, HasAt, IsCellOf, IsFoundFor, IsRight, IsPassOf, IsMeeting, Learned}
use Rattle.evp_cache.specs.Met.{either, cell_of, found_of, kept_of, known_of, IsMet}
use Rattle.evp_cache.proofs.Indexed.{of_pair}

same : {X : Type 0} (x y : X) → Some x ≡ Some y → x ≡ y
same x y is = cc

is_of : (from to : ℕ) (k : Known) → k.from ≡ from → k.to ≡ to → is_pair from to k ≡ true
is_of from to k f t = grind (arith, nat_tests, f, t)

-- behind the others
found_for-push : (ks : List Known) (k : Known) (a b : ℕ)
    → found_for (ks ++ k ∷ []) a b ≡ either (found_for ks a b) (cond (is_pair a b k) (Some k.found) None)
found_for-push [] k a b = refl
found_for-push (x ∷ xs) k a b = elim (is_pair a b x) as (λ t. cond t (Some x.found) (found_for (xs ++ k ∷ []) a b)
    ≡ either (cond t (Some x.found) (found_for xs a b)) (cond (is_pair a b k) (Some k.found) None))
    [ true ↦ refl | false ↦ found_for-push xs k a b ]

pub there : (ks : List Known) (k : Known) → slice_get (ks ++ k ∷ []) (length ks) ≡ Some k
there [] k = refl
there (x ∷ xs) k = there xs k

pub known_last : (ks : List Known) (k : Known) (from to : ℕ) → k.from ≡ from → k.to ≡ to → found_for ks from to ≡ None
    → found_for (ks ++ k ∷ []) from to ≡ Some k.found
known_last ks k from to f t none = found_for-push ks k from to
    ∙ ap (λ (earlier : Option Found). either earlier (cond (is_pair from to k) (Some k.found) None)) none
    ∙ ap (λ (t : Bool). cond t (Some k.found) None) (is_of from to k f t)

-- what was added is there
unfoldable pub added : (ks : List Known) (k : Known) (from to place : ℕ) → k.from ≡ from → k.to ≡ to → found_for ks from to ≡ None
    → place ≡ length ks → HasAt (ks ++ k ∷ []) place from to
added ks k from to place f t none is = record {
  entry = k;
  there = subst (λ (n : ℕ). slice_get (ks ++ k ∷ []) n ≡ Some k) (sym is) (there ks k);
  from_is = f;
  to_is = t;
  first = known_last ks k from to f t none;
}

cell_named : (own : Option (Box Finding)) (cell name : ℕ) → cell ≡ name → IfSome (cell_of own cell) (λ cell. cell ≡ name)
cell_named None cell name is = is
cell_named (Some own) cell name is = tt

-- a pair that was met is added
pub met_first : (old new : List Known) (from to name place : ℕ) (sender receiver : Layout) (met : Met) → IsMet from to name met
    → IsOf sender receiver (kept_of met) → found_for old from to ≡ None → new ≡ old ++ known_of met ∷ [] → place ≡ length old
    → IsMeeting old new from to name sender receiver place
unfolding added
met_first old new from to name place sender receiver met is kept none grown last =
    let (f, t, named) = is in subst (λ (ks : List Known). IsMeeting old ks from to name sender receiver place) (sym grown) (record {
      at = added old (known_of met) from to place f t none last;
      how = inr (
        none,
        refl,
        cell_named met.own met.note.cell name named,
        subst (λ (k : Option Finding). IsFound sender receiver (found_of k)) (sym kept.there) kept.right,
      );
    })

-- or is there already
pub met_before : (ks : List Known) (from to name place : ℕ) (sender receiver : Layout) → HasAt ks place from to
    → IsMeeting ks ks from to name sender receiver place
met_before ks from to name place sender receiver at = record { at = at; how = inl (refl, ap is_some at.first) }

differs : (x k : Known) → is_pair k.from k.to x ≡ false → is_pair x.from x.to k ≡ false
differs x k other = grind (arith, nat_tests, other)

behind : (x : Known) (xs : List Known) (a b : ℕ) → found_for (x ∷ xs) a b ≡ None → (is_pair a b x ≡ false) × (found_for xs a b ≡ None)
behind x xs a b none = elim (is_pair a b x) as (λ t. cond t (Some x.found) (found_for xs a b) ≡ None → (t ≡ false) × (found_for xs a b ≡ None))
    [ true ↦ λ is. absurd cc | false ↦ λ is. (refl, is) ] none

apart_more : (ks : List Known) (k : Known) → AreApart ks → found_for ks k.from k.to ≡ None → AreApart (ks ++ k ∷ [])
apart_more [] k apart none = (refl, tt)
apart_more (x ∷ xs) k apart none =
    let rest = behind x xs k.from k.to none in (
      found_for-push xs k x.from x.to ∙ ap (λ (earlier : Option Found). either earlier (cond (is_pair x.from x.to k) (Some k.found) None)) apart.0
          ∙ ap (λ (t : Bool). cond t (Some k.found) None) (differs x k rest.0),
      apart_more xs k apart.1 rest.1,
    )

no_more : (n : ℕ) → n + 0 ≡ n
no_more n = omega arith

-- nothing new
again : (ks : List Known) (from to : ℕ) (found : Found) → found_for ks from to ≡ Some found → Learned ks ks from to found
again ks from to found is = record {
  knows = is;
  kept = λ a b earlier was. was;
  alone = λ a b none some. absurd (false≢true (sym (ap is_some none) ∙ some));
  count = sym (ap (λ (known : Option Found). length ks + cond (is_some known) 0 1) is ∙ no_more _);
}

new_pair : (k : Known) (from to a b : ℕ) (t : Bool) → is_pair a b k ≡ t → k.from ≡ from → k.to ≡ to → IsSome (cond t (Some k.found) None)
    → (a ≡ from) × (b ≡ to)
new_pair k from to a b true is f t some = let pair = of_pair a b k is in (sym pair.0 ∙ f, sym pair.1 ∙ t)
new_pair k from to a b false is f t some = absurd (false≢true some)

one_more : (ks : List Known) (k : Known) (from to : ℕ) → found_for ks from to ≡ None → k.from ≡ from → k.to ≡ to
    → Learned ks (ks ++ k ∷ []) from to k.found
one_more ks k from to none f t = record {
  knows = known_last ks k from to f t none;
  kept = λ a b earlier was. found_for-push ks k a b ∙ ap (λ (known : Option Found). either known (cond (is_pair a b k) (Some k.found) None)) was;
  alone = λ a b unknown some. new_pair k from to a b _ refl f t
      (subst (λ (known : Option Found). IsSome (either known (cond (is_pair a b k) (Some k.found) None))) unknown
      (subst (λ (known : Option Found). IsSome known) (found_for-push ks k a b) some));
  count = length-append ks (k ∷ []) ∙ ap (λ (known : Option Found). length ks + cond (is_some known) 0 1) (sym none);
}

-- what is right stays right
right_for : (formats : List Layout) (from to : ℕ) (sender receiver : Layout) (k : Known) → k.from ≡ from → k.to ≡ to
    → slice_get formats from ≡ Some sender → slice_get formats to ≡ Some receiver → IsFound sender receiver k.found
    → IsFoundFor formats k.from k.to k.found
right_for formats from to sender receiver k f t s r right = record {
  sender = sender;
  receiver = receiver;
  sender_is = ap (slice_get formats) f ∙ s;
  receiver_is = ap (slice_get formats) t ∙ r;
  right = right;
}

-- a pass stays one of its cache, and has learned the pair
pub record Taught (cells : Cells) (formats : List Layout) (old new : List Known) (from to : ℕ) (found : Found) : Type 0 where
  pub pass : IsPassOf cells formats new
  pub learned : Learned old new from to found
  pub right : IsFoundFor formats from to found

at_place : {X : Type 0} (P : X → Type 0) (xs : List X) (k : ℕ) (x : X) → slice_get xs k ≡ Some x → All P xs → P x
at_place P xs k x is all = subst P (get_or_from_slice_get xs k x x is) (All-get_or P xs k x (slice_get_within xs k x is) all)

right_cell : (cells : Cells) (from to name : ℕ) (cell : Option ℕ) → IsCellOf cells from to name → IfSome cell (λ c. c ≡ name)
    → IfSome cell (IsCellOf cells from to)
right_cell cells from to name None is cell = tt
right_cell cells from to name (Some c) is cell = subst (IsCellOf cells from to) (sym cell) is

entry_right : (cells : Cells) (formats : List Layout) (from to : ℕ) (k : Known) → k.from ≡ from → k.to ≡ to → IfSome k.cell (IsCellOf cells from to)
    → IsFoundFor formats k.from k.to k.found → IsRight cells formats k
entry_right cells formats from to k f t cell found = record {
  cell = subst (λ (a : ℕ). IfSome k.cell (IsCellOf cells a k.to)) (sym f) (subst (λ (b : ℕ). IfSome k.cell (IsCellOf cells from b)) (sym t) cell);
  found = found;
}

renumbered : (formats : List Layout) (from to : ℕ) (k : Known) → k.from ≡ from → k.to ≡ to → IsFoundFor formats k.from k.to k.found
    → IsFoundFor formats from to k.found
renumbered formats from to k f t is = subst (λ (a : ℕ). IsFoundFor formats a to k.found) f (subst (λ (b : ℕ). IsFoundFor formats k.from b k.found) t is)

taught_again : (cells : Cells) (formats : List Layout) (old new : List Known) (from to place : ℕ) (at : HasAt new place from to)
    → IsPassOf cells formats old → new ≡ old → Taught cells formats old new from to at.entry.found
taught_again cells formats old new from to place at pass same =
    let now : IsPassOf cells formats new = subst (IsPassOf cells formats) (sym same) pass in record {
      pass = now;
      learned = subst (λ (before : List Known). Learned before new from to at.entry.found) same (again new from to at.entry.found at.first);
      right = renumbered formats from to at.entry at.from_is at.to_is (at_place (IsRight cells formats) new place at.entry at.there now.each).found;
    }

taught_first : (cells : Cells) (formats : List Layout) (old : List Known) (from to name : ℕ) (sender receiver : Layout) (k : Known)
    → slice_get formats from ≡ Some sender → slice_get formats to ≡ Some receiver → IsCellOf cells from to name
    → IsPassOf cells formats old → k.from ≡ from → k.to ≡ to → found_for old from to ≡ None → IfSome k.cell (λ c. c ≡ name)
    → IsFound sender receiver k.found → Taught cells formats old (old ++ k ∷ []) from to k.found
taught_first cells formats old from to name sender receiver k s r cell pass f t none named right =
    let found = right_for formats from to sender receiver k f t s r right in
    let unknown : found_for old k.from k.to ≡ None =
    subst (λ (a : ℕ). found_for old a k.to ≡ None) (sym f) (subst (λ (b : ℕ). found_for old from b ≡ None) (sym t) none) in record {
      pass = record {
        each = All-push (IsRight cells formats) old k pass.each
            (entry_right cells formats from to k f t (right_cell cells from to name k.cell cell named) found);
        apart = apart_more old k pass.apart unknown;
      };
      learned = one_more old k from to none f t;
      right = renumbered formats from to k f t found;
    }

pub taught : (cells : Cells) (formats : List Layout) (old new : List Known) (from to name place : ℕ) (sender receiver : Layout)
    → slice_get formats from ≡ Some sender → slice_get formats to ≡ Some receiver → IsCellOf cells from to name
    → IsPassOf cells formats old → (m : IsMeeting old new from to name sender receiver place) → Taught cells formats old new from to m.at.entry.found
taught cells formats old new from to name place sender receiver s r cell pass m =
    ⊎_elim (λ h. taught_again cells formats old new from to place m.at pass h.0)
    (λ (none, grown, named, right). subst (λ (now : List Known). Taught cells formats old now from to m.at.entry.found) (sym grown)
    (taught_first cells formats old from to name sender receiver m.at.entry s r cell pass m.at.from_is m.at.to_is none named right))
    m.how

-- the answer is what was known before
pub as_known : (old new : List Known) (from to : ℕ) (found earlier : Found) → Learned old new from to found → found_for old from to ≡ Some earlier
    → found ≡ earlier
as_known old new from to found earlier learned was = same _ _ (sym learned.knows ∙ learned.kept from to earlier was)

-- where it was known nothing else came
pub not_new : (known : Option Found) (earlier : Found) (P : Type 0) → (known ≡ None) ⊎ P → known ≡ Some earlier → P
not_new known earlier P either was = ⊎_elim (λ none. absurd (false≢true (sym (ap is_some none) ∙ ap is_some was))) (λ p. p) either

-- the format of a number
pub format_at : (formats : List Layout) (n index : ℕ) (layout : Layout) → n < length formats → index ≡ n
    → layout ≡ slice_index_or formats index layout → slice_get formats n ≡ Some layout
format_at formats n index layout inside at is =
    slice_get_read formats (length formats) n layout refl inside (is ∙ ap (λ (k : ℕ). slice_index_or formats k layout) at)
