-- What an action's work gives, from what its parts give.
use Rattle.std.proofs.Common.{◌≡◌, ℕ, ◌<◌, List, [], ◌∷◌, Result, Ok, Err, Option, Some, None, sym}
use Rattle.std.proofs.Common.{ap, refl, ◌∙◌, subst, slice_get, arith}
use Rattle.std.proofs.lemmas.Bool.{false≢true}
use Rattle.std.proofs.lemmas.Option.{slice_get_within}
use Rattle.std.specs.List.{Contains}
use Rattle.std.specs.Prelude.{IsOk, IsSome}
use Rattle.evp_action.specs.declared.acted.Acted.{Acted}
use Rattle.evp_action.specs.declared.acted.Reason.{Reason}
use Rattle.evp_action.specs.declared.action.Action.{Action}
use Rattle.evp_action.specs.declared.refusal.Refusal.{Refusal}
use Rattle.evp_action.specs.declared.refusal.Refusal.TheVariants.{Cause, Memory}
use Rattle.evp_action.specs.Acting.{act, converting}
use Rattle.evp_action.specs.Asking.{pairs_of, Keeps, Asks, AsksOnly, BuildsFor}
use Rattle.evp_action.specs.Converted.{CanAsk, IsInto, IsCause, IsRefused, spare}
use Rattle.evp_action.specs.Outcome.{Outcome, refused}
use Rattle.evp_action.specs.Performed.{HasValue, IsComeOf}
use Rattle.evp_action.specs.Working.{IsAnswer, Works}
use Rattle.evp_action.proofs.Conversions.{goes_on}
use Rattle.evp_cache.specs.declared.found.Found.{Found}
use Rattle.evp_cache.specs.Known.{Cells, Known, found_for, IsCacheOf, IsPassOf}
use Rattle.evp_format.specs.declared.broken.Broken.{Broken}
use Rattle.evp_format.specs.Datum.{Datum}
use Rattle.evp_format.specs.Layout.{Layout}
use Rattle.evp_format.specs.Viewing.{view}
use Rattle.evp_record.specs.Owned.{HasValueIn}
use Rattle.evp_record.specs.OwnedBytes.{OwnedBytes}

-- a record that has a value has this one
pub record Valued (formats : List Layout) (owned : OwnedBytes) : Type 0 where
  pub value : Datum
  pub has : HasValue formats owned value

pub valued : (formats : List Layout) (owned : OwnedBytes) → HasValueIn formats owned → Valued formats owned
valued formats owned is = read (view is.layout owned.bytes) refl is.viewed
  where
    read : (r : Result Datum Broken) → view is.layout owned.bytes ≡ r → IsOk r → Valued formats owned
    read (Ok value) same ok = record { value = value; has = record { layout = is.layout; there = is.there; viewed = same } }
    read (Err fault) same ok = cc

-- a pass may be asked for the record's format and a declared one
pub can_ask : (cells : Cells) (formats : List Layout) (ks : List Known) (owned : OwnedBytes) (to : ℕ) → IsCacheOf cells formats
    → IsPassOf cells formats ks → HasValueIn formats owned → to < cells.declared → CanAsk cells formats ks owned.format to
can_ask cells formats ks owned to whole right has below =
    record { whole = whole; sender = slice_get_within formats owned.format has.layout has.there; receiver = below; right = right }

-- the value of what was converted
pub into_value : (formats : List Layout) (from to limit : ℕ) (value : Datum) (owned : OwnedBytes)
    → (is : IsInto formats from to limit value owned)
    → HasValue formats owned is.value_made
into_value formats from to limit value owned is = record {
  layout = is.converted.receiver;
  there = ap (slice_get formats) is.numbered ∙ is.converted.receiver_is;
  viewed = is.viewed;
}

pub into_known : (formats : List Layout) (owned : OwnedBytes) (value : Datum) → HasValue formats owned value → HasValueIn formats owned
into_known formats owned value has = record { layout = has.layout; there = has.there; viewed = subst IsOk (sym has.viewed) refl }

-- what comes through a conversion
pub comes : (formats : List Layout) (from to limit : ℕ) (value : Datum) (owned : OwnedBytes) (what : ℕ → Datum → Outcome)
    → IsInto formats from to limit value owned
    → IsComeOf formats (converting (slice_get formats from) (slice_get formats to) limit value (what to)) what owned
comes formats from to limit value owned what is = record {
  value = is.value_made;
  has = into_value formats from to limit value owned is;
  is = goes_on formats from to limit value is.value_made is.converted (what to) ∙ ap (λ (n : ℕ). what n is.value_made) (sym is.numbered);
}

-- what is done with it
pub done_with : (formats : List Layout) (from to limit : ℕ) (value : Datum) (owned : OwnedBytes) (next : ℕ → Datum → Outcome)
    (answer : Result Acted Refusal)
    → IsInto formats from to limit value owned
    → ((made : Datum) → HasValue formats owned made → IsAnswer formats (next owned.format made) answer)
    → IsAnswer formats (converting (slice_get formats from) (slice_get formats to) limit value (next to)) answer
done_with formats from to limit value owned next answer is does =
    subst (λ (outcome : Outcome). IsAnswer formats outcome answer)
    (ap (λ (n : ℕ). next n is.value_made) is.numbered ∙ sym (goes_on formats from to limit value is.value_made is.converted (next to)))
    (does is.value_made (into_value formats from to limit value owned is))

-- no more plans are built where what follows builds none
pub builds_still : (old new : List Known) (before after spared : ℕ) → BuildsFor 0 old new before after
    → BuildsFor spared old new before after
builds_still old new before after spared builds = omega (arith, builds)

-- a conversion that is refused
pub refused_at : (formats : List Layout) (from to limit : ℕ) (value : Datum) (next : Datum → Outcome) (cause : Refusal)
    → IsCause formats from to limit value cause
    → IsRefused (converting (slice_get formats from) (slice_get formats to) limit value next) cause
refused_at formats from to limit value next (Cause why) is = is next
refused_at formats from to limit value next Memory is = tt

-- the pass as it was
pub as_it_was : (cells : Cells) (formats : List Layout) (ks : List Known) → IsPassOf cells formats ks → Keeps cells formats ks ks
as_it_was cells formats ks right = record { right = right; kept = λ from to earlier known. known }

asks_nothing : (pairs : List (ℕ × ℕ)) (ks : List Known) → Asks pairs ks ks
asks_nothing pairs ks from to none some = absurd (not_both (found_for ks from to) none some)
  where
    not_both : (o : Option Found) → o ≡ None → IsSome o → ⊥
    not_both None none some = false≢true some
    not_both (Some found) none some = cc

-- nothing was asked
pub untouched : (cells : Cells) (formats : List Layout) (owned : OwnedBytes) (outcome : Datum → Outcome) (pairs : Datum → List (ℕ × ℕ))
    (ks : List Known) (built : ℕ) (answer : Result Acted Refusal) → IsPassOf cells formats ks
    → ((value : Datum) → HasValue formats owned value → IsAnswer formats (outcome value) answer)
    → Works cells formats owned outcome pairs ks ks built built answer
untouched cells formats owned outcome pairs ks built answer right answers = record {
  answers = answers;
  keeps = as_it_was cells formats ks right;
  asks = λ value has. asks_nothing (pairs value) ks;
  builds = omega arith;
}

first_pair : (pair : ℕ × ℕ) (rest : List (ℕ × ℕ)) (other : ℕ × ℕ) → other ≡ pair → Contains (pair ∷ rest) other
first_pair pair rest other is = (0, omega arith, sym is)

second_pair : (pair second other : ℕ × ℕ) → other ≡ second → Contains (pair ∷ second ∷ []) other
second_pair pair second other is = (1, omega arith, sym is)

same_pair : (a b c d : ℕ) → (a ≡ c) × (b ≡ d) → ◌≡◌ {A = ℕ × ℕ} (a, b) (c, d)
same_pair a b c d same =
    let Pair : ℕ → ℕ → Type 0 = λ x y. ◌≡◌ {A = ℕ × ℕ} (a, b) (x, y) in
    subst (λ (y : ℕ). Pair c y) same.1 (subst (λ (x : ℕ). Pair x b) same.0 refl)

-- one pair was asked for
pub asks_one : (from to : ℕ) (rest : List (ℕ × ℕ)) (old new : List Known) → AsksOnly from to old new → Asks ((from, to) ∷ rest) old new
asks_one from to rest old new only a b none some = first_pair (from, to) rest (a, b) (same_pair a b from to (only a b none some))

-- two
pub asks_both : (from format into : ℕ) (old mid new : List Known) → AsksOnly from format old mid → AsksOnly format into mid new
    → Asks ((from, format) ∷ (format, into) ∷ []) old new
asks_both from format into old mid new first second a b none some = cases (found_for mid a b) refl
  where
    cases : (o : Option Found) → found_for mid a b ≡ o → Contains {X = ℕ × ℕ} ((from, format) ∷ (format, into) ∷ []) (a, b)
    cases None is = second_pair (from, format) (format, into) (a, b) (same_pair a b format into (second a b is some))
    cases (Some found) is = first_pair (from, format) ((format, into) ∷ []) (a, b)
        (same_pair a b from format (first a b none (subst IsSome (sym is) refl)))

-- by one conversion
pub by_one : (cells : Cells) (formats : List Layout) (owned : OwnedBytes) (outcome : Datum → Outcome) (to : ℕ)
    (rest : Datum → List (ℕ × ℕ))
    (old new : List Known) (before after : ℕ) (answer : Result Acted Refusal) → Keeps cells formats old new
    → AsksOnly owned.format to old new
    → BuildsFor (spare answer) old new before after
    → ((value : Datum) → HasValue formats owned value → IsAnswer formats (outcome value) answer)
    → Works cells formats owned outcome (λ value. (owned.format, to) ∷ rest value) old new before after answer
by_one cells formats owned outcome to rest old new before after answer keeps only builds answers = record {
  answers = answers;
  keeps = keeps;
  asks = λ value has. asks_one owned.format to (rest value) old new only;
  builds = builds;
}

-- the work of an action that is this one
pub of_action : (cells : Cells) (formats : List Layout) (owned : OwnedBytes) (limit targets : ℕ) (a b : Action) (old new : List Known)
    (before after : ℕ) (answer : Result Acted Refusal) → a ≡ b
    → Works cells formats owned (act formats limit b targets owned.format) (pairs_of formats limit b owned.format) old new before
    after answer
    → Works cells formats owned (act formats limit a targets owned.format) (pairs_of formats limit a owned.format) old new before
    after answer
of_action cells formats owned limit targets a b old new before after answer is works =
    subst (λ (x : Action). Works cells formats owned (act formats limit x targets owned.format) (pairs_of formats limit x owned.format) old
    new before after answer)
    (sym is) works

-- what was refused
pub refused_is : (formats : List Layout) (outcome : Outcome) (answer : Result Acted Refusal) (cause : Refusal) (why : Reason)
    → answer ≡ Err cause
    → cause ≡ Cause why → IsAnswer formats outcome answer → outcome ≡ refused why
refused_is formats outcome answer cause why is cause_is answers =
    subst (λ (c : Refusal). IsRefused outcome c) cause_is (subst (λ (r : Result Acted Refusal). IsAnswer formats outcome r) is answers)
