-- Entries that are lined up, by the routes on which they are.
use Rattle.std.proofs.Common.{◌≡◌, ◌≢◌, ℕ, zero, suc, ◌+◌, Bool, true, false, List, [], ◌∷◌, length, Some}
use Rattle.std.proofs.Common.{inl, inr}
use Rattle.std.proofs.Common.{refl, sym, ap, subst, ◌∙◌, arith}
use Rattle.std.specs.Prelude.{if◌then◌else◌}
use Rattle.std.specs.List.{slice_get, AllByRecursion}
use Rattle.evp_queue.specs.Flow.{entries_of}
use Rattle.evp_queue.proofs.Flows.{entries_of-here, entries_of-elsewhere}
use Rattle.evp_stone.specs.declared.entry.Entry.{Entry}
use Rattle.evp_stone.specs.Entries.{route_of}
use Rattle.evp_stone.specs.Lining.{IsAt, AreLined, lengthened, one_more}
use Rattle.evp_stone.specs.State.{Outlet}

-- no two outlets are of one route
abbrev pub AreApart : List Outlet → Type 0
AreApart outlets = (i j : ℕ) (o u : Outlet) → slice_get outlets i ≡ Some o → slice_get outlets j ≡ Some u → o.route ≡ u.route → i ≡ j

pub apart_rest : (o : Outlet) (outlets : List Outlet) → AreApart (o ∷ outlets) → AreApart outlets
apart_rest o outlets apart i j p q at there same = let e = apart (suc i) (suc j) p q at there same in omega arith

pub length-lengthened : (goes : ℕ → Bool) (position : ℕ) (outlets : List Outlet)
    → length (lengthened goes position outlets) ≡ length outlets
length-lengthened goes position [] = refl
length-lengthened goes position (o ∷ outlets) = ap suc (length-lengthened goes (position + 1) outlets)

-- an outlet is one that was there before, and has one entry more where something goes there
pub record Was (goes : ℕ → Bool) (first position : ℕ) (outlets : List Outlet) (new : Outlet) : Type 0 where
  pub old : Outlet
  pub there : slice_get outlets position ≡ Some old
  pub how : new ≡ if goes (first + position) then one_more old else old

pub was_outlet : (goes : ℕ → Bool) (first position : ℕ) (outlets : List Outlet) (new : Outlet)
    → slice_get (lengthened goes first outlets) position ≡ Some new → Was goes first position outlets new
was_outlet goes first position [] new at = absurd (cc)
was_outlet goes first zero (o ∷ outlets) new at =
    let is : (if goes first then one_more o else o) ≡ new = cc in
    record {
      old = o;
      there = refl;
      how = sym is ∙ ap (λ (n : ℕ). if goes n then one_more o else o) (omega arith);
    }
was_outlet goes first (suc position) (o ∷ outlets) new at =
    let rest = was_outlet goes (first + 1) position outlets new at in
    record {
      old = rest.old;
      there = rest.there;
      how = rest.how ∙ ap (λ (n : ℕ). if goes n then one_more rest.old else rest.old) (omega arith);
    }

module _ (IsOne : Entry → Type 0) (goes : ℕ → Bool) where
  -- the entries of a route at no outlet
  pub none_lined : (first : ℕ) (outlets : List Outlet) (entries : List Entry) (route : ℕ) → AreLined IsOne goes first outlets entries
      → ((i : ℕ) (o : Outlet) → slice_get outlets i ≡ Some o → o.route ≢ route)
      → entries_of route_of route entries ≡ []
  none_lined first [] entries route lined apart = ap (entries_of route_of route) lined
  none_lined first (o ∷ outlets) entries route (inl (goes_, (entry, others, is, at, rest))) apart =
      ap (entries_of route_of route) is
      ∙ entries_of-elsewhere route_of route entry others (λ e. apart 0 o refl (sym at.on ∙ sym e))
      ∙ none_lined (first + 1) outlets others route rest (λ i u there. apart (suc i) u there)
  none_lined first (o ∷ outlets) entries route (inr (not_, rest)) apart =
      none_lined (first + 1) outlets entries route rest (λ i u there. apart (suc i) u there)

  -- what waits at an outlet: one entry where something goes there, else none
  abbrev pub Found : Bool → Outlet → List Entry → Type 0
  Found true o found = (entry : Entry) × (found ≡ entry ∷ []) × IsAt IsOne o entry
  Found false o found = found ≡ []

  pub one_lined : (first position : ℕ) (outlets : List Outlet) (entries : List Entry) (o : Outlet) → AreApart outlets
      → AreLined IsOne goes first outlets entries → slice_get outlets position ≡ Some o
      → Found (goes (first + position)) o (entries_of route_of o.route entries)
  one_lined first position [] entries o apart lined at = absurd (cc)
  one_lined first zero (u ∷ outlets) entries o apart (inl (goes_, (entry, others, is, placed, rest))) at =
      let same : u ≡ o = cc in
      let here = subst (λ (v : Outlet). IsAt IsOne v entry) same placed in
      let none = none_lined (first + 1) outlets others o.route rest
      (λ i v there e. let n = apart (suc i) 0 v o there at e in omega arith) in
      let all = ap (entries_of route_of o.route) is ∙ entries_of-here route_of o.route entry others here.on
      ∙ ap (λ (l : List Entry). entry ∷ l) none in
      subst (λ (b : Bool). Found b o (entries_of route_of o.route entries))
      (sym goes_ ∙ ap goes (omega arith)) (entry, all, here)
  one_lined first zero (u ∷ outlets) entries o apart (inr (not_, rest)) at =
      let none = none_lined (first + 1) outlets entries o.route rest
      (λ i v there e. let n = apart (suc i) 0 v o there at e in omega arith) in
      subst (λ (b : Bool). Found b o (entries_of route_of o.route entries)) (sym not_ ∙ ap goes (omega arith)) none
  one_lined first (suc position) (u ∷ outlets) entries o apart (inl (goes_, (entry, others, is, placed, rest))) at =
      let elsewhere : o.route ≢ route_of entry =
      λ e. (let n = apart (suc position) 0 o u at refl (e ∙ placed.on) in omega arith) in
      let all : entries_of route_of o.route entries ≡ entries_of route_of o.route others =
      ap (entries_of route_of o.route) is ∙ entries_of-elsewhere route_of o.route entry others elsewhere in
      subst (λ (b : Bool). Found b o (entries_of route_of o.route entries)) (ap goes (omega arith))
      (subst (λ (l : List Entry). Found (goes (first + 1 + position)) o l) (sym all)
      (one_lined (first + 1) position outlets others o (apart_rest u outlets apart) rest at))
  one_lined first (suc position) (u ∷ outlets) entries o apart (inr (not_, rest)) at =
      subst (λ (b : Bool). Found b o (entries_of route_of o.route entries)) (ap goes (omega arith))
      (one_lined (first + 1) position outlets entries o (apart_rest u outlets apart) rest at)

  -- each entry is at an outlet
  pub all_lined : (P : Entry → Type 0) (first : ℕ) (outlets : List Outlet) (entries : List Entry)
      → AreLined IsOne goes first outlets entries
      → ((i : ℕ) (o : Outlet) (entry : Entry) → slice_get outlets i ≡ Some o → o.route ≡ route_of entry → P entry)
      → AllByRecursion P entries
  all_lined P first [] entries lined each = subst (AllByRecursion P) (sym lined) tt
  all_lined P first (o ∷ outlets) entries (inl (goes_, (entry, others, is, at, rest))) each =
      subst (AllByRecursion P) (sym is)
      ((each 0 o entry refl (sym at.on)), all_lined P (first + 1) outlets others rest (λ i u e there. each (suc i) u e there))
  all_lined P first (o ∷ outlets) entries (inr (not_, rest)) each =
      all_lined P (first + 1) outlets entries rest (λ i u e there. each (suc i) u e there)
