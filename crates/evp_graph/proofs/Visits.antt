-- What the search keeps, over its marks and the open visits, the newest first.
use Rattle.std.proofs.Common.{◌≡◌, ◌≢◌, ℕ, zero, suc, ◌+◌, ◌-◌, ◌*◌, ◌<◌, ◌≤◌, ◌⊎◌, List, [], ◌∷◌, length, map, set, get_or, refl, sym, ap}
use Rattle.std.proofs.Common.{◌∙◌, subst, inl, inr, arith}
use Rattle.std.specs.List.{AllByRecursion, Contains, sum_by}
use Rattle.std.proofs.lemmas.List.{get_or-set_other, get_or-set_same, get_or_read, length-set, get_or_default}
use borrow.Author.Count.{below_more}
use Rattle.std.proofs.lemmas.List.Sums.{sum_by-set}
use Rattle.std.proofs.lemmas.List.Elements.{All-contains, Contains-get_or}
use Rattle.evp_graph.specs.Shape.{targets_of, IsTarget, HaveTargets}
use Rattle.evp_graph.specs.Search.{IsSafe, mark_of, IsSettled}
use Rattle.evp_graph.specs.declared.search.Mark.{Mark}
use Rattle.evp_graph.specs.declared.search.Mark.TheVariants.{New, Open, Done}
use Rattle.evp_graph.specs.declared.search.Visit.{Visit}
use Rattle.evp_graph.proofs.Lists.{Ordered, Each-weaker}
use Rattle.evp_graph.proofs.Paths.{IsSafe-from_targets}
use Rattle.evp_graph.proofs.Cycles.{Linked}

abbrev pub stone_of : Visit → ℕ
stone_of visit = visit.stone

-- the stone is one of the list
abbrev pub IsOn : ℕ → List ℕ → Type 0
IsOn s [] = ⊥
IsOn s (x ∷ xs) = (x ≡ s) ⊎ IsOn s xs

-- the targets before the visit's position are safe, and the position is one of the stone's or their number
pub record IsPartDone (targets : List (List ℕ)) (visit : Visit) : Type 0 where
  pub within : visit.stone < length targets
  pub position : visit.position ≤ length (targets_of targets visit.stone)
  pub safe : (k : ℕ) → k < visit.position → IsSafe targets (get_or (targets_of targets visit.stone) k 0)

pub record Searching (targets : List (List ℕ)) (marks : List Mark) (visits : List Visit) : Type 0 where
  pub lengths : length marks ≡ length targets
  pub done : (s : ℕ) → mark_of marks s ≡ Done → IsSafe targets s
  pub open_on : (s : ℕ) → mark_of marks s ≡ Open → IsOn s (map stone_of visits)
  pub on_open : AllByRecursion (λ s. mark_of marks s ≡ Open) (map stone_of visits)
  pub parts : AllByRecursion (IsPartDone targets) visits
  pub differ : Ordered ◌≢◌ (map stone_of visits)
  pub linked : Linked targets (map stone_of visits)

set_cases : (marks : List Mark) (t s : ℕ) (mark : Mark) → t < length marks
    → ((s ≡ t) × (mark_of (set marks t mark) s ≡ mark)) ⊎ ((s ≢ t) × (mark_of (set marks t mark) s ≡ mark_of marks s))
set_cases marks t s mark lt = cases (nat_cases s t)
  where
    nat_cases : (s t : ℕ) → (s ≡ t) ⊎ (s ≢ t)
    nat_cases zero zero = inl refl
    nat_cases zero (suc t) = inr (λ e. omega arith)
    nat_cases (suc s) zero = inr (λ e. omega arith)
    nat_cases (suc s) (suc t) = elim (nat_cases s t) [ inl e ↦ inl (ap suc e) | inr n ↦ inr (λ e. n (omega arith)) ]

    cases : (s ≡ t) ⊎ (s ≢ t)
        → ((s ≡ t) × (mark_of (set marks t mark) s ≡ mark)) ⊎ ((s ≢ t) × (mark_of (set marks t mark) s ≡ mark_of marks s))
    cases (inl e) = inl (
      e,
      (let P : ℕ → Type 0 = λ x. mark_of (set marks t mark) x ≡ mark in
          subst P (sym e) (get_or-set_same marks t mark New lt)),
    )
    cases (inr n) = inr (n, get_or-set_other marks t s mark New n)

-- a stone that is marked otherwise is another one
other_stone : (marks : List Mark) (s t : ℕ) (m n : Mark) → mark_of marks s ≡ m → mark_of marks t ≡ n → m ≢ n → s ≢ t
other_stone marks s t m n hs ht h e = h (sym hs ∙ ap (mark_of marks) e ∙ ht)

pub open≢new : Open ≢ New
open≢new e = cc

open≢done : Open ≢ Done
open≢done e = cc

pub done≢new : Done ≢ New
done≢new e = cc

-- marked anew, a stone keeps its mark where it is another one, and has the new one where it is the same
kept_mark : (marks : List Mark) (t s : ℕ) (mark m : Mark) → t < length marks → s ≢ t → mark_of marks s ≡ m
    → mark_of (set marks t mark) s ≡ m
kept_mark marks t s mark m lt n h = get_or-set_other marks t s mark New n ∙ h

length_marked : (marks : List Mark) (t : ℕ) (mark : Mark) → length (set marks t mark) ≡ length marks
length_marked marks t mark = length-set marks t mark

-- before anything is visited
pub Searching-first : (targets : List (List ℕ)) (marks : List Mark) (start : ℕ) → IsSettled targets marks → start < length targets
    → mark_of marks start ≡ New → Searching targets (set marks start Open) (record { stone = start; position = 0 } ∷ [])
Searching-first targets marks start settled lt fresh =
    let inside : start < length marks = omega (arith, settled.lengths) in
    record {
      lengths = length_marked marks start Open ∙ settled.lengths;
      done = λ s e. elim (set_cases marks start s Open inside)
          [ inl h ↦ absurd (open≢done (sym h.1 ∙ e)) | inr h ↦ settled.safe s (sym h.1 ∙ e) ];
      open_on = λ s e. elim
          (set_cases marks start s Open inside) [ inl h ↦ inl (sym h.0) | inr h ↦ absurd (settled.closed s (sym h.1 ∙ e)) ];
      on_open = (get_or-set_same marks start Open New inside, tt);
      parts = (record { within = lt; position = omega arith; safe = λ k h. absurd (omega arith) }, tt);
      differ = (tt, tt);
      linked = tt;
    }

-- a target that is done is passed over
pub Searching-passed : (targets : List (List ℕ)) (marks : List Mark) (here : Visit) (visits : List Visit)
    → Searching targets marks (here ∷ visits) → here.position < length (targets_of targets here.stone)
    → mark_of marks (get_or (targets_of targets here.stone) here.position 0) ≡ Done
    → Searching targets marks (record { stone = here.stone; position = here.position + 1 } ∷ visits)
Searching-passed targets marks here visits h lt e =
    let part = h.parts.0 in
    record {
      lengths = h.lengths;
      done = h.done;
      open_on = h.open_on;
      on_open = h.on_open;
      parts = (
        record {
          within = part.within;
          position = omega arith;
          safe = below_more (λ k. IsSafe targets (get_or (targets_of targets here.stone) k 0)) here.position part.safe
              (h.done (get_or (targets_of targets here.stone) here.position 0) e);
        },
        h.parts.1,
      );
      differ = h.differ;
      linked = h.linked;
    }

-- a new target is visited
pub Searching-entered : (targets : List (List ℕ)) (marks : List Mark) (here : Visit) (visits : List Visit) (t : ℕ)
    → Searching targets marks (here ∷ visits) → IsTarget targets here.stone t → t < length targets → mark_of marks t ≡ New
    → Searching targets (set marks t Open) (record { stone = t; position = 0 } ∷ here ∷ visits)
Searching-entered targets marks here visits t h target lt fresh =
    let inside : t < length marks = omega (arith, h.lengths) in
    let stones = map stone_of (here ∷ visits) in
    record {
      lengths = length_marked marks t Open ∙ h.lengths;
      done = λ s e. elim (set_cases marks t s Open inside) [ inl k ↦ absurd (open≢done (sym k.1 ∙ e)) | inr k ↦ h.done s (sym k.1 ∙ e) ];
      open_on = λ s e. elim (set_cases marks t s Open inside) [ inl k ↦ inl (sym k.0) | inr k ↦ inr (h.open_on s (sym k.1 ∙ e)) ];
      on_open = (
        get_or-set_same marks t Open New inside,
        Each-weaker (λ s. mark_of marks s ≡ Open) (λ s. mark_of (set marks t Open) s ≡ Open)
            (λ s e. kept_mark marks t s Open Open inside (other_stone marks s t Open New e fresh open≢new) e) stones h.on_open,
      );
      parts = (record { within = lt; position = omega arith; safe = λ k l. absurd (omega arith) }, h.parts);
      differ = (
        Each-weaker (λ s. mark_of marks s ≡ Open) (λ s. t ≢ s)
            (λ s e q. other_stone marks s t Open New e fresh open≢new (sym q)) stones h.on_open,
        h.differ,
      );
      linked = (target, h.linked);
    }

-- a stone all of whose targets were passed over is done
pub Searching-left : (targets : List (List ℕ)) (marks : List Mark) (here : Visit) (visits : List Visit)
    → Searching targets marks (here ∷ visits) → here.position ≡ length (targets_of targets here.stone)
    → Searching targets (set marks here.stone Done) visits
Searching-left targets marks here visits h all =
    let part = h.parts.0 in
    let inside : here.stone < length marks = omega (arith, h.lengths, part.within) in
    let row = targets_of targets here.stone in
    let P : ℕ → Type 0 = IsSafe targets in
    let targets_safe : (c : ℕ) → IsTarget targets here.stone c → IsSafe targets c = λ c t.
    (let at : IsSafe targets (get_or row t.0 0) = part.safe t.0 (omega (arith, t.1, all)) in
    subst P (get_or_default row t.0 0 c t.1 ∙ t.2) at) in
    let safe : IsSafe targets here.stone = IsSafe-from_targets targets here.stone targets_safe in
    record {
      lengths = length_marked marks here.stone Done ∙ h.lengths;
      done = λ s e. elim (set_cases marks here.stone s Done inside) [ inl k ↦ subst P (sym k.0) safe | inr k ↦ h.done s (sym k.1 ∙ e) ];
      open_on = λ s e. elim
          (set_cases marks here.stone s Done inside) [
            | inl k ↦ absurd (open≢done (sym e ∙ k.1))
            | inr k ↦ elim
                (h.open_on s (sym k.1 ∙ e)) [ inl q ↦ absurd (k.0 (sym q)) | inr on ↦ on ]
          ];
      on_open = both (map stone_of visits) h.on_open.1 h.differ.0;
      parts = h.parts.1;
      differ = h.differ.1;
      linked = rest_linked (map stone_of visits) h.linked;
    }
  where
    both : (stones : List ℕ) → AllByRecursion (λ s. mark_of marks s ≡ Open) stones → AllByRecursion (λ s. here.stone ≢ s) stones
        → AllByRecursion (λ s. mark_of (set marks here.stone Done) s ≡ Open) stones
    both [] o d = tt
    both (s ∷ stones) o d = (get_or-set_other marks here.stone s Done New (λ e. d.0 (sym e)) ∙ o.0, both stones o.1 d.1)

    rest_linked : (stones : List ℕ) → Linked targets (here.stone ∷ stones) → Linked targets stones
    rest_linked [] l = tt
    rest_linked (s ∷ stones) l = l.1

-- at the end nothing is open
pub IsSettled-searched : (targets : List (List ℕ)) (marks : List Mark) → Searching targets marks [] → IsSettled targets marks
IsSettled-searched targets marks h = record { lengths = h.lengths; closed = λ s e. h.open_on s e; safe = h.done }

-- a stone that is on the list is one of its elements
pub Contains-from_on : (s : ℕ) (stones : List ℕ) → IsOn s stones → Contains stones s
Contains-from_on s [] h = absurd h
Contains-from_on s (x ∷ stones) (inl e) = (0, omega arith, e)
Contains-from_on s (x ∷ stones) (inr h) = let k = Contains-from_on s stones h in (suc k.0, omega (arith, k.1), k.2)

-- the work that is left: new stones, and targets to be looked at, one more for each open visit
abbrev pub newness : Mark → ℕ
newness New = 1
newness Open = 0
newness Done = 0

abbrev pub room : List (List ℕ) → List Visit → ℕ
room targets [] = 0
room targets (visit ∷ visits) = (length (targets_of targets visit.stone) + 1 - visit.position) + room targets visits

abbrev pub work : List (List ℕ) → List Mark → List Visit → ℕ
work targets marks visits = 65537 * sum_by newness marks + room targets visits

-- a mark of another newness changes the number of new stones by the difference
pub newness_marked : (marks : List Mark) (t : ℕ) (old mark : Mark) → t < length marks → mark_of marks t ≡ old
    → sum_by newness (set marks t mark) + newness old ≡ sum_by newness marks + newness mark
newness_marked marks t old mark lt e = let s = sum_by-set newness marks t mark New lt in
    ap (λ m. sum_by newness (set marks t mark) + newness m) (sym e) ∙ s

pub IsOn-from_contains : (s : ℕ) (stones : List ℕ) → Contains stones s → IsOn s stones
IsOn-from_contains s [] h = let k : h.0 < 0 = h.1 in absurd (omega arith)
IsOn-from_contains s (x ∷ stones) h = at_place (IsOn-from_contains s stones) h.0 h.1 h.2
  where
    at_place : (Contains stones s → IsOn s stones) → (k : ℕ) → k < length (x ∷ stones) → get_or (x ∷ stones) k s ≡ s → IsOn s (x ∷ stones)
    at_place later zero lt e = inl e
    at_place later (suc k) lt e = inr (later (k, omega arith, e))

-- a stone that was begun stays so
pub begun_marked : (marks : List Mark) (t s : ℕ) (mark : Mark) → t < length marks → mark ≢ New → mark_of marks s ≢ New
    → mark_of (set marks t mark) s ≢ New
begun_marked marks t s mark lt n h e = elim (set_cases marks t s mark lt) [ inl k ↦ n (sym k.1 ∙ e) | inr k ↦ h (sym k.1 ∙ e) ]

-- a stone that is done stays so where a new one is opened, and where one is done
pub done_opened : (marks : List Mark) (t s : ℕ) → t < length marks → mark_of marks t ≡ New → mark_of marks s ≡ Done
    → mark_of (set marks t Open) s ≡ Done
done_opened marks t s lt fresh h = kept_mark marks t s Open Done lt (other_stone marks s t Done New h fresh done≢new) h

pub done_left : (marks : List Mark) (t s : ℕ) → t < length marks → mark_of marks s ≡ Done → mark_of (set marks t Done) s ≡ Done
done_left marks t s lt h = elim (set_cases marks t s Done lt) [ inl k ↦ k.1 | inr k ↦ k.1 ∙ h ]

-- the row that is read is that of the stone's targets
pub row_read : (targets : List (List ℕ)) (stone : ℕ) (row item : List ℕ) → stone < length targets → row ≡ item
    → item ≡ get_or targets stone item → row ≡ targets_of targets stone
row_read targets stone row item lt e read = e ∙ get_or_read targets stone item lt read []

-- what is known where the search looks at the target t of the newest visit, and reads its mark
pub record LooksAt (targets : List (List ℕ)) (marks : List Mark) (here : Visit) (t : ℕ) (mark : Mark) : Type 0 where
  pub target : IsTarget targets here.stone t
  pub within : t < length targets
  pub inside : t < length marks
  pub marked : mark_of marks t ≡ mark

pub looks_at : (targets : List (List ℕ)) (marks : List Mark) (here : Visit) (visits : List Visit) (row : List ℕ) (mark : Mark)
    → HaveTargets targets → Searching targets marks (here ∷ visits) → row ≡ targets_of targets here.stone → here.position ≢ length row
    → mark ≡ get_or marks (get_or row here.position 0) mark → LooksAt targets marks here (get_or row here.position 0) mark
looks_at targets marks here visits row mark have h e more read =
    let t = get_or row here.position 0 in
    let part = h.parts.0 in
    let before : here.position < length row = (let le = part.position in omega (arith, ap length e)) in
    let Q : List ℕ → Type 0 = λ r. Contains r t in
    let target : IsTarget targets here.stone t = subst Q e (Contains-get_or row here.position 0 before) in
    let below : t < length targets = All-contains (λ n. n < length targets) (targets_of targets here.stone) t
    (have here.stone [] part.within) target in
    let inside : t < length marks = omega (arith, h.lengths) in
    record { target = target; within = below; inside = inside; marked = sym (get_or_read marks t mark inside read New) }

-- a target that is done is passed over, as the code reads it
pub Searching-passed_at : (targets : List (List ℕ)) (marks : List Mark) (here : Visit) (visits : List Visit) (row : List ℕ)
    → row ≡ targets_of targets here.stone → Searching targets marks (here ∷ visits) → here.position ≢ length row
    → mark_of marks (get_or row here.position 0) ≡ Done
    → Searching targets marks (record { stone = here.stone; position = here.position + 1 } ∷ visits)
Searching-passed_at targets marks here visits row e h n d =
    let P : List ℕ → Type 0 = λ r. here.position ≢ length r → mark_of marks (get_or r here.position 0) ≡ Done
    → Searching targets marks (record { stone = here.stone; position = here.position + 1 } ∷ visits) in
    subst P (sym e) (λ m f. Searching-passed targets marks here visits h (let le = h.parts.0.position in omega arith) f) n d

-- to visit a new target leaves less work
pub work-entered : (targets : List (List ℕ)) (marks : List Mark) (visits : List Visit) (t : ℕ) → t < length marks → mark_of marks t ≡ New
    → length (targets_of targets t) < 65536
    → work targets (set marks t Open) (record { stone = t; position = 0 } ∷ visits) < work targets marks visits
work-entered targets marks visits t lt fresh few = let n : sum_by newness (set marks t Open) + 1
    ≡ sum_by newness marks + 0 = newness_marked marks t New Open lt fresh in omega arith
