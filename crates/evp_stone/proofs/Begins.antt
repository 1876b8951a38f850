-- Rounds begin the whole: what a stone acts on in all rounds and what it keeps at the end are what came to it, and so it goes
-- on along a route.
use Rattle.std.proofs.Common.{◌≡◌, ℕ, suc, Bool, true, false, List, [], ◌∷◌, ◌++◌, length, map, append_assoc, refl}
use Rattle.std.proofs.Common.{sym, ap, ◌∙◌, arith}
use Rattle.std.specs.List.{flat_map}
use Rattle.std.proofs.lemmas.List.{append-nil}
use Rattle.std.proofs.lemmas.List.Concat.{flat_map-append}
use Rattle.evp_stone.specs.Carried.{Carried, Acts, sent_on, part_to, outcome_of}
use Rattle.evp_stone.specs.Rounds.{Worked, Step, rounds_from, held_after, passed_on, arrivals_of}
use Rattle.evp_stone.specs.Through.{through}

abbrev pub joined : List Worked → List Carried
joined rounds = flat_map (λ (round : Worked). round.done) rounds

-- the records of all rounds
abbrev pub all_of : List (List Carried) → List Carried
all_of arrivals = flat_map (λ (records : List Carried). records) arrivals

pub rounds_join : (kept : List Carried) (frozen : List Bool) (arrivals : List (List Carried)) → length frozen ≡ length arrivals
    → joined (rounds_from kept frozen arrivals) ++ held_after kept (rounds_from kept frozen arrivals) ≡ kept ++ all_of arrivals
rounds_join kept [] [] same = sym (append-nil kept)
rounds_join kept [] (new ∷ arrivals) same = absurd (omega arith)
rounds_join kept (f ∷ later) [] same = absurd (omega arith)
rounds_join kept (true ∷ later) (new ∷ arrivals) same =
    let lengths : length later ≡ length arrivals = omega arith in
    rounds_join (kept ++ new) later arrivals lengths ∙ append_assoc kept new (all_of arrivals)
rounds_join kept (false ∷ later) (new ∷ arrivals) same =
    let lengths : length later ≡ length arrivals = omega arith in
    let rest = rounds_from [] later arrivals in
    append_assoc (kept ++ new) (joined rest) (held_after [] rest)
    ∙ ap (λ (l : List Carried). (kept ++ new) ++ l) (rounds_join [] later arrivals lengths)
    ∙ append_assoc kept new (all_of arrivals)

pub length-rounds : (kept : List Carried) (frozen : List Bool) (arrivals : List (List Carried)) → length frozen ≡ length arrivals
    → length (rounds_from kept frozen arrivals) ≡ length arrivals
length-rounds kept [] [] same = refl
length-rounds kept [] (new ∷ arrivals) same = absurd (omega arith)
length-rounds kept (f ∷ later) [] same = absurd (omega arith)
length-rounds kept (true ∷ later) (new ∷ arrivals) same =
    ap suc (length-rounds (kept ++ new) later arrivals (omega arith))
length-rounds kept (false ∷ later) (new ∷ arrivals) same =
    ap suc (length-rounds [] later arrivals (omega arith))

length-map-rounds : (f : Worked → List Carried) (rounds : List Worked) → length (map f rounds) ≡ length rounds
length-map-rounds f [] = refl
length-map-rounds f (r ∷ rounds) = ap suc (length-map-rounds f rounds)

all-sent : (act : Acts) (stone position : ℕ) (rounds : List Worked)
    → all_of (map (λ (round : Worked). sent_on act stone position round.done) rounds) ≡ sent_on act stone position (joined rounds)
all-sent act stone position [] = refl
all-sent act stone position (r ∷ rounds) =
    ap (λ (l : List Carried). sent_on act stone position r.done ++ l) (all-sent act stone position rounds)
    ∙ sym (flat_map-append (λ c. part_to position c (outcome_of act stone c)) r.done (joined rounds))

module _ (act : Acts) (freezes : ℕ → List Bool) (rounds : ℕ) (each : (stone : ℕ) → length (freezes stone) ≡ rounds) where
  -- what a stone keeps at the end
  abbrev pub kept_at : ℕ → List (List Carried) → List Carried
  kept_at stone arrivals = held_after [] (rounds_from [] (freezes stone) arrivals)

  pub length-passed : (arrivals : List (List Carried)) (step : Step) → length arrivals ≡ rounds
      → length (passed_on act freezes arrivals step) ≡ rounds
  length-passed arrivals step same =
      let lengths : length (freezes step.stone) ≡ length arrivals = each step.stone ∙ sym same in
      length-map-rounds (λ (round : Worked). sent_on act step.stone step.position round.done)
      (rounds_from [] (freezes step.stone) arrivals)
      ∙ length-rounds [] (freezes step.stone) arrivals lengths ∙ same

  pub length-arrivals : (steps : List Step) (arrivals : List (List Carried)) → length arrivals ≡ rounds
      → length (arrivals_of act freezes arrivals steps) ≡ rounds
  length-arrivals [] arrivals same = same
  length-arrivals (step ∷ steps) arrivals same =
      length-arrivals steps (passed_on act freezes arrivals step) (length-passed arrivals step same)

  -- what came and what is kept are what is passed on and what is not, sent to a position
  passed-whole : (arrivals : List (List Carried)) (step : Step) (came rest : List Carried) → length arrivals ≡ rounds
      → all_of arrivals ++ rest ≡ came
      → all_of (passed_on act freezes arrivals step)
      ++ (sent_on act step.stone step.position (kept_at step.stone arrivals) ++ sent_on act step.stone step.position rest)
      ≡ sent_on act step.stone step.position came
  passed-whole arrivals step came rest same whole =
      let stone = step.stone in
      let f : Carried → List Carried = λ c. part_to step.position c (outcome_of act stone c) in
      let worked = rounds_from [] (freezes stone) arrivals in
      let lengths : length (freezes stone) ≡ length arrivals = each stone ∙ sym same in
      let sent = all-sent act stone step.position worked in
      let kept = held_after [] worked in
      ap (λ (l : List Carried). l ++ (flat_map f kept ++ flat_map f rest)) sent
      ∙ sym (append_assoc (flat_map f (joined worked)) (flat_map f kept) (flat_map f rest))
      ∙ ap (λ (l : List Carried). l ++ flat_map f rest) (sym (flat_map-append f (joined worked) kept))
      ∙ sym (flat_map-append f (joined worked ++ kept) rest)
      ∙ ap (λ (l : List Carried). flat_map f (l ++ rest)) (rounds_join [] (freezes stone) arrivals lengths)
      ∙ ap (flat_map f) whole

  -- what comes to the last stone begins what would come without rounds
  pub begins : (steps : List Step) (arrivals : List (List Carried)) (came rest : List Carried) → length arrivals ≡ rounds
      → all_of arrivals ++ rest ≡ came
      → (others : List Carried) × (all_of (arrivals_of act freezes arrivals steps) ++ others ≡ through act came steps)
  begins [] arrivals came rest same whole = (rest, whole)
  begins (step ∷ steps) arrivals came rest same whole =
      begins steps (passed_on act freezes arrivals step) (sent_on act step.stone step.position came)
      (sent_on act step.stone step.position (kept_at step.stone arrivals) ++ sent_on act step.stone step.position rest)
      (length-passed arrivals step same) (passed-whole arrivals step came rest same whole)

  -- no stone on the way keeps anything at the end
  abbrev pub NoneKept : List (List Carried) → List Step → Type 0
  NoneKept arrivals [] = Unit {0}
  NoneKept arrivals (step ∷ steps) =
      (kept_at step.stone arrivals ≡ []) × NoneKept (passed_on act freezes arrivals step) steps

  -- then it is all that would come
  pub all_come : (steps : List Step) (arrivals : List (List Carried)) → length arrivals ≡ rounds → NoneKept arrivals steps
      → all_of (arrivals_of act freezes arrivals steps) ≡ through act (all_of arrivals) steps
  all_come [] arrivals same none = refl
  all_come (step ∷ steps) arrivals same none =
      let f : Carried → List Carried = λ c. part_to step.position c (outcome_of act step.stone c) in
      let next = passed_on act freezes arrivals step in
      let worked = rounds_from [] (freezes step.stone) arrivals in
      let lengths : length (freezes step.stone) ≡ length arrivals = each step.stone ∙ sym same in
      let join = rounds_join [] (freezes step.stone) arrivals lengths in
      let empty : joined worked ++ held_after [] worked ≡ joined worked =
      ap (λ (l : List Carried). joined worked ++ l) none.0 ∙ append-nil (joined worked) in
      let here : all_of next ≡ sent_on act step.stone step.position (all_of arrivals) =
      all-sent act step.stone step.position worked ∙ ap (flat_map f) (sym empty ∙ join) in
      all_come steps next (length-passed arrivals step same) none.1
      ∙ ap (λ (l : List Carried). through act l steps) here
