-- A round of a route at its last stone: what it acts on next, what it sends on of that, and how the round ends.
use Rattle.std.proofs.Common.{◌≡◌, ℕ, zero, suc, ◌+◌, Bool, true, false, List, [], ◌∷◌, ◌++◌, length, map, take, Some, append_assoc}
use Rattle.std.proofs.Common.{refl, sym, ap, ◌∙◌, arith}
use Rattle.std.proofs.lemmas.List.{append-nil}
use Rattle.std.proofs.lemmas.List.Concat.{flat_map-append}
use Rattle.std.proofs.lemmas.Option.{slice_get-map}
use Rattle.std.specs.Prelude.{slice_index_or}
use Rattle.std.specs.List.{slice_get}
use Rattle.evp_stone.specs.Carried.{Carried, Acts, sent_on, part_to, outcome_of}
use Rattle.evp_stone.specs.Flow.{item, mark, flow_from}
use Rattle.evp_stone.specs.Rounds.{Worked, round_of, rounds_from, held_after}
use Rattle.evp_stone.specs.State.{front_of, IsFront, Works}
use Rattle.evp_stone.proofs.Fronts.{GoesOnBy, front_record, front_end}

-- a round among those that begin with what is kept
pub round_at : (kept : List Carried) (frozen : List Bool) (arrivals : List (List Carried)) (round : ℕ) (came : List Carried)
    → length frozen ≡ length arrivals → slice_get arrivals round ≡ Some came
    → slice_get (rounds_from kept frozen arrivals) round ≡ Some (round_of (slice_index_or frozen round true)
    (held_after kept (take round (rounds_from kept frozen arrivals)) ++ came))
round_at kept [] [] round came same at = absurd (cc)
round_at kept [] (new ∷ arrivals) round came same at = absurd (omega arith)
round_at kept (f ∷ frozen) [] round came same at = absurd (omega arith)
round_at kept (f ∷ frozen) (new ∷ arrivals) zero came same at =
    let is : new ≡ came = cc in ap (λ (l : List Carried). Some (round_of f (kept ++ l))) is
round_at kept (f ∷ frozen) (new ∷ arrivals) (suc round) came same at =
    round_at (round_of f (kept ++ new)).held frozen arrivals round came (omega arith) at

-- what is kept behind a round
pub held_at : (kept : List Carried) (rounds : List Worked) (round : ℕ) (worked : Worked) → slice_get rounds round ≡ Some worked
    → held_after kept (take (suc round) rounds) ≡ worked.held
held_at kept [] round worked at = absurd (cc)
held_at kept (r ∷ rounds) zero worked at = let is : r ≡ worked = cc in ap (λ (w : Worked). w.held) is
held_at kept (r ∷ rounds) (suc round) worked at = held_at r.held rounds round worked at

-- a frozen stone keeps one record more
pub works_kept : (before new done kept : List Carried) (c : Carried) → Works true (before ++ new) done kept
    → Works true (before ++ (new ++ c ∷ [])) done (kept ++ c ∷ [])
works_kept before new done kept c works =
    (works.0, ap (λ (l : List Carried). l ++ c ∷ []) works.1 ∙ append_assoc before new (c ∷ []))

-- a stone acts on the first record that it keeps
pub works_first : (records done kept : List Carried) (c : Carried) → Works false records done (c ∷ kept)
    → Works false records (done ++ c ∷ []) kept
works_first records done kept c works = append_assoc done (c ∷ []) kept ∙ works

-- a stone that keeps none acts on the one that comes
pub works_new : (before new done : List Carried) (c : Carried) → Works false (before ++ new) done []
    → Works false (before ++ (new ++ c ∷ [])) (done ++ c ∷ []) []
works_new before new done c works =
    append-nil (done ++ c ∷ []) ∙ ap (λ (l : List Carried). l ++ c ∷ []) (sym (append-nil done) ∙ works)
    ∙ append_assoc before new (c ∷ [])

-- at its end a round is what the stone acted on and what it keeps
pub works_end : (frozen : Bool) (records done kept : List Carried) → Works frozen records done kept → (frozen ≡ false → kept ≡ [])
    → round_of frozen records ≡ record { done = done; held = kept }
works_end true records done kept works none =
    ap (λ (l : List Carried). record { done = l; held = records }) (sym works.0)
    ∙ ap (λ (l : List Carried). record { done = done; held = l }) (sym works.1)
works_end false records done kept works none =
    ap (λ (l : List Carried). record { done = l; held = [] })
    (sym works ∙ ap (λ (l : List Carried). done ++ l) (none refl) ∙ append-nil done)
    ∙ ap (λ (l : List Carried). record { done = done; held = l }) (sym (none refl))

-- the record on which the stone acts next in a round, where it acted on these
pub record ActsNext (rounds : List Worked) (round : ℕ) (done : List Carried) (c : Carried) : Type 0 where
  pub worked : Worked
  pub there : slice_get rounds round ≡ Some worked
  pub later : List Carried
  pub whole : worked.done ≡ done ++ c ∷ later

-- it is the first that it keeps
pub next_kept : (rounds : List Worked) (round : ℕ) (before new later done kept : List Carried) (c : Carried)
    → slice_get rounds round ≡ Some (round_of false (before ++ (new ++ later))) → Works false (before ++ new) done (c ∷ kept)
    → ActsNext rounds round done c
next_kept rounds round before new later done kept c at works = record {
  worked = round_of false (before ++ (new ++ later));
  there = at;
  later = kept ++ later;
  whole = sym (append_assoc before new later) ∙ ap (λ (l : List Carried). l ++ later) (sym works)
      ∙ append_assoc done (c ∷ kept) later;
}

-- or the one that comes
pub next_new : (rounds : List Worked) (round : ℕ) (before new later done : List Carried) (c : Carried)
    → slice_get rounds round ≡ Some (round_of false (before ++ (new ++ c ∷ later))) → Works false (before ++ new) done []
    → ActsNext rounds round done c
next_new rounds round before new later done c at works = record {
  worked = round_of false (before ++ (new ++ c ∷ later));
  there = at;
  later = later;
  whole = sym (append_assoc before new (c ∷ later))
      ∙ ap (λ (l : List Carried). l ++ c ∷ later) (sym works ∙ append-nil done);
}

module _ (act : Acts) (stone position : ℕ) (rounds : List Worked) where
  abbrev sends : List Carried → List Carried
  sends records = sent_on act stone position records

  -- what comes to the target
  abbrev pub comes : List (List Carried)
  comes = map (λ (round : Worked). sends round.done) rounds

  pub come_at : (round : ℕ) (worked : Worked) → slice_get rounds round ≡ Some worked
      → slice_get comes round ≡ Some (sends worked.done)
  come_at round worked at = rw (slice_get-map (λ (round : Worked). sends round.done) rounds round, at) refl

  one_part : Carried → Carried → List Carried
  one_part c d = part_to position d (outcome_of act stone d)

  sends_more : (done : List Carried) (c : Carried) (parts : List Carried) → part_to position c (outcome_of act stone c) ≡ parts
      → sends (done ++ c ∷ []) ≡ sends done ++ parts
  sends_more done c parts is =
      flat_map-append (λ d. part_to position d (outcome_of act stone d)) done (c ∷ [])
      ∙ ap (λ (l : List Carried). sends done ++ l) (append-nil (part_to position c (outcome_of act stone c)) ∙ is)

  -- nothing of the record goes to the target
  pub sent_none : (count round : ℕ) (done : List Carried) (c : Carried) → part_to position c (outcome_of act stone c) ≡ []
      → IsFront (flow_from 0 comes) count (front_of comes round (sends done))
      → IsFront (flow_from 0 comes) count (front_of comes round (sends (done ++ c ∷ [])))
  sent_none count round done c none front =
      rw (sends_more done c [] none ∙ append-nil (sends done)) front

  -- it goes there as this one
  pub sent_one : (count round : ℕ) (done : List Carried) (c sent : Carried) → ActsNext rounds round done c
      → part_to position c (outcome_of act stone c) ≡ sent ∷ []
      → IsFront (flow_from 0 comes) count (front_of comes round (sends done))
      → GoesOnBy (flow_from 0 comes) count (item sent) (front_of comes round (sends (done ++ c ∷ [])))
  sent_one count round done c sent next is front =
      let came : slice_get comes round ≡ Some (sends done ++ sent ∷ sends next.later) =
      come_at round next.worked next.there
      ∙ ap (λ (l : List Carried). Some (sends l)) next.whole
      ∙ ap Some (flat_map-append (λ d. part_to position d (outcome_of act stone d)) done (c ∷ next.later)
      ∙ ap (λ (l : List Carried). sends done ++ (l ++ sends next.later)) is) in
      rw (sends_more done c (sent ∷ []) is) (front_record comes count round (sends done) (sends next.later) sent came (sym front.long))

  -- the round ends behind all that it acts on
  pub sent_end : (count round : ℕ) (worked : Worked) (done : List Carried) → slice_get rounds round ≡ Some worked → worked.done ≡ done
      → IsFront (flow_from 0 comes) count (front_of comes round (sends done))
      → GoesOnBy (flow_from 0 comes) count (mark round) (front_of comes (round + 1) [])
  sent_end count round worked done at is front =
      let came : slice_get comes round ≡ Some (sends done) = come_at round worked at ∙ ap (λ (l : List Carried). Some (sends l)) is in
      front_end comes count round (sends done) came (sym front.long)
