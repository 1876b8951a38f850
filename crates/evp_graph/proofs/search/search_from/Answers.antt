use Rattle.std.proofs.Common.{◌≡◌, ◌<◌, ◌∷◌, [], List, length, reverse, map, set, get_or, sym, ap, ◌∙◌, subst, arith}
use Rattle.std.proofs.lemmas.List.{get_or-set_same, reverse-append, nil_from_length}
use Rattle.evp_graph.specs.Search.{stones_back}
use Rattle.evp_graph.specs.declared.search.Mark.TheVariants.{New, Open, Done}
use Rattle.evp_graph.specs.declared.search.Visit.{Visit}
use Rattle.evp_graph.proofs.Cycles.{closed_from_turned, IsCycle-from_rotated}
use Rattle.evp_graph.proofs.Visits.{Searching, Searching-first, Searching-passed_at, Searching-entered, Searching-left, IsSettled-searched}
use Rattle.evp_graph.proofs.Visits.{row_read, looks_at, work, work-entered, begun_marked, done_opened, done_left, Contains-from_on}
use Rattle.evp_graph.proofs.Visits.{stone_of, open≢new, done≢new}
use Rattle.evp_graph.proofs.search.search_from.Goals as goal

pub loop-here-init : goal.loop-here-init
loop-here-init c =
    let targets = c.args.targets.now in
    let marks = c.args.marks.now.items in
    let start = c.args.start in
    let inside : start < length marks = omega (arith, c.requires.settled.lengths, c.requires.within) in
    let P : List Visit → Type 0 = λ path. Searching targets (set marks start Open)
    (record { stone = start; position = 0 } ∷ reverse path) in
    record {
      searching = subst P (sym c.new-path.ensures.items)
          (Searching-first targets marks start c.requires.settled c.requires.within c.requires.fresh);
      begun = λ e. open≢new (sym (get_or-set_same marks start Open New inside) ∙ e);
      kept = λ s h. done_opened marks start s inside c.requires.fresh h;
    }

pub loop-here-preserved-in-Some : goal.loop-here-preserved-in-Some
loop-here-preserved-in-Some c =
    let targets = c.args.targets.now in
    let marks = c.loop-here.marks.items in
    let here = c.loop-here.here in
    let h = c.loop-here.invariant.searching in
    let row = row_read targets here.stone c.as_slice-row.result.now c.index-targets-here.result h.parts.0.within c.as_slice-row.ensures
    c.index-targets-here.is in
    let back = ap reverse c.in-Some.ensures.items ∙ reverse-append c.pop.new.self.items (c.in-Some.visit ∷ []) in
    let inside : here.stone < length marks = omega (arith, h.lengths, h.parts.0.within) in
    let P : List Visit → Type 0 = λ visits. Searching targets (set marks here.stone Done) visits in
    record {
      searching = subst P back (Searching-left targets marks here (reverse c.loop-here.path.items) h (c.if-here-row.true ∙ ap length row));
      begun = begun_marked marks here.stone c.args.start Done inside done≢new c.loop-here.invariant.begun;
      kept = λ s d. done_left marks here.stone s inside (c.loop-here.invariant.kept s d);
    }

pub returns-in-None-clause-settled : goal.returns-in-None-clause-settled
returns-in-None-clause-settled c =
    let targets = c.args.targets.now in
    let marks = c.loop-here.marks.items in
    let here = c.loop-here.here in
    let h = c.loop-here.invariant.searching in
    let row = row_read targets here.stone c.as_slice-row.result.now c.index-targets-here.result h.parts.0.within c.as_slice-row.ensures
    c.index-targets-here.is in
    let none : c.loop-here.path.items
    ≡ [] = nil_from_length c.loop-here.path.items (omega (arith, c.loop-here.path.ok.0, c.in-None.ensures.cases.0)) in
    let P : List Visit → Type 0 = λ path. Searching targets (set marks here.stone Done) (reverse path) in
    IsSettled-searched targets (set marks here.stone Done)
    (subst P none (Searching-left targets marks here (reverse c.loop-here.path.items) h (c.if-here-row.true ∙ ap length row)))

pub loop-here-preserved-in-Done : goal.loop-here-preserved-in-Done
loop-here-preserved-in-Done c =
    let targets = c.args.targets.now in
    let marks = c.loop-here.marks.items in
    let here = c.loop-here.here in
    let rest = reverse c.loop-here.path.items in
    let h = c.loop-here.invariant.searching in
    let row = row_read targets here.stone c.as_slice-row.result.now c.index-targets-here.result h.parts.0.within c.as_slice-row.ensures
    c.index-targets-here.is in
    let at = looks_at targets marks here rest c.as_slice-row.result.now c.index.result.now c.requires.targets h row c.if-here-row.false
    c.index.ensures in
    record {
      searching = Searching-passed_at targets marks here rest c.as_slice-row.result.now row h c.if-here-row.false (at.marked
          ∙ c.in-Done.is);
      begun = c.loop-here.invariant.begun;
      kept = c.loop-here.invariant.kept;
    }

pub loop-here-smaller : goal.loop-here-smaller
loop-here-smaller c =
    let targets = c.args.targets.now in
    let marks = c.loop-here.marks.items in
    let here = c.loop-here.here in
    let rest = reverse c.loop-here.path.items in
    let h = c.loop-here.invariant.searching in
    let row = row_read targets here.stone c.as_slice-row.result.now c.index-targets-here.result h.parts.0.within c.as_slice-row.ensures
    c.index-targets-here.is in
    let t = get_or c.as_slice-row.result.now here.position 0 in
    let at = looks_at targets marks here rest c.as_slice-row.result.now c.index.result.now c.requires.targets h row c.if-here-row.false
    c.index.ensures in
    let back = ap reverse c.in_ok-push-in-New.ensures.items ∙ reverse-append c.loop-here.path.items (here ∷ []) in
    let P : List Visit → Type 0 = λ visits. work targets (set marks t Open)
    (record { stone = t; position = 0 } ∷ visits) < work targets marks (here ∷ rest) in
    subst P (sym back) (work-entered targets marks (here ∷ rest) t at.inside (at.marked
    ∙ c.in-New.is) (c.requires.positions t [] at.within))

pub loop-here-preserved : goal.loop-here-preserved
loop-here-preserved c =
    let targets = c.args.targets.now in
    let marks = c.loop-here.marks.items in
    let here = c.loop-here.here in
    let rest = reverse c.loop-here.path.items in
    let h = c.loop-here.invariant.searching in
    let row = row_read targets here.stone c.as_slice-row.result.now c.index-targets-here.result h.parts.0.within c.as_slice-row.ensures
    c.index-targets-here.is in
    let t = get_or c.as_slice-row.result.now here.position 0 in
    let at = looks_at targets marks here rest c.as_slice-row.result.now c.index.result.now c.requires.targets h row c.if-here-row.false
    c.index.ensures in
    let back = ap reverse c.in_ok-push-in-New.ensures.items ∙ reverse-append c.loop-here.path.items (here ∷ []) in
    let P : List Visit → Type 0 = λ visits. Searching targets (set marks t Open) (record { stone = t; position = 0 } ∷ visits) in
    record {
      searching = subst P (sym back) (Searching-entered targets marks here rest t h at.target at.within (at.marked ∙ c.in-New.is));
      begun = begun_marked marks t c.args.start Open at.inside open≢new c.loop-here.invariant.begun;
      kept = λ s d. done_opened marks t s at.inside (at.marked ∙ c.in-New.is) (c.loop-here.invariant.kept s d);
    }

pub stones_from-requires : goal.stones_from-requires
stones_from-requires c =
    let targets = c.args.targets.now in
    let marks = c.loop-here.marks.items in
    let here = c.loop-here.here in
    let rest = reverse c.loop-here.path.items in
    let h = c.loop-here.invariant.searching in
    let row = row_read targets here.stone c.as_slice-row.result.now c.index-targets-here.result h.parts.0.within c.as_slice-row.ensures
    c.index-targets-here.is in
    let t = get_or c.as_slice-row.result.now here.position 0 in
    let at = looks_at targets marks here rest c.as_slice-row.result.now c.index.result.now c.requires.targets h row c.if-here-row.false
    c.index.ensures in
    Contains-from_on t (map stone_of (here ∷ rest)) (h.open_on t (at.marked ∙ c.in-Open.is))

pub returns-in-Open-clause-cycle : goal.returns-in-Open-clause-cycle
returns-in-Open-clause-cycle c =
    let targets = c.args.targets.now in
    let here = c.loop-here.here in
    let rest = reverse c.loop-here.path.items in
    let h = c.loop-here.invariant.searching in
    let row = row_read targets here.stone c.as_slice-row.result.now c.index-targets-here.result h.parts.0.within c.as_slice-row.ensures
    c.index-targets-here.is in
    let t = get_or c.as_slice-row.result.now here.position 0 in
    let at = looks_at targets c.loop-here.marks.items here rest c.as_slice-row.result.now c.index.result.now c.requires.targets h row
    c.if-here-row.false c.index.ensures in
    let stones = c.in_ok-stones-in-Open.stones.items in
    let closed = closed_from_turned targets (stones_back c.loop-here.path.items here.stone) t stones
    (at.target, h.linked) h.differ c.in_ok-stones-in-Open.ensures in
    IsCycle-from_rotated targets stones c.from_smallest.result closed.0 closed.1 c.from_smallest.ensures
