use Rattle.std.proofs.Common.{◌≡◌, ◌<◌, ℕ, length, inl, inr, sym, ◌∙◌, arith}
use Rattle.std.proofs.lemmas.Bool.{cases_lt}
use Rattle.std.proofs.lemmas.List.{get_or_read}
use borrow.Author.Count.{below_more}
use Rattle.evp_graph.specs.Search.{IsSettled, mark_of}
use Rattle.evp_graph.specs.declared.search.Mark.TheVariants.{New, Done}
use Rattle.evp_graph.proofs.Paths.{IsAcyclic-from_safe, IsSafe-no_stone}
use Rattle.evp_graph.proofs.search.find_cycle.Goals as goal
use Rattle.evp_graph.proofs.search.find_cycle.Goals.{in-Open, in-New+in_ok-cycle-in-New+in_default}

pub loop-stone-preserved : goal.loop-stone-preserved
loop-stone-preserved c =
    let targets = c.args.targets.now in
    let old = c.loop-stone.marks.items in
    let k = c.loop-stone.stone in
    let h = c.loop-stone.invariant in
    elim c.match-index.branch [
      | in-Open w ↦
          (let inside : k < length old = omega (arith, h.0.lengths) in
          let mark : mark_of old k ≡ c.index.result.now = sym (get_or_read old k c.index.result.now inside c.index.ensures New) in
          let done : mark_of old k ≡ Done = elim w.in-Open.is [ inl e ↦ absurd (h.0.closed k (mark ∙ e)) | inr e ↦ mark ∙ e ] in
          rw w.marks-is (h.0, below_more (λ s. mark_of old s ≡ Done) k h.1 done))
      | in-New+in_ok-cycle-in-New+in_default w ↦
          (let new = w.search_from.new.marks.items in
          let e = w.in_ok-cycle-in-New.ensures in
          let settled : IsSettled targets new = rw w.in_default.is at e.settled in
          let here : mark_of new k ≡ Done = rw w.in_default.is at e.start in
          let kept : (s : ℕ) → mark_of old s ≡ Done → mark_of new s ≡ Done = rw w.in_default.is at e.kept in
          rw w.marks-is (settled, below_more (λ s. mark_of new s ≡ Done) k (λ s l. kept s (h.1 s l)) here))
    ]

pub returns-clause-none : goal.returns-clause-none
returns-clause-none c =
    let targets = c.args.targets.now in
    IsAcyclic-from_safe targets
    (λ a. elim (cases_lt a (length targets)) [
      | inl lt ↦ c.loop-stone.invariant.0.safe a
          (c.loop-stone.invariant.1 a (omega arith))
      | inr past ↦ IsSafe-no_stone targets a past
    ])
