use Rattle.std.proofs.Common.{ℕ, ◌+◌, List, ◌∙◌, length, ap, sym, arith}
use Rattle.evp_plan.proofs.AllGathers.{cells_long}
use Rattle.evp_plan.proofs.Apart.{all_each, all_room, pairs_room}
use Rattle.evp_plan.proofs.Each.{each_left, none_yet, one_more, no_more}
use Rattle.evp_plan.specs.Cells.{Moving, gathered_each}
use Rattle.evp_plan.specs.Pairs.{in_pairs}
use Rattle.evp_plan.specs.declared.gather.Gather.{Gather}
use Rattle.evp_plan.specs.declared.gather.Pair.{Pair}
use Rattle.evp_plan.proofs.moves.Moves.run_each.Goals as goal

pub loop-k-init : goal.loop-k-init
loop-k-init c = none_yet c.args.from.now c.args.at.first c.args.at.apart c.args.to.first c.args.to.apart c.args.n c.args.self.now.cells
    c.args.out.now

pub loop-k-preserved : goal.loop-k-preserved
loop-k-preserved c =
    let at = c.args.at in
    let to = c.args.to in
    let cells = c.args.self.now.cells in
    let left = each_left c.args.from.now at.first at.apart to.first to.apart c.args.n cells in
    ap (left (c.loop-k.k + 1)) c.run.ensures.made
    ∙ one_more c.args.from.now at.first at.apart to.first to.apart c.args.n cells c.loop-k.k c.loop-k.out c.loop-k-test.true
    ∙ c.loop-k.invariant

pub returns : goal.returns
returns c =
    sym (no_more c.args.from.now c.args.at.first c.args.at.apart c.args.to.first c.args.to.apart c.args.n c.args.self.now.cells c.loop-k.k
    c.loop-k.out c.loop-k-test.false)
    ∙ c.loop-k.invariant

pub run_gathers_each-requires-clause-room : goal.run_gathers_each-requires-clause-room
run_gathers_each-requires-clause-room c =
    let m = c.self.inside in
    let to = c.args.to in
    let long = cells_long c.args.self.now.cells m.gathers m.length (sym (ap (λ (m : Moving). m.cells) c.self.view_is)) in
    all_room c.args.n m.length m.reach to.first to.apart (length c.args.out.now) c.as_slice.result.now m.gathers.plain.items
    c.as_slice.ensures.value c.self.invariant.0.first (λ k below. let room = c.requires.room k below in omega (arith, long, room))

pub run_pairs_each-requires-clause-room : goal.run_pairs_each-requires-clause-room
run_pairs_each-requires-clause-room c =
    let m = c.self.inside in
    let to = c.args.to in
    let long = cells_long c.args.self.now.cells m.gathers m.length (sym (ap (λ (m : Moving). m.cells) c.self.view_is)) in
    let same = c.run_gathers_each.auto.out in
    let apart = c.if-to-self.true in
    pairs_room c.args.n m.length m.reach to.first to.apart (length c.run_gathers_each.new.out) c.as_slice-then-to-self.result.now
    m.gathers.pairs.items c.as_slice-then-to-self.ensures.value c.self.invariant.0.second (omega (arith, apart))
    (λ k below. let room = c.requires.room k below in omega (arith, long, room, same))

pub run_gathers_each-requires-then-to-self-clause-room : goal.run_gathers_each-requires-then-to-self-clause-room
run_gathers_each-requires-then-to-self-clause-room c =
    let m = c.self.inside in
    let to = c.args.to in
    let long = cells_long c.args.self.now.cells m.gathers m.length (sym (ap (λ (m : Moving). m.cells) c.self.view_is)) in
    let same = c.run_gathers_each.auto.out in
    let same' = c.run_pairs_each.auto.out in
    all_room c.args.n m.length m.reach to.first to.apart (length c.run_pairs_each.new.out) c.as_slice-then-to-self-2.result.now
    m.gathers.mixed.items c.as_slice-then-to-self-2.ensures.value c.self.invariant.0.third
    (λ k below. let room = c.requires.room k below in omega (arith, long, room, same, same'))

pub returns-then-to-self : goal.returns-then-to-self
returns-then-to-self c =
    let m = c.self.inside in
    let to = c.args.to in
    let at = c.args.at in
    let is = sym (ap (λ (m : Moving). m.cells) c.self.view_is) in
    let long = cells_long c.args.self.now.cells m.gathers m.length is in
    let apart = c.if-to-self.true in
    let after = λ (gs : List Gather) (out : List ℕ). gathered_each c.args.from.now at.first at.apart to.first to.apart c.args.n gs out in
    all_each c.args.from.now at.first at.apart to.first to.apart c.args.n m.length m.reach m.gathers c.args.self.now.cells c.args.out.now
    c.run_gathers_each.new.out c.run_pairs_each.new.out c.run_gathers_each-then-to-self.new.out is c.self.invariant.0
    (omega (arith, apart)) (λ k below. let room = c.requires.room k below in omega (arith, long, room))
    (c.run_gathers_each.ensures ∙ ap (λ (gs : List Gather). after gs c.args.out.now) c.as_slice.ensures.value)
    (c.run_pairs_each.ensures
    ∙ ap (λ (ps : List Pair). after (in_pairs ps) c.run_gathers_each.new.out) c.as_slice-then-to-self.ensures.value)
    (c.run_gathers_each-then-to-self.ensures
    ∙ ap (λ (gs : List Gather). after gs c.run_pairs_each.new.out) c.as_slice-then-to-self-2.ensures.value)
