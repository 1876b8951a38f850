use Rattle.std.proofs.Common.{◌≡◌, List, length, true, refl, sym, ap, subst, ◌∙◌, Option, IfSome, arith}
use Rattle.std.specs.List.{All}
use Rattle.evp_format.proofs.Descriptions.{bytes_are}
use Rattle.evp_plan.specs.Cells.{Moving, gathered_at, IsGatherWithin}
use Rattle.evp_plan.specs.declared.gather.Both.{Both}
use Rattle.evp_plan.specs.declared.gather.Four.{Four}
use Rattle.evp_plan.specs.declared.gather.Gather.{Gather}
use Rattle.evp_plan.specs.declared.gather.Pair.{Pair}
use Rattle.evp_plan.specs.declared.gather.Two.{Two}
use Rattle.evp_plan.specs.Fours.{in_fours, AreTwo}
use Rattle.evp_plan.specs.Pairs.{in_pairs, AreBoth}
use Rattle.evp_plan.proofs.AllGathers.{all_gathers, both_fit, cells_long, pairs_fit}
use Rattle.evp_plan.proofs.FourLists.{both_parts, fours_fit, two_fit, rest_all, no_gathers, no_pairs}
use Rattle.evp_plan.proofs.Gathered.{all_fit}
use Rattle.evp_plan.proofs.moves.Moves.run.Goals as goal
use Rattle.evp_plan.proofs.moves.Moves.run.Goals.{in-Some+else-self+in_default, in-None+else-self-2}

pub run_two-requires-clause-first : goal.run_two-requires-clause-first
run_two-requires-clause-first c =
    let m = c.self.inside in
    let two = c.in-Some.two in
    let long = cells_long c.args.self.now.cells m.gathers m.length (sym (ap (λ (m : Moving). m.cells) c.self.view_is)) in
    let reach = ap (λ (m : Moving). m.reach) c.self.view_is in
    let reaches = c.requires.reach in
    let fits = c.requires.room in
    let are = subst (λ (o : Option Two). IfSome o (AreTwo m.gathers.plain.items)) c.in-Some.is c.self.invariant.1.1.1.1.0 in
    (two_fit m.length m.reach c.args.at c.args.t (length c.args.from.now) (length c.args.out.now) two.one two.two m.gathers.plain.items
    are c.self.invariant.0.first (omega (arith, reach, reaches)) (omega (arith, long, fits))).0

pub run_two-requires-clause-second : goal.run_two-requires-clause-second
run_two-requires-clause-second c =
    let m = c.self.inside in
    let two = c.in-Some.two in
    let long = cells_long c.args.self.now.cells m.gathers m.length (sym (ap (λ (m : Moving). m.cells) c.self.view_is)) in
    let reach = ap (λ (m : Moving). m.reach) c.self.view_is in
    let reaches = c.requires.reach in
    let fits = c.requires.room in
    let are = subst (λ (o : Option Two). IfSome o (AreTwo m.gathers.plain.items)) c.in-Some.is c.self.invariant.1.1.1.1.0 in
    (two_fit m.length m.reach c.args.at c.args.t (length c.args.from.now) (length c.args.out.now) two.one two.two m.gathers.plain.items
    are c.self.invariant.0.first (omega (arith, reach, reaches)) (omega (arith, long, fits))).1

pub returns-then-self-clause-made : goal.returns-then-self-clause-made
returns-then-self-clause-made c =
    let m = c.self.inside in
    let from = c.args.from.now in
    let at = c.args.at in
    let t = c.args.t in
    let is = sym (ap (λ (m : Moving). m.cells) c.self.view_is) in
    let long = cells_long c.args.self.now.cells m.gathers m.length is in
    let fits = c.requires.room in
    let are = subst (λ (o : Option Two). IfSome o (AreTwo m.gathers.plain.items)) c.in-Some.is c.self.invariant.1.1.1.1.0 in
    let only = c.self.invariant.1.1.0 c.if-self.true in
    let out = c.run_two.new.out in
    let plain = c.run_two.ensures ∙ ap (λ (gs : List Gather). gathered_at from at t gs c.args.out.now) (sym are) in
    all_gathers from at t m.length m.reach m.gathers c.args.self.now.cells c.args.out.now out out out is c.self.invariant.0
    (omega (arith, long, fits)) plain (no_pairs from at t m.gathers.pairs.items out only.no_pairs)
    (no_gathers from at t m.gathers.mixed.items out only.no_mixed)

pub returns-then-self-clause-bytes : goal.returns-then-self-clause-bytes
returns-then-self-clause-bytes c = bytes_are c.args.from.now (λ k. omega (arith, c.type_inv.from k))

pub run_both-requires-clause-first : goal.run_both-requires-clause-first
run_both-requires-clause-first c =
    let m = c.self.inside in
    let both = c.in-Some-both.both in
    let long = cells_long c.args.self.now.cells m.gathers m.length (sym (ap (λ (m : Moving). m.cells) c.self.view_is)) in
    let reach = ap (λ (m : Moving). m.reach) c.self.view_is in
    let reaches = c.requires.reach in
    let fits = c.requires.room in
    let same = c.run_two.auto.out in
    let are = subst (λ (o : Option Both). IfSome o (AreBoth m.gathers)) c.in-Some-both.is c.self.invariant.1.1.1.1.1 in
    (both_fit m.length m.reach c.args.at c.args.t (length c.args.from.now) (length c.run_two.new.out) both.one both.two
    m.gathers.pairs.items are.pairs c.self.invariant.0.second (omega (arith, reach, reaches)) (omega (arith, long, fits, same))).0

pub run_both-requires-clause-second : goal.run_both-requires-clause-second
run_both-requires-clause-second c =
    let m = c.self.inside in
    let both = c.in-Some-both.both in
    let long = cells_long c.args.self.now.cells m.gathers m.length (sym (ap (λ (m : Moving). m.cells) c.self.view_is)) in
    let reach = ap (λ (m : Moving). m.reach) c.self.view_is in
    let reaches = c.requires.reach in
    let fits = c.requires.room in
    let same = c.run_two.auto.out in
    let are = subst (λ (o : Option Both). IfSome o (AreBoth m.gathers)) c.in-Some-both.is c.self.invariant.1.1.1.1.1 in
    (both_fit m.length m.reach c.args.at c.args.t (length c.args.from.now) (length c.run_two.new.out) both.one both.two
    m.gathers.pairs.items are.pairs c.self.invariant.0.second (omega (arith, reach, reaches)) (omega (arith, long, fits, same))).1

pub returns-in-Some-both-clause-made : goal.returns-in-Some-both-clause-made
returns-in-Some-both-clause-made c =
    let m = c.self.inside in
    let from = c.args.from.now in
    let at = c.args.at in
    let t = c.args.t in
    let is = sym (ap (λ (m : Moving). m.cells) c.self.view_is) in
    let long = cells_long c.args.self.now.cells m.gathers m.length is in
    let fits = c.requires.room in
    let two = subst (λ (o : Option Two). IfSome o (AreTwo m.gathers.plain.items)) c.in-Some.is c.self.invariant.1.1.1.1.0 in
    let are = subst (λ (o : Option Both). IfSome o (AreBoth m.gathers)) c.in-Some-both.is c.self.invariant.1.1.1.1.1 in
    let out = c.run_both.new.out in
    let plain = c.run_two.ensures ∙ ap (λ (gs : List Gather). gathered_at from at t gs c.args.out.now) (sym two) in
    let pairs = c.run_both.ensures
    ∙ ap (λ (ps : List Pair). gathered_at from at t (in_pairs ps) c.run_two.new.out) (sym are.pairs) in
    all_gathers from at t m.length m.reach m.gathers c.args.self.now.cells c.args.out.now c.run_two.new.out out out is
    c.self.invariant.0 (omega (arith, long, fits)) plain pairs (no_gathers from at t m.gathers.mixed.items out are.no_mixed)

pub returns-in-Some-both-clause-bytes : goal.returns-in-Some-both-clause-bytes
returns-in-Some-both-clause-bytes c = bytes_are c.args.from.now (λ k. omega (arith, c.type_inv.from k))

pub run_in_fours-requires : goal.run_in_fours-requires
run_in_fours-requires c =
    let m = c.self.inside in
    let long = cells_long c.args.self.now.cells m.gathers m.length (sym (ap (λ (m : Moving). m.cells) c.self.view_is)) in
    let reach = ap (λ (m : Moving). m.reach) c.self.view_is in
    let reaches = c.requires.reach in
    let fits = c.requires.room in
    fours_fit m.length m.reach c.args.at c.args.t (length c.args.from.now) (length c.args.out.now) m.gathers.plain.items m.rest.items
    m.fours.items c.as_slice.result.now c.as_slice.ensures.value c.self.invariant.1.0 c.self.invariant.0.first
    (omega (arith, reach, reaches)) (omega (arith, long, fits))

pub returns-then-self-2-clause-made : goal.returns-then-self-2-clause-made
returns-then-self-2-clause-made c =
    let m = c.self.inside in
    let from = c.args.from.now in
    let at = c.args.at in
    let t = c.args.t in
    let is = sym (ap (λ (m : Moving). m.cells) c.self.view_is) in
    let long = cells_long c.args.self.now.cells m.gathers m.length is in
    let fits = c.requires.room in
    let only = c.self.invariant.1.1.1.0 c.if-self-2.true in
    let out = c.run_in_fours.new.out in
    let fours = c.run_in_fours.ensures
    ∙ ap (λ (fs : List Four). gathered_at from at t (in_fours fs) c.args.out.now) c.as_slice.ensures.value in
    let plain = both_parts from at t m.gathers.plain.items m.rest.items m.fours.items c.args.out.now out out c.self.invariant.1.0 fours
    (no_gathers from at t m.rest.items out only.no_rest) in
    all_gathers from at t m.length m.reach m.gathers c.args.self.now.cells c.args.out.now out out out is c.self.invariant.0
    (omega (arith, long, fits)) plain (no_pairs from at t m.gathers.pairs.items out only.only_plain.no_pairs)
    (no_gathers from at t m.gathers.mixed.items out only.only_plain.no_mixed)

pub returns-then-self-2-clause-bytes : goal.returns-then-self-2-clause-bytes
returns-then-self-2-clause-bytes c = bytes_are c.args.from.now (λ k. omega (arith, c.type_inv.from k))

pub run_rest-requires-clause-plain : goal.run_rest-requires-clause-plain
run_rest-requires-clause-plain c =
    let m = c.self.inside in
    let Plain : Gather → Type 0 = λ gather. gather.plain ≡ true in
    subst (λ (gs : List Gather). All Plain gs) (sym c.as_slice-in-None.ensures.value)
    (rest_all Plain m.gathers.plain.items m.rest.items m.fours.items c.self.invariant.1.0 c.self.invariant.0.plain)

pub run_rest-requires-clause-within : goal.run_rest-requires-clause-within
run_rest-requires-clause-within c =
    let m = c.self.inside in
    let long = cells_long c.args.self.now.cells m.gathers m.length (sym (ap (λ (m : Moving). m.cells) c.self.view_is)) in
    let reach = ap (λ (m : Moving). m.reach) c.self.view_is in
    let reaches = c.requires.reach in
    let fits = c.requires.room in
    let same = c.run_in_fours.auto.out in
    all_fit m.length m.reach c.args.at c.args.t (length c.args.from.now) (length c.run_in_fours.new.out) c.as_slice-in-None.result.now
    m.rest.items c.as_slice-in-None.ensures.value
    (rest_all (IsGatherWithin m.length m.reach) m.gathers.plain.items m.rest.items m.fours.items c.self.invariant.1.0
    c.self.invariant.0.first) (omega (arith, reach, reaches)) (omega (arith, long, fits, same))

pub run_behind-requires-clause-pairs : goal.run_behind-requires-clause-pairs
run_behind-requires-clause-pairs c =
    let m = c.self.inside in
    let long = cells_long c.args.self.now.cells m.gathers m.length (sym (ap (λ (m : Moving). m.cells) c.self.view_is)) in
    let reach = ap (λ (m : Moving). m.reach) c.self.view_is in
    let reaches = c.requires.reach in
    let fits = c.requires.room in
    let same = c.match-self.auto.out in
    pairs_fit m.length m.reach c.args.at c.args.t (length c.args.from.now) (length c.match-self.out) m.gathers.pairs.items
    m.gathers.pairs.items refl c.self.invariant.0.second (omega (arith, reach, reaches)) (omega (arith, long, fits, same))

pub run_behind-requires-clause-mixed : goal.run_behind-requires-clause-mixed
run_behind-requires-clause-mixed c =
    let m = c.self.inside in
    let long = cells_long c.args.self.now.cells m.gathers m.length (sym (ap (λ (m : Moving). m.cells) c.self.view_is)) in
    let reach = ap (λ (m : Moving). m.reach) c.self.view_is in
    let reaches = c.requires.reach in
    let fits = c.requires.room in
    let same = c.match-self.auto.out in
    all_fit m.length m.reach c.args.at c.args.t (length c.args.from.now) (length c.match-self.out) m.gathers.mixed.items
    m.gathers.mixed.items refl c.self.invariant.0.third (omega (arith, reach, reaches)) (omega (arith, long, fits, same))

pub returns-clause-made : goal.returns-clause-made
returns-clause-made c =
    let m = c.self.inside in
    let from = c.args.from.now in
    let at = c.args.at in
    let t = c.args.t in
    let old = c.args.out.now in
    let is = sym (ap (λ (m : Moving). m.cells) c.self.view_is) in
    let long = cells_long c.args.self.now.cells m.gathers m.length is in
    let fits = c.requires.room in
    let plain : c.match-self.out ≡ gathered_at from at t m.gathers.plain.items old = elim c.match-self.branch [
      | in-Some+else-self+in_default w ↦
          let are = subst (λ (o : Option Two). IfSome o (AreTwo m.gathers.plain.items)) w.in-Some.is c.self.invariant.1.1.1.1.0 in
          w.out-is ∙ w.run_two.ensures ∙ ap (λ (gs : List Gather). gathered_at from at t gs old) (sym are)
      | in-None+else-self-2 w ↦
          let fours = w.run_in_fours.ensures
          ∙ ap (λ (fs : List Four). gathered_at from at t (in_fours fs) old) w.as_slice.ensures.value in
          let rest = w.run_rest.ensures
          ∙ ap (λ (gs : List Gather). gathered_at from at t gs w.run_in_fours.new.out) w.as_slice-in-None.ensures.value in
          w.out-is ∙ both_parts from at t m.gathers.plain.items m.rest.items m.fours.items old w.run_in_fours.new.out
          w.run_rest.new.out c.self.invariant.1.0 fours rest
    ] in
    let behind = gathered_at from at t (in_pairs m.gathers.pairs.items) c.match-self.out in
    all_gathers from at t m.length m.reach m.gathers c.args.self.now.cells old c.match-self.out behind c.run_behind.new.out is
    c.self.invariant.0 (omega (arith, long, fits)) plain refl c.run_behind.ensures

pub returns-clause-bytes : goal.returns-clause-bytes
returns-clause-bytes c = bytes_are c.args.from.now (λ k. omega (arith, c.type_inv.from k))
