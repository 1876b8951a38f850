use Rattle.std.proofs.Common.{ℕ, ◌≤◌, set, Some, sym, ap, subst, ◌∙◌}
use Rattle.std.specs.Prelude.{IfOk, IfErr}
use Rattle.std.specs.Vec.{with_item}
use Rattle.evp_queue.specs.declared.queue.StoneQueue.{StoneQueue}
use Rattle.evp_stone.specs.declared.entry.Entry.{Entry}
use Rattle.evp_stone.specs.JobShape.{JobShape}
use Rattle.evp_stone.specs.Port.{OneMore, NotGiven}
use Rattle.evp_crew.specs.Ends.{PortShape}
use Rattle.evp_crew.specs.Passes.{Giver, given_by, fulls_by, AreOf, Stay}
use Rattle.evp_crew.proofs.Giving.{in_vec, read_at, ready, giver_for, can_give, is_given, is_back, fulls_stay, still_of, stays_by}
use Rattle.evp_crew.proofs.port.CrewPortPort.give.Goals as goal

pub index-requires : goal.index-requires
index-requires g c =
    let crew = c.self.inside.crew.now in
    let job = c.self.inside.job.now in
    let passes = c.self.inside.passes in
    let gives = passes.gives.items in
    let place = c.from-target.result in
    let may = ready record { crew = crew; job = job; passes = passes } c.args.self.now c.args.target place c.args.entry c.self.view_is
    c.from-target.ensures c.requires in
    let giver = giver_for crew job passes place c.args.entry c.self.invariant may in
    in_vec crew.queues place giver.in_crew.queue giver.in_crew.there

pub index_mut-requires : goal.index_mut-requires
index_mut-requires g c =
    let crew = c.self.inside.crew.now in
    let job = c.self.inside.job.now in
    let passes = c.self.inside.passes in
    let gives = passes.gives.items in
    let place = c.from-target.result in
    let may = ready record { crew = crew; job = job; passes = passes } c.args.self.now c.args.target place c.args.entry c.self.view_is
    c.from-target.ensures c.requires in
    let giver = giver_for crew job passes place c.args.entry c.self.invariant may in
    in_vec passes.gives place (Some giver.pass) giver.there

pub give_by-requires : goal.give_by-requires
give_by-requires g c =
    let crew = c.self.inside.crew.now in
    let job = c.self.inside.job.now in
    let passes = c.self.inside.passes in
    let gives = passes.gives.items in
    let place = c.from-target.result in
    let may = ready record { crew = crew; job = job; passes = passes } c.args.self.now c.args.target place c.args.entry c.self.view_is
    c.from-target.ensures c.requires in
    let giver = giver_for crew job passes place c.args.entry c.self.invariant may in
    can_give crew job gives place c.args.entry giver c.index.result.now c.index_mut.result.now c.index.ensures c.index_mut.ensures.value

pub invariant_of-self : goal.invariant_of-self
invariant_of-self g c =
    let crew = c.self.inside.crew.now in
    let job = c.self.inside.job.now in
    let passes = c.self.inside.passes in
    let gives = passes.gives.items in
    let place = c.from-target.result in
    let may = ready record { crew = crew; job = job; passes = passes } c.args.self.now c.args.target place c.args.entry c.self.view_is
    c.from-target.ensures c.requires in
    let giver = giver_for crew job passes place c.args.entry c.self.invariant may in
    let queue = c.index.result.now in
    let gave = c.give_by.ensures giver.pass (read_at gives place c.index_mut.result.now (Some giver.pass) giver.there
    c.index_mut.ensures.value) in
    let old = giver.pass in
    let new = gave.0 in
    let at = giver.in_crew.there ∙ ap (λ (q : StoneQueue Entry JobShape). Some q)
    (sym (read_at crew.queues.items place queue giver.in_crew.queue giver.in_crew.there c.index.ensures)) in
    subst (λ (o : Giver). AreOf crew job record { alloc = passes.alloc; take = passes.take; gives = with_item passes.gives place o })
    (sym gave.1)
    (still_of crew job passes c.self.invariant place old new giver.there queue c.args.entry c.give_by.result gave.2 at)

pub returns-clause-moves : goal.returns-clause-moves
returns-clause-moves g c =
    let crew = c.self.inside.crew.now in
    let job = c.self.inside.job.now in
    let passes = c.self.inside.passes in
    let gives = passes.gives.items in
    let place = c.from-target.result in
    let may = ready record { crew = crew; job = job; passes = passes } c.args.self.now c.args.target place c.args.entry c.self.view_is
    c.from-target.ensures c.requires in
    let giver = giver_for crew job passes place c.args.entry c.self.invariant may in
    let queue = c.index.result.now in
    let gave = c.give_by.ensures giver.pass (read_at gives place c.index_mut.result.now (Some giver.pass) giver.there
    c.index_mut.ensures.value) in
    let old = giver.pass in
    let new = gave.0 in
    let stay = subst (λ (o : Giver). Stay job passes record
    { alloc = passes.alloc; take = passes.take; gives = with_item passes.gives place o }) (sym gave.1)
    (stays_by crew job passes c.self.invariant place old new giver.there queue c.args.entry c.give_by.result gave.2) in
    let same = c.self.view_is in (
      ap (λ (p : PortShape). p.crew) same,
      ap (λ (p : PortShape). p.job) same,
      subst (λ (p : PortShape). Stay p.job p.passes record
          { alloc = passes.alloc; take = passes.take; gives = with_item passes.gives place c.give_by.new.giver })
          same stay,
    )

pub returns-clause-fulls : goal.returns-clause-fulls
returns-clause-fulls g c =
    let crew = c.self.inside.crew.now in
    let job = c.self.inside.job.now in
    let passes = c.self.inside.passes in
    let gives = passes.gives.items in
    let place = c.from-target.result in
    let may = ready record { crew = crew; job = job; passes = passes } c.args.self.now c.args.target place c.args.entry c.self.view_is
    c.from-target.ensures c.requires in
    let giver = giver_for crew job passes place c.args.entry c.self.invariant may in
    let queue = c.index.result.now in
    let gave = c.give_by.ensures giver.pass (read_at gives place c.index_mut.result.now (Some giver.pass) giver.there
    c.index_mut.ensures.value) in
    let old = giver.pass in
    let new = gave.0 in
    subst (λ (p : PortShape). (stone : ℕ) → fulls_by p.passes.gives.items stone ≤ fulls_by (set gives place c.give_by.new.giver) stone)
    c.self.view_is
    (subst (λ (o : Giver). (stone : ℕ) → fulls_by gives stone ≤ fulls_by (set gives place o) stone) (sym gave.1)
    (fulls_stay job gives place old new giver.there queue c.args.entry c.give_by.result gave.2))

pub returns-clause-given : goal.returns-clause-given
returns-clause-given g c =
    let crew = c.self.inside.crew.now in
    let job = c.self.inside.job.now in
    let passes = c.self.inside.passes in
    let gives = passes.gives.items in
    let place = c.from-target.result in
    let may = ready record { crew = crew; job = job; passes = passes } c.args.self.now c.args.target place c.args.entry c.self.view_is
    c.from-target.ensures c.requires in
    let giver = giver_for crew job passes place c.args.entry c.self.invariant may in
    let queue = c.index.result.now in
    let gave = c.give_by.ensures giver.pass (read_at gives place c.index_mut.result.now (Some giver.pass) giver.there
    c.index_mut.ensures.value) in
    let old = giver.pass in
    let new = gave.0 in
    subst (λ (p : PortShape). IfOk c.give_by.result (λ x. OneMore (given_by p.job p.passes.gives.items)
    (given_by job (set gives place c.give_by.new.giver)) c.args.entry)) c.self.view_is
    (subst (λ (o : Giver). IfOk c.give_by.result (λ x. OneMore (given_by job gives) (given_by job (set gives place o)) c.args.entry))
    (sym gave.1) (is_given job gives place old new giver.there c.args.entry may.leads may.next queue c.give_by.result gave.2))

pub returns-clause-back : goal.returns-clause-back
returns-clause-back g c =
    let crew = c.self.inside.crew.now in
    let job = c.self.inside.job.now in
    let passes = c.self.inside.passes in
    let gives = passes.gives.items in
    let place = c.from-target.result in
    let may = ready record { crew = crew; job = job; passes = passes } c.args.self.now c.args.target place c.args.entry c.self.view_is
    c.from-target.ensures c.requires in
    let giver = giver_for crew job passes place c.args.entry c.self.invariant may in
    let queue = c.index.result.now in
    let gave = c.give_by.ensures giver.pass (read_at gives place c.index_mut.result.now (Some giver.pass) giver.there
    c.index_mut.ensures.value) in
    let old = giver.pass in
    let new = gave.0 in
    let back = subst (λ (o : Giver). IfErr c.give_by.result (NotGiven (given_by job gives) (given_by job (set gives place o)) place
    c.args.entry (fulls_by gives place) (fulls_by (set gives place o) place)))
    (sym gave.1) (is_back job gives place old new giver.there c.args.entry may.leads may.next queue c.give_by.result gave.2) in
    subst (λ (p : PortShape). IfErr c.give_by.result (NotGiven (given_by p.job p.passes.gives.items)
    (given_by job (set gives place c.give_by.new.giver)) c.args.target c.args.entry (fulls_by p.passes.gives.items c.args.target)
    (fulls_by (set gives place c.give_by.new.giver) c.args.target))) c.self.view_is
    (subst (λ (t : ℕ). IfErr c.give_by.result (NotGiven (given_by job gives)
    (given_by job (set gives place c.give_by.new.giver)) t c.args.entry (fulls_by gives t)
    (fulls_by (set gives place c.give_by.new.giver) t))) c.from-target.ensures back)
