use Rattle.std.proofs.Common.{◌≡◌, Option, Some, sym, ap, subst, ◌∙◌}
use Rattle.std.specs.Prelude.{IfSome}
use Rattle.std.specs.List.{slice_get}
use Rattle.evp_queue.specs.Passes.{TakesFrom}
use Rattle.evp_queue.specs.declared.queue.StoneQueue.{StoneQueue}
use Rattle.evp_stone.specs.declared.entry.Entry.{Entry}
use Rattle.evp_stone.specs.JobShape.{JobShape}
use Rattle.evp_stone.specs.Port.{Taken}
use Rattle.evp_crew.specs.Ends.{PortShape}
use Rattle.evp_crew.specs.Passes.{taken_by}
use Rattle.evp_crew.specs.declared.passes.Taker.{Taker}
use Rattle.evp_crew.proofs.Giving.{in_vec, read_at}
use Rattle.evp_crew.proofs.Taking.{is_taken, takes_still}
use Rattle.evp_crew.proofs.port.CrewPortPort.take.Goals as goal

pub index-requires : goal.index-requires
index-requires g c =
    let taker = c.in_ok-taker.taker.now in
    let of = c.self.invariant.takes taker (sym c.in_ok-taker.ensures.value) in
    in_vec c.self.inside.crew.now.queues c.from.result of.queue (ap (slice_get c.self.inside.crew.now.queues.items) c.from.ensures
    ∙ of.there)

pub take-requires : goal.take-requires
take-requires g c =
    let taker = c.in_ok-taker.taker.now in
    let of = c.self.invariant.takes taker (sym c.in_ok-taker.ensures.value) in
    let queues = c.self.inside.crew.now.queues.items in
    let same = read_at queues c.from.result c.index.result.now of.queue (ap (slice_get queues) c.from.ensures ∙ of.there)
    c.index.ensures in
    subst (λ (q : StoneQueue Entry JobShape). TakesFrom q taker.pass) (sym same) of.takes

pub invariant_of-self-2 : goal.invariant_of-self-2
invariant_of-self-2 g c =
    let taker = c.in_ok-taker.taker.now in
    let of = c.self.invariant.takes taker (sym c.in_ok-taker.ensures.value) in
    let queues = c.self.inside.crew.now.queues.items in
    let same = read_at queues c.from.result c.index.result.now of.queue (ap (slice_get queues) c.from.ensures ∙ of.there)
    c.index.ensures in
    record {
      takes = takes_still c.self.inside.job.now taker.stone taker.pass c.take.new.pass c.self.inside.crew.now c.index.result.now
          (of.there ∙ ap (λ (q : StoneQueue Entry JobShape). Some q) (sym same)) c.take.ensures.queue of.whole c.take.result
          c.take.ensures.taken c.take.ensures.empty;
      gives = c.self.invariant.gives;
    }

pub returns-clause-taken : goal.returns-clause-taken
returns-clause-taken g c =
    let taker = c.in_ok-taker.taker.now in
    let of = c.self.invariant.takes taker (sym c.in_ok-taker.ensures.value) in
    let now : Option Taker = Some record { stone = taker.stone; pass = c.take.new.pass } in
    subst (λ (p : PortShape). IfSome c.take.result (Taken (λ job. job ≡ p.job) (taken_by p.passes.take) (taken_by now))) c.self.view_is
    (subst (λ (o : Option Taker). IfSome c.take.result (Taken (λ job. job ≡ c.self.inside.job.now) (taken_by o) (taken_by now)))
    c.in_ok-taker.ensures.value
    (is_taken c.self.inside.job.now taker.stone taker.pass c.take.new.pass of.whole c.take.result c.take.ensures.taken))
