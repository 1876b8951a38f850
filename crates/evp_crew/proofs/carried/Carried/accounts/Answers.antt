use Rattle.std.proofs.Common.{◌≤◌, ℕ, List, length, sym, ap, subst, ◌∙◌, arith}
use Rattle.std.specs.Vec.Iter.{into_iter_items}
use Rattle.evp_stone.specs.declared.account.Account.{Account}
use Rattle.evp_stone.specs.Job.{IsJob}
use Rattle.evp_crew.specs.Carried.{AreFirst, CarriedShape}
use Rattle.evp_crew.specs.Parting.{actors_of}
use Rattle.evp_crew.specs.Rota.{three}
use Rattle.evp_crew.proofs.Accounts.{Collects, source_passed, account_added}
use Rattle.evp_crew.proofs.carried.Carried.accounts.Goals as goal

pub loop-seat-preserved-then-from-sources : goal.loop-seat-preserved-then-from-sources
loop-seat-preserved-then-from-sources c =
    let self = c.args.self in
    let whole = subst (λ (s : CarriedShape). AreFirst (three s.job s.cells s.crew) (actors_of s.job) s.seats) c.self.view_is
    c.self.invariant.whole in
    let sources = c.self.invariant.sources ∙ ap (λ (s : CarriedShape). length s.job.sources) c.self.view_is in
    let test = c.if-from-sources.true in
    let from = c.from.ensures in
    let number = c.number.ensures.number in
    let steps = c.in-Some.ensures.steps in
    let added = account_added (three self.job self.cells self.crew) self.seats whole (into_iter_items c.loop-seat.seat-iterator)
    (into_iter_items c.next.new.self) c.in-Some.seat steps.0 c.loop-seat.room.items c.loop-seat.invariant.so_far
    (subst (λ (s : CarriedShape). IsJob s.job) c.self.view_is c.self.invariant.job) c.account.result c.account.ensures.stone
    c.account.ensures.account (omega arith) in
    record {
      so_far = subst (λ (l : List Account). Collects self.job self.seats (into_iter_items c.next.new.self) l)
          (sym c.push_reserved.ensures.items) added;
      long = let one = ap (λ (l : List _). length l) steps.0 in let fewer = steps.1 in let was = c.loop-seat.invariant.long in omega arith;
      room = subst (λ (n : ℕ). length self.seats ≤ n) (sym c.push_reserved.ensures.capacity) c.loop-seat.invariant.room;
    }

pub loop-seat-preserved : goal.loop-seat-preserved
loop-seat-preserved c =
    let self = c.args.self in
    let whole = subst (λ (s : CarriedShape). AreFirst (three s.job s.cells s.crew) (actors_of s.job) s.seats) c.self.view_is
    c.self.invariant.whole in
    let sources = c.self.invariant.sources ∙ ap (λ (s : CarriedShape). length s.job.sources) c.self.view_is in
    let test = c.if-from-sources.false in
    let from = c.from.ensures in
    let number = c.number.ensures.number in
    let steps = c.in-Some.ensures.steps in
    record {
      so_far = source_passed (three self.job self.cells self.crew) self.seats whole (into_iter_items c.loop-seat.seat-iterator)
          (into_iter_items c.next.new.self) c.in-Some.seat steps.0 c.loop-seat.room.items c.loop-seat.invariant.so_far (omega arith);
      long = let one = ap (λ (l : List _). length l) steps.0 in let fewer = steps.1 in let was = c.loop-seat.invariant.long in omega arith;
      room = c.loop-seat.invariant.room;
    }
