use Rattle.std.proofs.Common.{◌≡◌, ℕ, length, Option, sym, ap, subst, ◌∙◌}
use Rattle.std.proofs.lemmas.List.{with_items_is, append-nil}
use Rattle.std.specs.Global.{Global}
use Rattle.std.specs.Prelude.{Vec, IfOk, IfSome}
use Rattle.evp_crew.specs.declared.seat.Seat.{Seat}
use Rattle.evp_crew.specs.Carried.{AreSlots, AreFirst}
use Rattle.evp_crew.specs.Gathering.{AllWork}
use Rattle.evp_crew.proofs.Gathered.{work_front, work_last}
use Rattle.evp_crew.proofs.gathering.gathered.Goals.{in-Some, in_default}
use Rattle.evp_crew.proofs.gathering.gathered.Goals as goal

pub loop-init : goal.loop-init
loop-init c = (c.in_ok-slots.ensures.long, λ rotas three all. (all, c.in_ok-slots.ensures.none three))

pub loop-preserved : goal.loop-preserved
loop-preserved c =
    let was = c.loop.invariant in
    let left = c.pop.new.self.items in
    elim c.match-pop.branch [
      | in-Some w ↦
          let worker = w.in-Some.worker in
          let before = w.as_mut_slice.ensures.value in
          let long = w.place_all.ensures.long in
          let whole = c.loop.slots.ok.0 in
          let items : c.match-pop.slots.items ≡ w.place_all.new.slots = ap (λ v. v.items) w.slots-is
          ∙ with_items_is c.loop.slots w.place_all.new.slots (long ∙ ap length before ∙ sym whole) in (
            ap length items ∙ long ∙ ap length before ∙ was.0,
            λ rotas three all.
                let so_far = was.1 rotas three all in
                let last = work_last rotas three c.loop.workers.items left worker w.in-Some.ensures.items so_far.0 in (
                  work_front rotas three c.loop.workers.items left worker w.in-Some.ensures.items so_far.0,
                  subst (AreSlots three) (sym items)
                      (w.place_all.ensures.slots three last.closed (subst (AreSlots three) (sym before) so_far.1)),
                ),
          )
      | in_default w ↦
          let same : left ≡ c.loop.workers.items = sym (w.in_default.ensures.items ∙ append-nil left) in
          let slots = ap (λ (v : Vec (Option Seat) Global). v.items) w.slots-is in (
            ap length slots ∙ was.0,
            λ rotas three all.
                let so_far = was.1 rotas three all in
                (subst (AllWork rotas three) (sym same) so_far.0, subst (AreSlots three) (sym slots) so_far.1),
          )
    ]

pub returns : goal.returns
returns c = λ rotas three all.
    subst (λ (n : ℕ). IfOk c.all_of.result (λ found. IfSome found (λ seats. AreFirst three n seats.items))) c.loop.invariant.0
    (c.all_of.ensures three (c.loop.invariant.1 rotas three all).1)
