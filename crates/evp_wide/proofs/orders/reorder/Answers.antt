use Rattle.std.proofs.Common.{arith, rules}
use Rattle.evp_wide.proofs.Reordered.{slice_bytes, single_as, copied, turned_as, eight, order_is, order_other}
use Rattle.evp_wide.proofs.orders.reorder.Goals.{then-size-eq1-via-then-size-eq1, then-size-eq1-via-else-size-eq1+then-eq}
use Rattle.evp_wide.proofs.orders.reorder.Goals as goal

pub returns-then-size-eq1 : goal.returns-then-size-eq1
returns-then-size-eq1 c =
    let are = slice_bytes c.args.from.now (λ k. omega (arith, c.type_inv.from k)) in
    elim c.then-size-eq1.branch [
      | then-size-eq1-via-then-size-eq1 w ↦
          single_as c.args.out_order c.args.from_order c.args.size c.args.from.now c.copy_from_slice.new.self w.if-size-eq1.true are
          c.copy_from_slice.ensures.after
      | then-size-eq1-via-else-size-eq1+then-eq w ↦
          copied c.args.out_order c.args.from_order c.args.size c.args.from.now c.copy_from_slice.new.self
          (order_is c.args.out_order c.args.from_order w.if-eq.ensures) c.requires.whole are c.copy_from_slice.ensures.after
    ]

pub returns-in-2 : goal.returns-in-2
returns-in-2 c =
    turned_as c.args.out_order c.args.from_order c.args.size 2 c.args.from.now c.swap2.new.out c.in-2.is
    (order_other c.args.out_order c.args.from_order c.if-eq.ensures) c.requires.whole
    (slice_bytes c.args.from.now (λ k. omega (arith, c.type_inv.from k))) c.swap2.ensures

pub returns-in-4 : goal.returns-in-4
returns-in-4 c =
    turned_as c.args.out_order c.args.from_order c.args.size 4 c.args.from.now c.swap4.new.out c.in-4.is
    (order_other c.args.out_order c.args.from_order c.if-eq.ensures) c.requires.whole
    (slice_bytes c.args.from.now (λ k. omega (arith, c.type_inv.from k))) c.swap4.ensures

pub returns-in_default : goal.returns-in_default
returns-in_default c =
    turned_as c.args.out_order c.args.from_order c.args.size 8 c.args.from.now c.swap8.new.out
    (eight c.args.size c.requires.width c.if-size-eq1.false (λ e. search rules) (λ e. search rules))
    (order_other c.args.out_order c.args.from_order c.if-eq.ensures) c.requires.whole
    (slice_bytes c.args.from.now (λ k. omega (arith, c.type_inv.from k))) c.swap8.ensures
