use Rattle.std.proofs.Common.{◌+◌, List, ℕ, refl, ◌∙◌, ap, arith}
use Rattle.evp_plan.specs.Cells.{painted_at, gather_cells}
use Rattle.evp_plan.proofs.FourLists.{placed}
use Rattle.evp_plan.proofs.running.run_two.Goals as goal

pub returns : goal.returns
returns c =
    let two = c.args.two.now in
    let from = c.args.from.now in
    let at = c.args.at in
    let t = c.args.t in
    let first = c.requires.first in
    let second = c.requires.second in
    let same = c.run_plain.auto.out in
    let made = placed from at t two.one (t + two.one.to) (at + two.one.at) c.args.out.now c.run_plain.new.out
    c.requires.bytes refl refl (omega (arith, first)) c.run_plain.ensures.made in
    let made' = placed from at t two.two (t + two.two.to) (at + two.two.at) c.run_plain.new.out c.run_plain-2.new.out
    c.run_plain.ensures.bytes refl refl (omega (arith, second, same)) c.run_plain-2.ensures.made in
    made' ∙ ap (λ (out : List ℕ). painted_at from at (t + two.two.to) (gather_cells two.two) out) made
