use Rattle.std.proofs.Common.{◌≡◌, ℕ, List, length, drop, ap, sym, subst, arith}
use Rattle.std.proofs.lemmas.List.{length-replicate, take_at}
use Rattle.std.specs.Prelude.{take}
use Rattle.evp_runner.specs.Running.{IsConversion}
use Rattle.evp_runner.proofs.Passes.{conversion_of, zero_front, zeros_by_length}
use Rattle.evp_runner.proofs.passing.pack_in_room.Goals as goal

pub run_over-requires-clause-zero : goal.run_over-requires-clause-zero
run_over-requires-clause-zero c =
    let size = c.args.size in
    let front = take size c.args.room.now in
    λ _. zeros_by_length size front (zero_front size 72 front c.requires.within (ap (take size) c.requires.zeros))

pub returns : goal.returns
returns c = λ to limit stands found.
    let size = c.args.size in
    let room = c.args.room.now in
    let new = c.run_over.new.out in
    let front = zero_front size 72 (take size room) c.requires.within (ap (take size) c.requires.zeros) in
    let long : length new ≡ size = omega (arith, c.run_over.auto.out, ap length front, length-replicate {A = ℕ} size 0) in
    let P : List ℕ → Type 0 = λ bytes. IsConversion c.args.item to limit bytes in
    subst P (sym (take_at new (drop size room) size long))
    (conversion_of c.args.plan.now c.args.item new size c.run_over.ensures long (omega (arith, c.ranges.size)) to limit stands found)
