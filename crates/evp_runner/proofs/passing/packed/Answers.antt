use Rattle.std.proofs.Common.{◌≡◌, ℕ, List, length, ap, sym, subst, arith}
use Rattle.evp_runner.specs.Running.{IsConversion}
use Rattle.evp_runner.proofs.Passes.{conversion_of, in_buffer}
use Rattle.evp_runner.proofs.passing.packed.Goals as goal

pub returns : goal.returns
returns c = λ to limit stands found.
    let buffer = c.in_ok-bytes.bytes in
    let new = c.run_over.new.out in
    let long : length new ≡ buffer.len = omega (arith, c.run_over.auto.out, ap length c.deref_mut.ensures.value, buffer.ok.0) in
    let P : List ℕ → Type 0 = λ bytes. IsConversion c.args.item to limit bytes in
    subst P (sym (in_buffer buffer.len buffer.items new long))
    (conversion_of c.args.plan.now c.args.item new c.args.size c.run_over.ensures (omega (arith, long, c.in_ok-bytes.ensures.len))
    (omega (arith, c.ranges.size)) to limit stands found)
