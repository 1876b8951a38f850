use Rattle.std.proofs.Common.{◌≡◌, ◌+◌, ℕ, List, false, cond, drop, Some, sym, ap, ◌∙◌}
use Rattle.std.specs.List.{position_from}
use Rattle.evp_format.specs.Bytes.{bytes_equal}
use Rattle.evp_format.proofs.Loops.{goes_on}
use Rattle.evp_stones.proofs.convert.number_of.Goals as goal

pub loop-number-preserved : goal.loop-number-preserved
loop-number-preserved c =
    let names = c.args.names.now in
    let k = c.loop-number.number in
    let p = λ (name : List ℕ). bytes_equal name c.args.wanted.now in
    let other : bytes_equal c.index-names-number.result c.args.wanted.now ≡ false = sym c.is_named.ensures ∙ c.if-is_named.false in
    goes_on (position_from p) names k c.index-names-number.result (position_from p 0 names) c.loop-number-test.true c.index-names-number.is
    (ap (λ b. cond b (Some k) (position_from p (k + 1) (drop (k + 1) names))) other) c.loop-number.invariant
