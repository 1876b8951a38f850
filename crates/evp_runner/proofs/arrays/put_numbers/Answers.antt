use Rattle.std.proofs.Common.{◌≡◌, ℕ, ◌+◌, ◌*◌, ◌-◌, ◌/◌, length, take, drop, ap, sym, ◌∙◌, arith}
use Rattle.std.proofs.Math.Nat.{mul-div_cancel}
use Rattle.std.proofs.lemmas.List.{length-drop, length-take}
use Rattle.evp_runner.proofs.SideBySide.{kind_width, some_size}
use Rattle.evp_runner.proofs.arrays.put_numbers.Goals as goal

pub rewrite-requires-clause-out : goal.rewrite-requires-clause-out
rewrite-requires-clause-out c =
    let numbers = c.args.numbers.now in
    let base = c.args.base in
    let total = c.args.n * c.args.size in
    let part = base + total - base in
    let room = c.requires.room in
    let left = length-drop base c.args.out.now in
    let taken = length-take part (drop base c.args.out.now) in
    let long : length (take part (drop base c.args.out.now)) ≡ total = omega (arith, room, left, taken) in
    let some = some_size numbers.width (kind_width numbers.kind numbers.width c.requires.allowed) in
    let count : length numbers.bytes.now / numbers.width ≡ c.args.n = ap (λ (m : ℕ). m / numbers.width) c.requires.whole
    ∙ mul-div_cancel c.args.n some in
    long ∙ ap (λ (m : ℕ). m * c.args.size) (sym count)
