use Rattle.std.proofs.Common.{◌≡◌, ℕ, ◌+◌, ◌-◌, ◌*◌, ◌≤◌, List, length, take, drop, ap, ◌∙◌, arith}
use Rattle.evp_record.proofs.NumbersRead.{block_inside, pieces_read}
use Rattle.evp_record.proofs.record.Checked.block.Goals as goal
use Rattle.evp_record.proofs.record.Checked.block.Goals.{After-start-from}

fits : (c : After-start-from) → c.start-from.result + c.length-count.result * c.field-field.result.now.size ≤ length c.args.self.now.bytes
fits c =
    let held = c.args.self.now in
    let field = c.field-field.result.now in
    let whole =
    block_inside held c.args.spot c.args.index field c.length-count.result c.field-field.ensures.laid c.requires.reached
    c.field-field.ensures.value c.requires.class c.length-count.ensures (omega arith) in
    omega (arith, whole, c.start-from.ensures)

pub overflow_add-result : goal.overflow_add-result
overflow_add-result c =
    let inside = fits (goal.at.overflow_add-result c).After-start-from in
    let short = c.field-field.ensures.kept.short in
    omega (arith, inside, short)

pub slice_bounds-result-end-2 : goal.slice_bounds-result-end-2
slice_bounds-result-end-2 c =
    let inside = fits (goal.at.slice_bounds-result-end-2 c).After-start-from in
    let same = ap length c.bytes-2.ensures.value in
    omega (arith, inside, same)

pub returns : goal.returns
returns c =
    let held = c.args.self.now in
    let field = c.field-field.result.now in
    let from = c.start-from.result in
    let size = c.length-count.result * field.size in
    let taken : from + size - from ≡ size = omega arith in
    pieces_read held c.args.spot c.args.index field _ c.length-count.result from c.field-field.ensures.laid c.requires.reached
    c.field-field.ensures.value c.requires.class c.length-count.ensures
    (λ _. c.start-from.ensures)
    (ap (λ (n : ℕ). take n (drop from c.bytes-2.result.now)) taken
    ∙ ap (λ (bytes : List ℕ). take size (drop from bytes)) c.bytes-2.ensures.value)
