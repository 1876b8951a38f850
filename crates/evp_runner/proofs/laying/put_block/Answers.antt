use Rattle.std.proofs.Common.{◌≡◌, ◌+◌, ◌*◌, ◌++◌, ℕ, List, length, take, drop, ap, ◌∙◌, arith}
use Rattle.std.proofs.lemmas.List.{length-drop, length-take-le}
use Rattle.evp_base.specs.declared.kind.Kind.TheVariants.{Int}
use Rattle.evp_format.specs.Bytes.{next_block}
use Rattle.evp_wide.specs.Elements.{rewritten}
use Rattle.evp_wide.specs.Zeros.{with_signed}
use Rattle.evp_runner.proofs.LaidBytes.{gap_made, block_made, next_block_low, next_block_high}
use Rattle.evp_runner.proofs.LaidBlocks.{rewritten_long, some_size}
use Rattle.evp_runner.proofs.laying.put_block.Goals as goal

pub returns : goal.returns
returns c =
    let size = c.args.size in
    let q = next_block size in
    let total = c.args.n * c.args.to_size in
    let old = c.args.out.now in
    let cleared = c.clear_gap.new.out in
    let bytes = take (c.args.n * c.args.width) (drop c.args.s c.args.bytes.now) in
    let block = rewritten Int c.args.to_order c.args.to_size c.args.order c.args.width bytes in
    let from = c.requires.from in
    let room = c.requires.out in
    let long = c.requires.long in
    let same : length cleared ≡ length old = c.clear_gap.auto.out in
    let left = length-drop c.args.s c.args.bytes.now in
    let bytes_long = length-take-le (c.args.n * c.args.width) (drop c.args.s c.args.bytes.now) (omega (arith, left, from)) in
    let block_long = rewritten_long c.args.to_order c.args.order c.args.to_size c.args.width c.args.n bytes bytes_long
    (some_size c.args.width c.requires.width) in
    let low = next_block_low size in
    let high = next_block_high size in
    let put = c.put_signed.ensures
    ∙ ap (λ (p : ℕ). with_signed p c.args.to_size c.args.to_order c.args.bytes.now c.args.s c.args.width c.args.order c.args.n cleared)
    c.aligned-q.ensures in
    ap (take (q + total)) put
    ∙ block_made q total cleared block (drop (q + total) cleared) (omega (arith, room, same)) block_long
    ∙ ap (λ (l : List ℕ). l ++ block)
    (ap (take q) c.clear_gap.ensures ∙ gap_made size q old low (omega (arith, high)) (omega (arith, room, long, low)))
