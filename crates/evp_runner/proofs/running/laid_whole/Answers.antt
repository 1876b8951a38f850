use Rattle.std.proofs.Common.{◌≡◌, ℕ, ◌-◌, List, length, Ok, refl, sym, ap, subst, arith}
use Rattle.std.specs.List.{All}
use Rattle.evp_format.specs.Viewing.{Image}
use Rattle.evp_plan.specs.declared.block.Block.{Block}
use Rattle.evp_plan.specs.Planned.{measured_whole}
use Rattle.evp_runner.specs.Outcome.{outcome}
use Rattle.evp_runner.specs.Sizing.{image_by_eight, IsBlockInside, AllEndAt}
use Rattle.evp_runner.specs.StepIn.{image_in}
use Rattle.evp_runner.proofs.LaidSizes.{laid_inside, laid_found}
use Rattle.evp_runner.proofs.Runs.{can_whole, sent_pointer}
use Rattle.evp_runner.proofs.running.laid_whole.Goals as goal

pub laid_size-requires-clause-inside : goal.laid_size-requires-clause-inside
laid_size-requires-clause-inside c =
    let plan = c.args.plan.now in
    let sender = c.sender_of-sender.result in
    let image = image_in sender in
    let said = c.in_ok-laid.ensures in
    let Inside : List Block → Type 0 = λ blocks. All (IsBlockInside sender.bytes.now) blocks in
    subst Inside (sym c.blocks-2.ensures)
    (laid_inside plan image plan.sender.order c.in_ok-laid.laid.now said.ordered said.some said.laid
    (can_whole plan c.args.item.now c.requires.to image (length plan.table - 1) 0 c.requires.stands c.bytes-held.ensures.kept
    c.sender_of-sender.ensures refl refl)
    (sent_pointer plan c.args.item.now c.requires.to image c.requires.stands c.sender_of-sender.ensures said.between.from_eight))

pub laid_size-requires-clause-few : goal.laid_size-requires-clause-few
laid_size-requires-clause-few c =
    let few = c.in_ok-laid.ensures.between.few in let same = ap (length {A = Block}) c.blocks-2.ensures in omega (arith, few, same)

pub returns : goal.returns
returns c =
    let plan = c.args.plan.now in
    let sender = c.sender_of-sender.result in
    let image = image_in sender in
    let said = c.in_ok-laid.ensures in
    let size = c.in_ok-size.size in
    let eight : image_by_eight sender.order sender.bytes.now ≡ image =
    ap (λ (p : ℕ). record { order = sender.order; pointer = p; bytes = sender.bytes.now })
    (sym (sent_pointer plan c.args.item.now c.requires.to image c.requires.stands c.sender_of-sender.ensures said.between.from_eight)) in
    let Ends : Image → Type 0 = λ i. AllEndAt i c.blocks-2.result.now c.fixed-fixed.result size in
    let IsFound : Image → Type 0 = λ i. Ok size ≡ outcome (measured_whole plan i c.args.limit) in
    subst IsFound c.sender_of-sender.ensures
    (laid_found plan c.args.limit image plan.sender.order c.in_ok-laid.laid.now c.blocks-2.result.now c.fixed-fixed.result size said.ordered
    said.some said.laid
    (can_whole plan c.args.item.now c.requires.to image (length plan.table - 1) 0 c.requires.stands c.bytes-held.ensures.kept
    c.sender_of-sender.ensures refl refl)
    sender.are c.blocks-2.ensures c.fixed-fixed.ensures (subst Ends eight c.in_ok-size.ensures.ends) c.in_ok-size.ensures.limited)
