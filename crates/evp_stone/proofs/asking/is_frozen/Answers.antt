use Rattle.std.proofs.Common.{◌<◌, arith, length, sym, ap, ◌∙◌}
use Rattle.evp_queue.specs.Counts.{is_among}
use Rattle.evp_stone.specs.JobShape.{JobShape}
use Rattle.evp_stone.specs.State as state
use Rattle.evp_stone.specs.declared.round.Round.{Round}
use Rattle.evp_stone.proofs.Frozen.{frozen_at}
use Rattle.evp_stone.proofs.asking.is_frozen.Goals as goal

pub returns : goal.returns
returns c =
    let rounds = c.parts.result.now.rounds.items in
    let below : c.args.round < length rounds = omega arith in
    c.is_among.ensures
    ∙ ap (is_among c.args.stone) (c.as_slice.ensures ∙ ap (λ (r : Round). r.frozen) c.index.ensures)
    ∙ sym (frozen_at rounds c.args.stone c.args.round c.index.result.now below)
    ∙ ap (λ (job : JobShape). state.is_frozen job c.args.stone c.args.round) c.parts.ensures.value
