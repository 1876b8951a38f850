use Rattle.std.proofs.Common.{List, ℕ, Some, sym, ap, subst, ◌∙◌}
use Rattle.std.specs.List.{slice_get}
use Rattle.evp_queue.specs.Passes.{giver_of, GivesTo}
use Rattle.evp_queue.specs.Rule.{part_of, rest_of}
use Rattle.evp_queue.specs.declared.queue.StoneQueue.{StoneQueue}
use Rattle.evp_stone.specs.declared.entry.Entry.{Entry}
use Rattle.evp_stone.specs.JobShape.{JobShape}
use Rattle.evp_crew.proofs.Giving.{in_vec, read_at}
use Rattle.evp_crew.proofs.Lists.{no_items}
use Rattle.evp_crew.proofs.Parted.{rest_pass, no_share, left_rest, one_share}
use Rattle.evp_crew.proofs.parting.share.Goals as goal

pub returns-then-is_empty-clause-share : goal.returns-then-is_empty-clause-share
returns-then-is_empty-clause-share g c =
    no_share c.args.crew.now c.args.job.now c.args.actor c.args.stone c.in_ok-mine.mine.items c.in_ok-mine.ensures
    (no_items c.in_ok-mine.mine c.is_empty.result c.is_empty.ensures c.if-is_empty.true)

pub index-requires : goal.index-requires
index-requires g c =
    let queues = c.args.crew.now.queues in
    in_vec queues c.from.result c.requires.of.queue (ap (slice_get queues.items) c.from.ensures ∙ c.requires.of.there)

pub split-requires : goal.split-requires
split-requires g c =
    let queues = c.args.crew.now.queues.items in
    let rest = rest_pass c.args.crew.now c.args.job.now c.args.actor c.args.stone c.args.rest.now c.in-Some.pass c.requires
    c.in-Some.ensures.value in
    let same = read_at queues c.from.result c.index.result.now rest.of.queue (ap (slice_get queues) c.from.ensures ∙ rest.of.there)
    c.index.ensures in
    subst (λ (q : StoneQueue Entry JobShape). GivesTo q c.in-Some.pass) (sym same) rest.of.gives

pub returns-in-Ok-clause-rest : goal.returns-in-Ok-clause-rest
returns-in-Ok-clause-rest g c =
    let queues = c.args.crew.now.queues.items in
    let rest = rest_pass c.args.crew.now c.args.job.now c.args.actor c.args.stone c.args.rest.now c.in-Some.pass c.requires
    c.in-Some.ensures.value in
    let same = read_at queues c.from.result c.index.result.now rest.of.queue (ap (slice_get queues) c.from.ensures ∙ rest.of.there)
    c.index.ensures in
    let mine = c.as_slice.ensures.value in
    let first = c.in-Ok.ensures.first in
    let others = c.in-Ok.ensures.others in
    left_rest c.args.crew.now c.args.job.now c.args.actor c.args.stone c.in_ok-mine.mine.items c.in_ok-mine.ensures c.in-Some.pass
    c.in-Ok.share c.in-Ok.others c.index.result.now rest.of
    (rest.of.there ∙ ap (λ (q : StoneQueue Entry JobShape). Some q) (sym same))
    (first.0, first.2 ∙ ap (λ (l : List ℕ). part_of l (giver_of c.in-Some.pass)) mine)
    (others.0, others.2 ∙ ap (λ (l : List ℕ). rest_of l (giver_of c.in-Some.pass)) mine) rest.counts

pub returns-in-Ok-clause-share : goal.returns-in-Ok-clause-share
returns-in-Ok-clause-share g c =
    let queues = c.args.crew.now.queues.items in
    let rest = rest_pass c.args.crew.now c.args.job.now c.args.actor c.args.stone c.args.rest.now c.in-Some.pass c.requires
    c.in-Some.ensures.value in
    let same = read_at queues c.from.result c.index.result.now rest.of.queue (ap (slice_get queues) c.from.ensures ∙ rest.of.there)
    c.index.ensures in
    let mine = c.as_slice.ensures.value in
    let first = c.in-Ok.ensures.first in
    let others = c.in-Ok.ensures.others in
    one_share c.args.crew.now c.args.job.now c.args.actor c.args.stone c.in_ok-mine.mine.items c.in_ok-mine.ensures c.in-Some.pass
    c.in-Ok.share c.in-Ok.others c.index.result.now rest.of
    (rest.of.there ∙ ap (λ (q : StoneQueue Entry JobShape). Some q) (sym same))
    (first.0, first.2 ∙ ap (λ (l : List ℕ). part_of l (giver_of c.in-Some.pass)) mine)
    (others.0, others.2 ∙ ap (λ (l : List ℕ). rest_of l (giver_of c.in-Some.pass)) mine) rest.counts
