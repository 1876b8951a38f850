use Rattle.std.proofs.Common.{◌≡◌, ap, refl, ◌∙◌}
use Rattle.evp_queue.specs.Counts.{count_at, raised}
use Rattle.evp_queue.specs.Rule.{with_counts}
use Rattle.evp_queue.specs.declared.tests.one_place.Part.TheVariants.{Record, Round}
use Rattle.evp_queue.specs.declared.tests.one_place.Entry.TheVariants.{Mark}
use Rattle.evp_queue.proofs.tests.one_place.an_item_and_a_mark.Goals as goal

pub give-requires-clause-next : goal.give-requires-clause-next
give-requires-clause-next g c =
    let is = c.in_ok-queue.ensures.give.2 in (
      ap (λ v. count_at 0 v.counts) is,
      (
        _,
        ap (λ v. v.whole) is,
        (Record 3 _, refl, (refl, ap (λ o. o.bytes) c.in_ok-owned.ensures.ok)),
      ),
    )

pub give-requires-2-clause-next : goal.give-requires-2-clause-next
give-requires-2-clause-next g c =
    let is = c.in-Ok.ensures.given.0 ∙ ap (λ v. with_counts v (raised 0 v.counts)) c.in_ok-queue.ensures.give.2 in
    (ap (λ v. count_at 0 v.counts) is, (_, ap (λ v. v.whole) is, (Round 0, refl, refl)))

pub give-requires-3-clause-next : goal.give-requires-3-clause-next
give-requires-3-clause-next g c =
    let back = c.in-Err-Full.ensures.full in
    let mark_is : c.in-Err-Full.mark ≡ Mark 0 1 0 = let shown = c.in-Err-Full.field-0-is in let same = back.0 in cc in
    let is = back.1 ∙ c.in-Ok.ensures.given.0 ∙ ap (λ v. with_counts v (raised 0 v.counts)) c.in_ok-queue.ensures.give.2 in
    rw mark_is (ap (λ v. count_at 0 v.counts) is, (_, ap (λ v. v.whole) is, (Round 0, refl, refl)))
