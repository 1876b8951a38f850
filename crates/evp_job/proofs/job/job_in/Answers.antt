use Rattle.std.proofs.Common.{◌≡◌, ℕ, ◌≤◌, ◌<◌, ◌^◌, List, length, Err, Result, Ok, map, refl, sym, subst, arith}
use Rattle.std.proofs.lemmas.List.{length-map}
use Rattle.std.proofs.lemmas.Result.{err_from_is_err_and}
use Rattle.serde_json.specs.View.{view}
use Rattle.evp_job.specs.declared.fault.JobFault.{JobFault}
use Rattle.evp_job.specs.Job.{PartsShape, IsMadeOf}
use Rattle.evp_job.specs.JobView.{parts_of}
use Rattle.evp_job.specs.SourceView.{source_of}
use Rattle.evp_job.specs.TextShape.{StoneShape}
use Rattle.evp_job.specs.TextView.{stone_of}
use Rattle.evp_job.proofs.PartsKept.{reading_of, parts_kept, all_seen, all_weaker, below_16_bits}
use Rattle.evp_job.proofs.StonesKept.{IsStoneKept}
use Rattle.evp_job.proofs.Routed.{made_states}
use Rattle.evp_job.proofs.TextKept.{stated_result}
use Rattle.evp_job.proofs.job.job_in.Goals as goal

pub routed-requires-clause-sources : goal.routed-requires-clause-sources
routed-requires-clause-sources c =
    let parts = c.in_ok-parts.parts in
    let kept = parts_kept (reading_of c.each_text_is_answered.ensures) (view c.args.value.now) (parts_of parts)
    (c.in_ok-parts.ensures (reading_of c.each_text_is_answered.ensures)) in
    let few : length parts.head.sources.items ≤ 64 = subst (λ (n : ℕ). n ≤ 64)
    (length-map parts.head.sources.items source_of) kept.head.sources.1 in
    below_16_bits (length parts.head.sources.items) 64 (omega arith) few

pub routed-requires-clause-stones : goal.routed-requires-clause-stones
routed-requires-clause-stones c =
    let parts = c.in_ok-parts.parts in
    let kept = parts_kept (reading_of c.each_text_is_answered.ensures) (view c.args.value.now) (parts_of parts)
    (c.in_ok-parts.ensures (reading_of c.each_text_is_answered.ensures)) in
    let few : length parts.stones.items ≤ 256 = subst (λ (n : ℕ). n ≤ 256)
    (length-map parts.stones.items stone_of) kept.stones.count.1 in
    below_16_bits (length parts.stones.items) 256 (omega arith) few

pub routed-requires-clause-targets : goal.routed-requires-clause-targets
routed-requires-clause-targets c =
    let parts = c.in_ok-parts.parts in
    let kept = parts_kept (reading_of c.each_text_is_answered.ensures) (view c.args.value.now) (parts_of parts)
    (c.in_ok-parts.ensures (reading_of c.each_text_is_answered.ensures)) in
    all_seen (λ (stone : StoneShape). length stone.targets < 2 ^ 16) stone_of parts.stones.items
    (all_weaker (IsStoneKept (parts_of parts).head.formats) (λ (stone : StoneShape). length stone.targets < 2 ^ 16)
    (parts_of parts).stones
    (λ stone good. below_16_bits (length stone.targets) 16 (omega arith) good.few) kept.stones.each)

pub returns-in_err-parts-clause-states : goal.returns-in_err-parts-clause-states
returns-in_err-parts-clause-states c =
    let reading = reading_of c.each_text_is_answered.ensures in
    let fault = c.in_err-parts.field-0.0 in
    let p = err_from_is_err_and c.from_residual.result c.from_residual.ensures.1 in
    rw (p.1, p.2) (λ other. (
      reading,
      subst (λ (r : Result PartsShape JobFault). IsMadeOf r (Err fault))
          (sym (c.in_err-parts.ensures reading other)) refl,
    ))

pub returns-clause-states : goal.returns-clause-states
returns-clause-states c =
    let reading = reading_of c.each_text_is_answered.ensures in
    made_states reading (view c.args.value.now) (parts_of c.in_ok-parts.parts) c.routed.result
    (c.in_ok-parts.ensures reading) c.routed.ensures.made

pub returns-clause-kept : goal.returns-clause-kept
returns-clause-kept c =
    let reading = reading_of c.each_text_is_answered.ensures in
    let parts = parts_of c.in_ok-parts.parts in
    stated_result parts c.routed.result (parts_kept reading (view c.args.value.now) parts (c.in_ok-parts.ensures reading))
    c.routed.ensures.made c.routed.ensures.listed
