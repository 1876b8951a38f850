use Rattle.std.proofs.Common.{◌≡◌, ◌∙◌, ℕ, ◌-◌, length, ap, refl, arith}
use Rattle.std.specs.Prelude.{replicate}
use Rattle.std.proofs.lemmas.List.{length-replicate}
use Rattle.evp_record.specs.Record.{record_of}
use Rattle.evp_runner.specs.StepIn.{image_in}
use Rattle.evp_runner.proofs.Runs.{can_move_whole, fits_whole, converted_whole}
use Rattle.evp_runner.proofs.running.run_steps.Goals as goal

pub fill_numbers-requires-clause-can : goal.fill_numbers-requires-clause-can
fill_numbers-requires-clause-can c =
    can_move_whole c.args.plan.now (record_of c.args.format.now c.args.bytes.now) c.requires.plan_from.to (image_in c.sender_by-sender.result)
    (length c.table-lists.result.now - 1) (length c.args.out.now) (length c.args.out.now) c.requires.plan_from.stands
    c.requires.held c.requires.size c.sender_by-sender.ensures
    (ap (λ (n : ℕ). n - 1) (ap length c.table-lists.ensures.value)) refl

pub returns-then-fill_numbers : goal.returns-then-fill_numbers
returns-then-fill_numbers c =
    let plan = c.args.plan.now in
    let new = c.fill_numbers.new.out in
    let same : length new ≡ length c.args.out.now = omega (arith, c.fill_numbers.auto.out) in
    converted_whole plan (record_of c.args.format.now c.args.bytes.now) c.requires.plan_from.to (image_in c.sender_by-sender.result)
    (length c.table-lists.result.now - 1) plan.fixed (length c.args.out.now) plan.fixed (replicate (length new) 0) new
    c.requires.plan_from.stands c.requires.held c.requires.size c.sender_by-sender.ensures
    (ap (λ (n : ℕ). n - 1) (ap length c.table-lists.ensures.value)) refl
    (ap (λ (n : ℕ). replicate {A = ℕ} n 0) same) (c.fill_numbers.ensures.filled c.if-fill_numbers.true plan.fixed)

pub move_record-end-requires-clause-can : goal.move_record-end-requires-clause-can
move_record-end-requires-clause-can c =
    let same : length c.fill_numbers.new.out ≡ length c.args.out.now = omega (arith, c.fill_numbers.auto.out) in
    can_move_whole c.args.plan.now (record_of c.args.format.now c.args.bytes.now) c.requires.plan_from.to (image_in c.sender_by-sender.result)
    (length c.table-lists.result.now - 1) (length c.args.out.now) (length c.clear_out.new.out) c.requires.plan_from.stands
    c.requires.held
    c.requires.size c.sender_by-sender.ensures (ap (λ (n : ℕ). n - 1) (ap length c.table-lists.ensures.value))
    (ap length c.clear_out.ensures ∙ length-replicate {A = ℕ} (length c.fill_numbers.new.out) 0 ∙ same)

pub move_record-end-requires-clause-fits : goal.move_record-end-requires-clause-fits
move_record-end-requires-clause-fits c =
    let same : length c.fill_numbers.new.out ≡ length c.args.out.now = omega (arith, c.fill_numbers.auto.out) in
    fits_whole c.args.plan.now (record_of c.args.format.now c.args.bytes.now) c.requires.plan_from.to (image_in c.sender_by-sender.result)
    (length c.table-lists.result.now - 1) c.fixed-fixed.result (length c.args.out.now) (length c.clear_out.new.out)
    c.requires.plan_from.stands
    c.requires.held c.requires.size c.sender_by-sender.ensures (ap (λ (n : ℕ). n - 1) (ap length c.table-lists.ensures.value))
    c.fixed-fixed.ensures
    (ap length c.clear_out.ensures ∙ length-replicate {A = ℕ} (length c.fill_numbers.new.out) 0 ∙ same)

pub returns : goal.returns
returns c =
    let same : length c.fill_numbers.new.out ≡ length c.args.out.now = omega (arith, c.fill_numbers.auto.out) in
    converted_whole c.args.plan.now (record_of c.args.format.now c.args.bytes.now) c.requires.plan_from.to (image_in c.sender_by-sender.result)
    (length c.table-lists.result.now - 1) c.fixed-fixed.result (length c.args.out.now) c.move_record-end.result c.clear_out.new.out
    c.move_record-end.new.out c.requires.plan_from.stands c.requires.held c.requires.size c.sender_by-sender.ensures
    (ap (λ (n : ℕ). n - 1) (ap length c.table-lists.ensures.value)) c.fixed-fixed.ensures
    (c.clear_out.ensures ∙ ap (λ (n : ℕ). replicate {A = ℕ} n 0) same) c.move_record-end.ensures
