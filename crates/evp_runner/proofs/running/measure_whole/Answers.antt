use Rattle.std.proofs.Common.{ℕ, ◌-◌, length, ap}
use Rattle.evp_record.specs.Record.{record_of}
use Rattle.evp_runner.specs.StepIn.{image_in}
use Rattle.evp_runner.proofs.Runs.{can_whole}
use Rattle.evp_runner.proofs.running.measure_whole.Goals as goal

pub measure_record-requires-clause-can : goal.measure_record-requires-clause-can
measure_record-requires-clause-can c =
    can_whole c.args.plan.now (record_of c.args.format.now c.args.bytes.now) c.requires.plan_from.to
    (image_in c.sender_by-sender.result) (length c.table-lists.result.now - 1)
    (length c.root-place.result) c.requires.plan_from.stands c.requires.held c.sender_by-sender.ensures
    (ap (λ (n : ℕ). n - 1) (ap length c.table-lists.ensures.value)) (ap length c.root-place.ensures)
