use Rattle.std.proofs.Common.{◌-◌, length, refl}
use Rattle.evp_record.specs.Record.{record_of}
use Rattle.evp_runner.specs.StepIn.{image_in}
use Rattle.evp_runner.proofs.Runs.{can_whole}
use Rattle.evp_runner.proofs.running.tested_whole.Goals as goal

pub quick_record-requires-clause-can : goal.quick_record-requires-clause-can
quick_record-requires-clause-can c =
    can_whole c.args.plan.now (record_of c.args.format.now c.args.bytes.now) c.requires.plan_from.to (image_in c.sender_by-sender.result)
    (length c.args.plan.now.table - 1) 0 c.requires.plan_from.stands c.requires.held c.sender_by-sender.ensures refl refl
