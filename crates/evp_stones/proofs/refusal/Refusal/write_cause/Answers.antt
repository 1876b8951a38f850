use Rattle.evp_file.specs.FaultText.{file_fault_text}
use Rattle.evp_job.specs.FaultText.{job_fault_text}
use Rattle.evp_stones.proofs.WroteText.{wrote_text}
use Rattle.evp_stones.proofs.refusal.Refusal.write_cause.Goals as goal

pub returns-in-Job : goal.returns-in-Job
returns-in-Job c =
    rw c.in-Job.is
    (wrote_text c.args.cause.now c.write.new.self (λ text. text.bytes) c.write.result
    (job_fault_text c.in-Job.fault) c.write.ensures.writes)

pub returns-in-Data : goal.returns-in-Data
returns-in-Data c =
    rw c.in-Data.is
    (wrote_text c.args.cause.now c.write-in-Data.new.self (λ text. text.bytes) c.write-in-Data.result (file_fault_text c.in-Data.fault)
    c.write-in-Data.ensures.writes)
