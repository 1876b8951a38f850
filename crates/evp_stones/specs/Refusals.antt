-- The line that a refusal writes, and the program's status.
use Rattle.std.specs.Prelude.{ℕ, List, [], ◌++◌, codes}
use Rattle.evp_base.specs.Quoted.{quoted}
use Rattle.evp_file.specs.FaultText.{file_fault_text, fault_offset}
use Rattle.evp_job.specs.FaultText.{job_fault_text}
use Rattle.evp_report.specs.Report.{counted, line_end}
use Rattle.evp_stones.specs.declared.refusal.Refusal.{Refusal}
use Rattle.evp_stones.specs.declared.refusal.Refusal.TheVariants.{Words, Absent, Read, TooLong}
use Rattle.evp_stones.specs.declared.refusal.Refusal.TheVariants.{NotJson, Job, Data, Order, Memory}

-- the text of the fault, where there is one
abbrev pub cause_text : Refusal → List ℕ
cause_text (Job fault) = job_fault_text fault
cause_text (Data name fault) = file_fault_text fault
cause_text other = []

-- a file has a fault of this text at this offset
abbrev pub data_text : List ℕ → ℕ → List ℕ → List ℕ
data_text name at cause =
    codes "data " ++ quoted name ++ counted (codes " at ") at ++ codes " " ++ cause

abbrev pub refusal_text : Refusal → List ℕ
refusal_text Words = codes "words"
refusal_text (Absent name) = codes "absent " ++ quoted name
refusal_text (Read name) = codes "read " ++ quoted name
refusal_text (TooLong name) = codes "too long " ++ quoted name
refusal_text NotJson = codes "not json"
refusal_text (Job fault) = codes "job " ++ job_fault_text fault
refusal_text (Data name fault) = data_text name (fault_offset fault) (file_fault_text fault)
refusal_text (Order name at) = data_text name at (codes "order")
refusal_text Memory = codes "memory"

abbrev pub refusal_line : Refusal → List ℕ
refusal_line refusal = codes "stones: " ++ refusal_text refusal ++ line_end

-- the program's status
abbrev pub refusal_status : Refusal → ℕ
refusal_status Words = 1
refusal_status (Absent name) = 2
refusal_status (Read name) = 3
refusal_status (TooLong name) = 4
refusal_status NotJson = 5
refusal_status (Job fault) = 6
refusal_status (Data name fault) = 7
refusal_status (Order name at) = 7
refusal_status Memory = 9
