-- The texts of faults.
use Rattle.std.specs.Prelude.{ℕ, List, codes}
use Rattle.evp_depot.specs.declared.depot.DepotFault.{DepotFault}
use Rattle.evp_depot.specs.declared.depot.DepotFault.TheVariants as depot
use Rattle.evp_depot.specs.declared.reading.Fetch.{Fetch}
use Rattle.evp_depot.specs.declared.reading.Fetch.TheVariants as fetch

-- why a read gave no bytes
abbrev pub depot_fault_text : DepotFault → List ℕ
depot_fault_text depot.Absent = codes "absent"
depot_fault_text depot.Failed = codes "failed"

-- why the bytes under a name weren't read
abbrev pub fetch_text : Fetch → List ℕ
fetch_text fetch.Absent = codes "absent"
fetch_text fetch.Failed = codes "failed"
fetch_text fetch.TooLong = codes "too long"
fetch_text fetch.Memory = codes "memory"
