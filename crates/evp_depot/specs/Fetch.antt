-- What a depot's fault is to one who reads all bytes under a name.
use Rattle.evp_depot.specs.declared.depot.DepotFault.{DepotFault}
use Rattle.evp_depot.specs.declared.depot.DepotFault.TheVariants as fault
use Rattle.evp_depot.specs.declared.reading.Fetch.{Fetch}
use Rattle.evp_depot.specs.declared.reading.Fetch.TheVariants as fetch

abbrev pub fetch_of : DepotFault → Fetch
fetch_of fault.Absent = fetch.Absent
fetch_of fault.Failed = fetch.Failed
