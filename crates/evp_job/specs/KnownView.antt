-- The formats that stones may name, as they are kept.
use Rattle.evp_job.specs.declared.known.Declared.{Declared as Kept}
use Rattle.evp_job.specs.declared.known.Formats.{Formats}
use Rattle.evp_job.specs.Formats.{Named, named_with}
use Rattle.evp_job.specs.Stones.{Declared, declared_with}

abbrev pub formats_of : Formats → Named
formats_of formats = named_with formats.names.now formats.known.now

abbrev pub declared_of : Kept → Declared
declared_of declared = declared_with declared.number declared.format.now
