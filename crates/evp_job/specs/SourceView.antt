-- Sources as they are kept.
use Rattle.std.specs.Prelude.{List, map, string_bytes}
use Rattle.evp_job.specs.declared.sources.SourceText.{SourceText}
use Rattle.evp_job.specs.Sources.{SourceShape, source_with}

abbrev pub source_of : SourceText → SourceShape
source_of source = source_with source.name (string_bytes source.file) source.stone

abbrev pub sources_of : List SourceText → List SourceShape
sources_of sources = map source_of sources
