-- Formats as they are kept.
use Rattle.evp_profile.specs.Declarations.{types_declared}
use Rattle.evp_job.specs.declared.formats.FormatText.{FormatText as Kept}
use Rattle.evp_job.specs.declared.formats.Named.{Named as KeptNamed}
use Rattle.evp_job.specs.Formats.{FormatText, format_text, Named, named_with}

abbrev pub text_of : Kept → FormatText
text_of text = format_text text.name text.profile (types_declared text.types.items)

abbrev pub named_of : KeptNamed → Named
named_of named = named_with named.names.items named.known.items
