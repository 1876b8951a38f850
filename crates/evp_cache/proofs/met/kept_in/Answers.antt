use Rattle.std.proofs.Common.{◌∙◌, sym}
use Rattle.evp_cache.proofs.Notes.{same_note, seen}
use Rattle.evp_cache.proofs.met.kept_in.Goals as goal

pub returns-clause-same : goal.returns-clause-same
returns-clause-same c = same_note _ _ c.get_as.ensures.cell (c.in-Some.ensures.value.0 ∙ sym (seen _ _ c.requires.known c.in-Some.ensures.value.1))
