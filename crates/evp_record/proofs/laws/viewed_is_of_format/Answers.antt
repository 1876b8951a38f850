use Rattle.evp_record.proofs.ViewTypedAll.{view-typed}
use Rattle.evp_record.proofs.laws.viewed_is_of_format.Goals as goal

pub returns : goal.returns
returns c = view-typed
