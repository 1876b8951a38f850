use Rattle.evp_base.proofs.NameLemmas.{IsUtf8-name}
use Rattle.evp_base.proofs.name.Name.as_str.Goals as goal

pub unreachable-requires : goal.unreachable-requires
unreachable-requires c =
    c.in-Err.ensures.cases.0 (rw c.as_bytes.ensures.value (IsUtf8-name c.args.self.now c.as_bytes.ensures.name))
