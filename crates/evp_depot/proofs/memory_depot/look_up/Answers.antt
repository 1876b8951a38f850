use Rattle.std.proofs.Common.{refl}
use Rattle.evp_depot.proofs.FileLemmas.{get-files_of}
use Rattle.evp_depot.proofs.memory_depot.look_up.Goals as goal

pub returns-in-Some : goal.returns-in-Some
returns-in-Some c =
    rw (get-files_of c.args.files.now c.args.name.now, ← c.get.ensures.value, c.in-Some.is, c.as_slice.ensures.value) refl

pub returns-in-None : goal.returns-in-None
returns-in-None c = rw (get-files_of c.args.files.now c.args.name.now, ← c.get.ensures.value, c.in-None.is) refl
