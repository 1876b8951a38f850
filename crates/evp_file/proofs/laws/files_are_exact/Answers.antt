use Rattle.evp_file.proofs.FilesRead.{exact_law}
use Rattle.evp_file.proofs.laws.files_are_exact.Goals as goal

pub returns : goal.returns
returns c = exact_law
