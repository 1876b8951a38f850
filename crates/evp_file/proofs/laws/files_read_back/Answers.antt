use Rattle.evp_file.proofs.ReadBack.{read_back_law}
use Rattle.evp_file.proofs.laws.files_read_back.Goals as goal

pub returns : goal.returns
returns c = read_back_law
