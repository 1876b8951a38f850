use Rattle.evp_gen.proofs.SentFiles.{read_law}
use Rattle.evp_gen.proofs.laws.sent_is_read.Goals as goal

pub returns : goal.returns
returns c = read_law
