use Rattle.std.proofs.Common.{Some}
use Rattle.evp_queue.proofs.queue.StoneQueue.new.Given as goal

abbrev pub ghosts-opened : goal.ghosts-opened
ghosts-opened g a = record { whole = Some a.whole.now; routes = a.routes.now }
