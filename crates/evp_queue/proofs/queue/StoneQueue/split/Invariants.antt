use Rattle.evp_queue.proofs.queue.StoneQueue.split.Given as goal

abbrev pub ghosts-parted : goal.ghosts-parted
ghosts-parted g a = record { routes = a.first.now }
