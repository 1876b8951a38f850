use Rattle.evp_stones.proofs.bench.with_digest.Given as goal

-- the report is that of this job
abbrev pub ghosts-carried_and_hashed : goal.ghosts-carried_and_hashed
ghosts-carried_and_hashed g a = record { job = a.job }
