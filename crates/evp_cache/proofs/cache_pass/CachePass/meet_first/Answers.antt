use Rattle.evp_cache.proofs.Meetings.{met_first}
use Rattle.evp_cache.proofs.cache_pass.CachePass.meet_first.Goals as goal

pub returns-clause-met : goal.returns-clause-met
returns-clause-met c =
    met_first _ _ _ _ _ _ _ _ c.in_ok-met.met c.in_ok-met.ensures.met c.in_ok-met.ensures.kept c.requires.new c.in_ok-learn.ensures.learned c.in_ok-learn.ensures.place
