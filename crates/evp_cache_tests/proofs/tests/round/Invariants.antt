use Rattle.evp_cache.specs.Known.{IsPassOf}
use Rattle.evp_cache_tests.proofs.tests.round.Given as goal

-- the pass stays one of the cache
abbrev pub invariant-loop-pair : goal.invariant-loop-pair
invariant-loop-pair l = IsPassOf l.cache l.formats l.pass
