use Rattle.evp_cache.specs.Known.{IsPassOf}
use Rattle.evp_speed.proofs.acts.through.Given as goal

abbrev pub invariant-loop-item : goal.invariant-loop-item
invariant-loop-item l = IsPassOf l.cache l.formats l.pass
