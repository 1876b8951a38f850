use Rattle.std.proofs.Common.{◌≡◌, ◌∙◌, sym, subst, List, map, None, ◌-◌}
use Rattle.evp_cache.specs.Known.{Known, found_for, HasAt}
use Rattle.evp_cache.specs.Met.{known_of}
use Rattle.evp_cache.proofs.Indexed.{unknown, told}
use Rattle.evp_cache.proofs.cache_pass.CachePass.place.Goals as goal

pub returns-then-place-eq0-clause-none : goal.returns-then-place-eq0-clause-none
returns-then-place-eq0-clause-none c = subst (λ (ks : List Known). found_for ks c.args.from c.args.to ≡ None) c.self.view_is
    (unknown (map known_of c.self.inside.met.items) c.args.from c.args.to (sym (c.self.invariant.0 _ _) ∙ sym c.at-place.ensures ∙ c.if-place-eq0.true))

pub returns-clause-some : goal.returns-clause-some
returns-clause-some c = subst (λ (ks : List Known). HasAt ks (c.at-place.result - 1) c.args.from c.args.to) c.self.view_is
    (told _ _ _ _ _ c.self.invariant.0 c.at-place.ensures c.if-place-eq0.false)
