use Rattle.std.proofs.Common.{◌∙◌, sym, ap}
use Rattle.evp_cache.specs.Known.{Known}
use Rattle.evp_cache.proofs.Entries.{entry_of, entry_is, own_found, not_shared}
use Rattle.evp_cache.proofs.cache_pass.CachePass.found.Goals as goal

pub unreachable-requires : goal.unreachable-requires
unreachable-requires c =
    let own = rw c.in_default.is at c.requires.own in
    let there = entry_of c.self.inside.met.items c.args.self.now c.args.place _ c.self.view_is c.requires.there c.index.ensures in
    not_shared c.index.result.now c.in-None.is (own _ there)

pub returns : goal.returns
returns c k there = c.found.ensures.value ∙ ap (λ kept. kept.found) c.deref.ensures
    ∙ sym (own_found c.index.result.now _ c.in-Some-own.is)
    ∙ ap (λ (e : Known). e.found) (entry_is c.self.inside.met.items c.args.self.now c.args.place _ k c.self.view_is c.requires.there c.index.ensures there)
