use Rattle.std.proofs.Common.{◌∙◌, sym, ap}
use Rattle.evp_cache.specs.Known.{Known}
use Rattle.evp_cache.proofs.Entries.{entry_of, entry_is, shared_cell, shared_found}
use Rattle.evp_cache.proofs.cache_pass.CachePass.shared.Goals as goal

pub kept_in-requires-clause-cell : goal.kept_in-requires-clause-cell
kept_in-requires-clause-cell c =
    let there = entry_of c.self.inside.met.items c.args.self.now c.args.place _ c.self.view_is c.requires.there c.index_mut-met.ensures.value in
    shared_cell c.index_mut-met.result.now _ c.if-is_some.ensures (c.requires.cell _ there)

pub returns-clause-shared : goal.returns-clause-shared
returns-clause-shared c k there =
    sym (ap (λ (e : Known). e.found) (entry_is c.self.inside.met.items c.args.self.now c.args.place _ k c.self.view_is
    c.requires.there c.index_mut-met.ensures.value there))
    ∙ shared_found c.index_mut-met.result.now _ c.if-is_some.ensures c.kept_in.ensures.value ∙ sym c.found.ensures.value
