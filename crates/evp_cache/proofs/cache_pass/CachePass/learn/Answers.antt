use Rattle.std.proofs.Common.{◌≡◌, sym, subst, List, ◌∷◌, [], ◌++◌, map, None, arith}
use Rattle.std.proofs.lemmas.List.Elements.{All-push}
use Rattle.std.specs.Prelude.{IsSome}
use Rattle.std.specs.List.{All}
use Rattle.evp_cache.specs.declared.met.Met.{Met}
use Rattle.evp_cache.specs.Known.{Known, found_for}
use Rattle.evp_cache.specs.Met.{kept_of, known_of}
use Rattle.evp_cache.specs.Places.{IsIndex}
use Rattle.evp_cache.proofs.Indexed.{met_more}
use Rattle.evp_cache.proofs.cache_pass.CachePass.learn.Goals as goal

pub invariant_of-self-2 : goal.invariant_of-self-2
invariant_of-self-2 c =
    let more : c.push_reserved.new.self.items ≡ c.self.inside.met.items ++ c.args.met ∷ [] =
    grind (arith, c.push_reserved.ensures.items, c.reserve.ensures.items) in (
      subst (λ (ms : List Met). IsIndex c.set.new.self (map known_of ms)) (sym more)
          (met_more _ _ c.self.inside.met.items c.args.met _ (grind (arith, c.len-place.ensures)) c.self.invariant.0 c.in_ok-set.ensures.set
          (subst (λ (ks : List Known). found_for ks c.args.met.from c.args.met.to ≡ None) (sym c.self.view_is) c.requires.new)),
      subst (λ (ms : List Met). All (λ met. IsSome (kept_of met)) ms) (sym more)
          (All-push (λ (met : Met). IsSome (kept_of met)) _ _ c.self.invariant.1 c.requires.kept),
    )
