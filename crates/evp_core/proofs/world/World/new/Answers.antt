use Rattle.std.proofs.Common.{◌≡◌, List, length, rules, arith, ap, subst, ◌∙◌}
use Rattle.evp_cache.specs.Known.{IsCacheOf}
use Rattle.evp_format.specs.Layout.{Layout}
use Rattle.evp_stone.specs.JobShape.{JobShape}
use Rattle.evp_core.specs.Lists.{ListsShape}
use Rattle.evp_core.proofs.Openings.{made_rules, made_opening, made_held}
use Rattle.evp_core.proofs.world.World.new.Goals as goal

pub invariant_of-result : goal.invariant_of-result
invariant_of-result c =
    let cells = c.in_ok-cache.cache in
    let formats : c.deref.result.now ≡ c.args.job.now.formats =
    c.deref.ensures.value ∙ ap (λ (j : JobShape). j.formats) c.parts-parts.ensures.value in
    record {
      held = made_held cells c.in_ok-lists.lists c.new-3.result.lists c.new-3.ensures c.in_ok-actors.actors.items c.args.job.now
          c.in_ok-lists.ensures.job c.job-has.ensures.has c.in_ok-lists.ensures.empty c.in_ok-actors.ensures c.parts-parts.ensures.kept
          (subst (λ (l : List Layout). IsCacheOf cells l) formats c.in_ok-cache.ensures.whole)
          (c.in_ok-cache.ensures.declared ∙ ap (λ (j : JobShape). j.declared) c.parts-parts.ensures.value);
      none = c.in_ok-room.ensures.items;
      enough = (
          let same = ap (λ (j : JobShape). length j.stones) (ap (λ (l : ListsShape). l.job) c.new-3.ensures ∙ c.in_ok-lists.ensures.job) in
          let stones = ap (λ (j : JobShape). length j.stones) c.parts-parts.ensures.value in
          let long : c.len.result ≡ length c.parts-parts.result.now.stones.items = search rules in
          let room = c.in_ok-room.ensures.capacity in
          omega arith);
    }

pub returns-clause-opens : goal.returns-clause-opens
returns-clause-opens c =
    made_opening c.in_ok-cache.cache c.in_ok-lists.lists c.new-3.result.lists c.new-3.ensures c.in_ok-actors.actors.items c.args.job.now
    c.in_ok-lists.ensures.job c.job-has.ensures.has c.in_ok-lists.ensures.empty c.in_ok-actors.ensures

pub returns-clause-rules : goal.returns-clause-rules
returns-clause-rules c =
    made_rules c.in_ok-cache.cache c.in_ok-lists.lists c.new-3.result.lists c.new-3.ensures c.in_ok-actors.actors.items c.args.job.now
    c.in_ok-lists.ensures.job c.job-has.ensures.has c.in_ok-lists.ensures.empty c.in_ok-actors.ensures
